-- How replies are counted.
use Rattle.std.specs.Prelude.{◌+◌, ◌<◌, ◌≤◌, ◌^◌}
use Rattle.line_protocol.specs.Source.{one_if}
use Rattle.trace_types.specs.world.Replay.{is_accepted, is_answered, is_refused}
use Rattle.trace_types.specs.declared.reply.Reply.{Reply}
use Rattle.trace_world.specs.declared.counts.Counts.{Counts}

-- the counts with one more line that got this reply
abbrev pub counted_with : Counts → Reply → Counts
counted_with counts reply = record {
  lines = counts.lines + 1;
  accepted = counts.accepted + one_if (is_accepted reply);
  answered = counts.answered + one_if (is_answered reply);
  refused = counts.refused + one_if (is_refused reply);
}

-- One more line can be counted: no count is above that of the lines, and that one is far from its end.
pub record CanCount (counts : Counts) : Type 0 where
  pub lines : counts.lines < 2 ^ 60
  pub accepted : counts.accepted ≤ counts.lines
  pub answered : counts.answered ≤ counts.lines
  pub refused : counts.refused ≤ counts.lines
