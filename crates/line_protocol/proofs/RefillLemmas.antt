-- What a read into the room behind kept bytes leaves.
use Rattle.std.proofs.Common.{◌≡◌, ℕ, ◌+◌, ◌-◌, ◌≤◌, List, [], ◌++◌, length, take, drop, slice_range, sym, ap, ◌∙◌, arith, Result, Ok, Err, zero-add}
use Rattle.std.proofs.Math.Seq.{take-append-add}
use Rattle.std.proofs.lemmas.List.{take-append-le}
use Rattle.std.proofs.lemmas.List.Edits.{take-paste}
use Rattle.std.proofs.Common.{length-drop}
use Rattle.std.specs.List.{copy_within}
use borrow.Rule.Slice.PartMut.{put_mid, post_of}
use Rattle.line_protocol.specs.declared.stop.Stop.{Stop}
use Rattle.line_protocol.specs.Ends.{Comes}
use Rattle.line_protocol.specs.Source.{bytes_given, bytes_read}
use Rattle.line_protocol.proofs.Ranges.{length-slice_range}

-- the bytes that were moved to the front
moved : (bytes : List ℕ) (s e : ℕ) → s ≤ e → e ≤ length bytes → take (e - s) (copy_within bytes s e 0) ≡ slice_range bytes s e
moved bytes s e from to =
    let fits : e - s ≤ length (drop s bytes) = simp length-drop (omega arith) in
    ap (λ n. take n (copy_within bytes s e 0)) (sym (zero-add (e - s))) ∙ take-paste bytes 0 (drop s bytes) (e - s) (omega arith) fits

-- the first m behind them
behind : (front after : List ℕ) (a m : ℕ) → length front ≡ a → take (a + m) (front ++ after) ≡ front ++ take m after
behind front after a m len = rw (← len) (take-append-add front after m)

pub refilled : (given given' bytes moved_bytes buffer : List ℕ) (s e k : ℕ) (r : Result ℕ Stop)
    → s ≤ e → e ≤ length bytes → moved_bytes ≡ copy_within bytes s e 0 → given' ≡ given ++ bytes_given r buffer → bytes_read r ≤ length buffer
    → Comes given given' (slice_range bytes s e) (take (e - s + bytes_read r) (put_mid (e - s) k moved_bytes buffer))
refilled given given' bytes moved_bytes buffer s e k (Ok n) from to is grows fits =
    let front : take (e - s) moved_bytes ≡ slice_range bytes s e = ap (take (e - s)) is ∙ moved bytes s e from to in
    record {
      gave = take n buffer;
      grows = grows;
      adds =
          rw front
          (behind (slice_range bytes s e) (buffer ++ post_of (e - s) k moved_bytes) (e - s) n (length-slice_range bytes s e from to)
          ∙ ap (λ after. slice_range bytes s e ++ after) (take-append-le n buffer (post_of (e - s) k moved_bytes) fits));
    }
refilled given given' bytes moved_bytes buffer s e k (Err stop) from to is grows fits =
    let front : take (e - s) moved_bytes ≡ slice_range bytes s e = ap (take (e - s)) is ∙ moved bytes s e from to in
    record {
      gave = [];
      grows = grows;
      adds =
          rw front
          (behind (slice_range bytes s e) (buffer ++ post_of (e - s) k moved_bytes) (e - s) 0 (length-slice_range bytes s e from to));
    }
