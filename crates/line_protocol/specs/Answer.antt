-- The two parts of a reply.
use Rattle.std.specs.Prelude.{[], ◌++◌, codes, decimal, length}
use Rattle.trace_types.specs.text.Name.{Text}
use Rattle.trace_types.specs.text.Text.{reply_text, kind_text, name_text, numbers_text}
use Rattle.trace_types.specs.declared.reply.Reply.{Reply}
use Rattle.trace_types.specs.declared.reply.Reply.TheVariants as reply

-- a reply up to its list or its stamp, all of it where it has neither
abbrev pub reply_head : Reply → Text
reply_head (reply.Accepted event) = reply_text (reply.Accepted event)
reply_head (reply.Ordering order) = reply_text (reply.Ordering order)
reply_head (reply.List events) = codes "200 " ++ decimal (length events)
reply_head (reply.Event row) =
    codes "200 " ++ kind_text row.kind ++ codes " " ++ row.task ++ codes " " ++ name_text row.name ++ codes " " ++ decimal (length row.preds)
reply_head (reply.Stamp text) = codes "200 "
reply_head (reply.Task state last) = reply_text (reply.Task state last)
reply_head (reply.Message sent receipts) = codes "200 " ++ decimal sent ++ codes " " ++ decimal (length receipts)
reply_head (reply.Count events tasks messages) = reply_text (reply.Count events tasks messages)
reply_head (reply.Refused code) = reply_text (reply.Refused code)

-- the numbers of its list, or its stamp
abbrev pub reply_tail : Reply → Text
reply_tail (reply.Accepted event) = []
reply_tail (reply.Ordering order) = []
reply_tail (reply.List events) = numbers_text events
reply_tail (reply.Event row) = numbers_text row.preds
reply_tail (reply.Stamp text) = text
reply_tail (reply.Task state last) = []
reply_tail (reply.Message sent receipts) = numbers_text receipts
reply_tail (reply.Count events tasks messages) = []
reply_tail (reply.Refused code) = []
