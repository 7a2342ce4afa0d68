-- What the definitions give at inputs that are written out.
use Rattle.std.proofs.Common.{◌≡◌, ℕ, List, [], ◌∷◌, ◌++◌, replicate, refl, codes}
use Rattle.std.specs.Fmt.{digits}
use Rattle.trace_types.specs.text.Name.{Text}
use Rattle.trace_types.specs.tenant.Limits.{Limits, default_limits}
use Rattle.trace_types.specs.tenant.Tenant.{fresh, replies}
use Rattle.trace_types.specs.text.Lines.{lines}
use Rattle.trace_types.specs.world.Replay.{NoRequest, asked, entries, output}
use Rattle.trace_types.specs.declared.order.Order.TheVariants as order
use Rattle.trace_types.specs.declared.request.Request.TheVariants as request
use Rattle.trace_types.specs.declared.reply.Reply.TheVariants.{Accepted, Ordering, Count}

-- what is written for the bytes, where the one tenant is x and nothing lacked memory
abbrev written_for : Limits → List ℕ → Text
written_for limits bytes = output (codes "x" ∷ []) limits [] (entries (codes "x" ∷ []) (lines bytes) [])

pub replies-one_event : replies (fresh default_limits) (request.Local (codes "root") ∷ request.Order 1 1 ∷ request.Count ∷ []) ≡ Accepted 1 ∷ Ordering order.Same ∷ Count 1 1 0 ∷ []
replies-one_event = refl

pub output-one_event :
    written_for default_limits
    (codes "x local root" ++ 10 ∷ []
    ++ codes "x order 1 1" ++ 10 ∷ []
    ++ codes "x count" ++ 10 ∷ [])
    ≡ codes "x 201 1" ++ 10 ∷ []
    ++ codes "x 200 same" ++ 10 ∷ []
    ++ codes "x 200 1 1 0" ++ 10 ∷ []
unfolding digits
output-one_event = refl

pub output-nothing : written_for default_limits [] ≡ []
output-nothing = refl

pub output-orders_and_refusals :
    written_for default_limits
    (codes "x local root" ++ 10 ∷ []
    ++ codes "x local root" ++ 10 ∷ []
    ++ codes "x order 1 2" ++ 10 ∷ []
    ++ codes "x order 2 1" ++ 10 ∷ []
    ++ codes "x order 3 1" ++ 10 ∷ []
    ++ codes "x local q" ++ 10 ∷ []
    ++ codes "x sent root a" ++ 10 ∷ [])
    ≡ codes "x 201 1" ++ 10 ∷ []
    ++ codes "x 201 2" ++ 10 ∷ []
    ++ codes "x 200 before" ++ 10 ∷ []
    ++ codes "x 200 after" ++ 10 ∷ []
    ++ codes "x 404 no event" ++ 10 ∷ []
    ++ codes "x 401 no task" ++ 10 ∷ []
    ++ codes "x 400 line" ++ 10 ∷ []
unfolding digits
output-orders_and_refusals = refl

pub output-tasks_come_and_go :
    written_for default_limits
    (codes "x local root" ++ 10 ∷ []
    ++ codes "x stamp 1" ++ 10 ∷ []
    ++ codes "x spawn root a" ++ 10 ∷ []
    ++ codes "x stamp 2" ++ 10 ∷ []
    ++ codes "x local a" ++ 10 ∷ []
    ++ codes "x local root" ++ 10 ∷ []
    ++ codes "x order 3 4" ++ 10 ∷ []
    ++ codes "x stamp 3" ++ 10 ∷ []
    ++ codes "x stamp 4" ++ 10 ∷ []
    ++ codes "x end a" ++ 10 ∷ []
    ++ codes "x join root a" ++ 10 ∷ []
    ++ codes "x stamp 5" ++ 10 ∷ []
    ++ codes "x stamp 6" ++ 10 ∷ []
    ++ codes "x order 4 5" ++ 10 ∷ []
    ++ codes "x order 5 6" ++ 10 ∷ []
    ++ codes "x task a" ++ 10 ∷ []
    ++ codes "x count" ++ 10 ∷ [])
    ≡ codes "x 201 1" ++ 10 ∷ []
    ++ codes "x 200 [1;1]" ++ 10 ∷ []
    ++ codes "x 201 2" ++ 10 ∷ []
    ++ codes "x 200 [(1,0);2]" ++ 10 ∷ []
    ++ codes "x 201 3" ++ 10 ∷ []
    ++ codes "x 201 4" ++ 10 ∷ []
    ++ codes "x 200 concurrent" ++ 10 ∷ []
    ++ codes "x 200 [(0,1);(2,0,1)]" ++ 10 ∷ []
    ++ codes "x 200 [(1,0);(2,1,0)]" ++ 10 ∷ []
    ++ codes "x 201 5" ++ 10 ∷ []
    ++ codes "x 201 6" ++ 10 ∷ []
    ++ codes "x 200 [(0,1);(2,0,2)]" ++ 10 ∷ []
    ++ codes "x 200 [1;4]" ++ 10 ∷ []
    ++ codes "x 200 concurrent" ++ 10 ∷ []
    ++ codes "x 200 before" ++ 10 ∷ []
    ++ codes "x 200 joined 5" ++ 10 ∷ []
    ++ codes "x 200 6 2 0" ++ 10 ∷ []
unfolding digits
output-tasks_come_and_go = refl

pub output-messages_and_lists :
    written_for default_limits
    (codes "x local root" ++ 10 ∷ []
    ++ codes "x stamp 1" ++ 10 ∷ []
    ++ codes "x spawn root a" ++ 10 ∷ []
    ++ codes "x stamp 2" ++ 10 ∷ []
    ++ codes "x local a" ++ 10 ∷ []
    ++ codes "x local root" ++ 10 ∷ []
    ++ codes "x order 3 4" ++ 10 ∷ []
    ++ codes "x stamp 3" ++ 10 ∷ []
    ++ codes "x stamp 4" ++ 10 ∷ []
    ++ codes "x send a m" ++ 10 ∷ []
    ++ codes "x stamp 5" ++ 10 ∷ []
    ++ codes "x order 4 5" ++ 10 ∷ []
    ++ codes "x recv root m" ++ 10 ∷ []
    ++ codes "x stamp 6" ++ 10 ∷ []
    ++ codes "x past 6" ++ 10 ∷ []
    ++ codes "x end a" ++ 10 ∷ []
    ++ codes "x task a" ++ 10 ∷ []
    ++ codes "x join root a" ++ 10 ∷ []
    ++ codes "x stamp 7" ++ 10 ∷ []
    ++ codes "x stamp 8" ++ 10 ∷ []
    ++ codes "x task a" ++ 10 ∷ []
    ++ codes "x concurrent 4" ++ 10 ∷ []
    ++ codes "x concurrent 6" ++ 10 ∷ []
    ++ codes "x cut 1" ++ 10 ∷ []
    ++ codes "x cut 5" ++ 10 ∷ []
    ++ codes "x cut 6" ++ 10 ∷ []
    ++ codes "x cut 8" ++ 10 ∷ []
    ++ codes "x order 5 5" ++ 10 ∷ []
    ++ codes "x order 8 1" ++ 10 ∷ []
    ++ codes "x event 1" ++ 10 ∷ []
    ++ codes "x event 6" ++ 10 ∷ []
    ++ codes "x message m" ++ 10 ∷ []
    ++ codes "x recv root m" ++ 10 ∷ []
    ++ codes "x join root a" ++ 10 ∷ []
    ++ codes "x local a" ++ 10 ∷ []
    ++ codes "x join root q" ++ 10 ∷ []
    ++ codes "x spawn root a" ++ 10 ∷ []
    ++ codes "x join root root" ++ 10 ∷ []
    ++ codes "x count" ++ 10 ∷ []
    ++ codes "x order 0 1" ++ 10 ∷ []
    ++ codes "x order 9 1" ++ 10 ∷ []
    ++ codes "x order 01 1" ++ 10 ∷ []
    ++ codes "x past 1" ++ 10 ∷ []
    ++ codes "x message q" ++ 10 ∷ []
    ++ codes "x recv root q" ++ 10 ∷ [])
    ≡ codes "x 201 1" ++ 10 ∷ []
    ++ codes "x 200 [1;1]" ++ 10 ∷ []
    ++ codes "x 201 2" ++ 10 ∷ []
    ++ codes "x 200 [(1,0);2]" ++ 10 ∷ []
    ++ codes "x 201 3" ++ 10 ∷ []
    ++ codes "x 201 4" ++ 10 ∷ []
    ++ codes "x 200 concurrent" ++ 10 ∷ []
    ++ codes "x 200 [(0,1);(2,0,1)]" ++ 10 ∷ []
    ++ codes "x 200 [(1,0);(2,1,0)]" ++ 10 ∷ []
    ++ codes "x 201 5" ++ 10 ∷ []
    ++ codes "x 200 [(0,1);(2,0,2)]" ++ 10 ∷ []
    ++ codes "x 200 concurrent" ++ 10 ∷ []
    ++ codes "x 201 6" ++ 10 ∷ []
    ++ codes "x 200 [(1,0);4]" ++ 10 ∷ []
    ++ codes "x 200 5 1 2 3 4 5" ++ 10 ∷ []
    ++ codes "x 201 7" ++ 10 ∷ []
    ++ codes "x 200 ended 7" ++ 10 ∷ []
    ++ codes "x 201 8" ++ 10 ∷ []
    ++ codes "x 200 [(0,1);(2,0,3)]" ++ 10 ∷ []
    ++ codes "x 200 [1;5]" ++ 10 ∷ []
    ++ codes "x 200 joined 7" ++ 10 ∷ []
    ++ codes "x 200 3 3 5 7" ++ 10 ∷ []
    ++ codes "x 200 1 7" ++ 10 ∷ []
    ++ codes "x 200 1 1" ++ 10 ∷ []
    ++ codes "x 200 2 2 5" ++ 10 ∷ []
    ++ codes "x 200 2 5 6" ++ 10 ∷ []
    ++ codes "x 200 2 7 8" ++ 10 ∷ []
    ++ codes "x 200 same" ++ 10 ∷ []
    ++ codes "x 200 after" ++ 10 ∷ []
    ++ codes "x 200 local root - 0" ++ 10 ∷ []
    ++ codes "x 200 recv root m 2 4 5" ++ 10 ∷ []
    ++ codes "x 200 5 1 6" ++ 10 ∷ []
    ++ codes "x 407 already received" ++ 10 ∷ []
    ++ codes "x 409 already joined" ++ 10 ∷ []
    ++ codes "x 403 task ended" ++ 10 ∷ []
    ++ codes "x 401 no task" ++ 10 ∷ []
    ++ codes "x 402 task exists" ++ 10 ∷ []
    ++ codes "x 408 not ended" ++ 10 ∷ []
    ++ codes "x 200 8 2 1" ++ 10 ∷ []
    ++ codes "x 404 no event" ++ 10 ∷ []
    ++ codes "x 404 no event" ++ 10 ∷ []
    ++ codes "x 400 line" ++ 10 ∷ []
    ++ codes "x 200 0" ++ 10 ∷ []
    ++ codes "x 405 no message" ++ 10 ∷ []
    ++ codes "x 405 no message" ++ 10 ∷ []
unfolding digits
output-messages_and_lists = refl

-- a message that its sender receives, and the limit of messages
pub output-messages_full :
    written_for (record { events = 4096; tasks = 512; messages = 1 })
    (codes "x send root m" ++ 10 ∷ []
    ++ codes "x recv root m" ++ 10 ∷ []
    ++ codes "x event 2" ++ 10 ∷ []
    ++ codes "x stamp 2" ++ 10 ∷ []
    ++ codes "x send root m" ++ 10 ∷ []
    ++ codes "x send root n" ++ 10 ∷ [])
    ≡ codes "x 201 1" ++ 10 ∷ []
    ++ codes "x 201 2" ++ 10 ∷ []
    ++ codes "x 200 recv root m 1 1" ++ 10 ∷ []
    ++ codes "x 200 [1;2]" ++ 10 ∷ []
    ++ codes "x 406 message exists" ++ 10 ∷ []
    ++ codes "x 415 messages full" ++ 10 ∷ []
unfolding digits
output-messages_full = refl

pub output-lines_of_no_request :
    written_for default_limits
    (replicate 200 97 ++ 10 ∷ []
    ++ replicate 201 97 ++ 10 ∷ []
    ++ 10 ∷ []
    ++ codes "q count" ++ 10 ∷ []
    ++ codes "x  count" ++ 10 ∷ []
    ++ codes "x" ++ 10 ∷ []
    ++ codes "x count")
    ≡ codes "? 400 line" ++ 10 ∷ []
    ++ codes "? 400 line" ++ 10 ∷ []
    ++ codes "? 400 line" ++ 10 ∷ []
    ++ codes "? 420 no tenant" ++ 10 ∷ []
    ++ codes "x 400 line" ++ 10 ∷ []
    ++ codes "x 400 line" ++ 10 ∷ []
    ++ codes "x 200 0 1 0" ++ 10 ∷ []
unfolding digits
output-lines_of_no_request = refl

pub output-events_full :
    written_for (record { events = 1; tasks = 512; messages = 2048 })
    (codes "x local root" ++ 10 ∷ []
    ++ codes "x local root" ++ 10 ∷ [])
    ≡ codes "x 201 1" ++ 10 ∷ []
    ++ codes "x 413 events full" ++ 10 ∷ []
unfolding digits
output-events_full = refl

pub lines-nothing : lines [] ≡ []
lines-nothing = refl

pub lines-one_end : lines (10 ∷ []) ≡ [] ∷ []
lines-one_end = refl

pub lines-return_and_end : lines (codes "x count" ++ 13 ∷ 10 ∷ []) ≡ codes "x count" ∷ []
lines-return_and_end = refl

-- a return that no end of line follows stays, and so does the first of two
pub lines-return : lines (codes "x count" ++ 13 ∷ []) ≡ (codes "x count" ++ 13 ∷ []) ∷ []
lines-return = refl

pub lines-two_returns_and_end : lines (codes "x count" ++ 13 ∷ 13 ∷ 10 ∷ []) ≡ (codes "x count" ++ 13 ∷ []) ∷ []
lines-two_returns_and_end = refl

pub asked-return : asked (codes "x" ∷ []) (codes "x count" ++ 13 ∷ []) ≡ NoRequest 0
asked-return = refl

pub lines-blank_between : lines (codes "x count" ++ 10 ∷ 10 ∷ codes "x count") ≡ codes "x count" ∷ [] ∷ codes "x count" ∷ []
lines-blank_between = refl

-- a message that two tasks receive, and what of each task had a part in an event
pub output-many_receivers :
    written_for default_limits
    (codes "x spawn root a" ++ 10 ∷ []
    ++ codes "x spawn root b" ++ 10 ∷ []
    ++ codes "x send root m" ++ 10 ∷ []
    ++ codes "x recv a m" ++ 10 ∷ []
    ++ codes "x recv b m" ++ 10 ∷ []
    ++ codes "x recv a m" ++ 10 ∷ []
    ++ codes "x message m" ++ 10 ∷ []
    ++ codes "x order 4 5" ++ 10 ∷ []
    ++ codes "x stamp 3" ++ 10 ∷ []
    ++ codes "x stamp 4" ++ 10 ∷ []
    ++ codes "x stamp 5" ++ 10 ∷ []
    ++ codes "x cut 4" ++ 10 ∷ []
    ++ codes "x cut 6" ++ 10 ∷ [])
    ≡ codes "x 201 1" ++ 10 ∷ []
    ++ codes "x 201 2" ++ 10 ∷ []
    ++ codes "x 201 3" ++ 10 ∷ []
    ++ codes "x 201 4" ++ 10 ∷ []
    ++ codes "x 201 5" ++ 10 ∷ []
    ++ codes "x 407 already received" ++ 10 ∷ []
    ++ codes "x 200 3 2 4 5" ++ 10 ∷ []
    ++ codes "x 200 concurrent" ++ 10 ∷ []
    ++ codes "x 200 [((1,0),0);(1,(1,1,0),0)]" ++ 10 ∷ []
    ++ codes "x 200 [(0,1);(2,(0,1,0),0)]" ++ 10 ∷ []
    ++ codes "x 200 [((0,1),0);(1,2,0)]" ++ 10 ∷ []
    ++ codes "x 200 2 3 4" ++ 10 ∷ []
    ++ codes "x 404 no event" ++ 10 ∷ []
unfolding digits
output-many_receivers = refl
