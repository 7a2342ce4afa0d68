-- What is due to the lines of a session.
use Rattle.std.specs.Prelude.{◌≡◌, ℕ, List, [], ◌∷◌, Option, Some, None, if◌then◌else◌}
use Rattle.trace_types.specs.text.Name.{Text}
use Rattle.trace_types.specs.declared.code.Code.TheVariants.{Line, SessionOver}
use Rattle.trace_types.specs.declared.request.Request.{Request}
use Rattle.trace_types.specs.declared.reply.Reply.{Reply}
use Rattle.trace_types.specs.declared.reply.Reply.TheVariants.{Refused}
use Rattle.trace_session.specs.Asking.{is_quit}

-- What a line asks was answered: with 400, and nothing changes, where it spells no request.
abbrev pub AnswersLine : {S : Type 0} → (S → Request → Reply → S → Type 0) → S → Option Request → Reply → S → Type 0
AnswersLine Does old None reply new = (reply ≡ Refused Line) × (new ≡ old)
AnswersLine Does old (Some request) reply new = Does old request reply new

-- What lines ask was answered, one after another.
abbrev pub AnswersEach : {S : Type 0} → (S → Request → Reply → S → Type 0) → S → List (Option Request) → List Reply → S → Type 0
AnswersEach Does old [] [] new = new ≡ old
AnswersEach Does old [] (reply ∷ replies) new = ⊥
AnswersEach Does old (request ∷ requests) [] new = ⊥
AnswersEach {S = S} Does old (request ∷ requests) (reply ∷ replies) new =
    (between : S) × AnswersLine Does old request reply between × AnswersEach Does between requests replies new

-- the reply to the line after the requests, if there is one: none to `quit`, and else that the session is over
abbrev pub last_reply : ℕ → Option Text → List Reply
last_reply most None = []
last_reply most (Some text) = if is_quit most text then [] else Refused SessionOver ∷ []
