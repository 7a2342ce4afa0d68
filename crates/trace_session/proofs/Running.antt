-- What a desk answers is a run.
use Rattle.std.proofs.Common.{◌≡◌, inl, inr, true, false, List, [], ◌∷◌, refl, sym, ap, subst, ◌∙◌, arith}
use Rattle.std.specs.Prelude.{Option, Some, None}
use Rattle.trace_types.specs.declared.code.Code.TheVariants.{Line, NoMemory}
use Rattle.trace_types.specs.declared.request.Request.{Request}
use Rattle.trace_types.specs.declared.reply.Reply.{Reply}
use Rattle.trace_types.specs.declared.reply.Reply.TheVariants.{Refused}
use Rattle.trace_types.specs.tenant.Tenant.{Tenant, Steps, step}
use Rattle.tenant_desk.specs.Desks.{Desk}
use Rattle.trace_session.specs.Answers.{AnswersEach, AnswersLine}
use Rattle.trace_session.specs.Lent.{TakesRequest}
use Rattle.trace_session.specs.RunsThrough.{RunsThrough}

runs_none : (old new : Tenant) → new ≡ old → RunsThrough old [] [] new
runs_none old new same = record { marks = []; one_each = refl; stand = tt; replies_are = refl; leaves = same }

runs_no_request : (old new : Tenant) (requests : List (Option Request)) (reply : Reply) (replies : List Reply) → reply ≡ Refused Line → RunsThrough old requests replies new
    → RunsThrough old (None ∷ requests) (reply ∷ replies) new
runs_no_request old new requests reply replies is runs = record {
  marks = false ∷ runs.marks;
  one_each = omega (arith, runs.one_each);
  stand = runs.stand;
  replies_are = ap (λ first. first ∷ replies) is ∙ ap (λ rest. Refused Line ∷ rest) runs.replies_are;
  leaves = runs.leaves;
}

runs_step : (old between new : Tenant) (request : Request) (requests : List (Option Request)) (reply : Reply) (replies : List Reply) → Steps old request reply between → RunsThrough between requests replies new
    → RunsThrough old (Some request ∷ requests) (reply ∷ replies) new
runs_step old between new request requests reply replies (inl stepped) runs =
    let to : (step old request).1 ≡ between = ap (λ (pair : Reply × Tenant). pair.1) stepped in
    let reply_is : reply ≡ (step old request).0 = sym (ap (λ (pair : Reply × Tenant). pair.0) stepped) in
    let later : RunsThrough (step old request).1 requests replies new = subst (λ tenant. RunsThrough tenant requests replies new) (sym to) runs in
    record {
      marks = false ∷ later.marks;
      one_each = omega (arith, later.one_each);
      stand = later.stand;
      replies_are = ap (λ first. first ∷ replies) reply_is ∙ ap (λ rest. (step old request).0 ∷ rest) later.replies_are;
      leaves = later.leaves;
    }
runs_step old between new request requests reply replies (inr (may, is, same)) runs =
    let later : RunsThrough old requests replies new = subst (λ tenant. RunsThrough tenant requests replies new) same runs in
    record {
      marks = true ∷ later.marks;
      one_each = omega (arith, later.one_each);
      stand = (may, later.stand);
      replies_are = ap (λ first. first ∷ replies) is ∙ ap (λ rest. Refused NoMemory ∷ rest) later.replies_are;
      leaves = later.leaves;
    }

runs_line : (old between : Desk) (new : Tenant) (request : Option Request) (requests : List (Option Request)) (reply : Reply) (replies : List Reply) → AnswersLine TakesRequest old request reply between
    → RunsThrough between.tenant requests replies new → RunsThrough old.tenant (request ∷ requests) (reply ∷ replies) new
runs_line old between new None requests reply replies (is, same) runs =
    runs_no_request old.tenant new requests reply replies is (subst (λ (desk : Desk). RunsThrough desk.tenant requests replies new) same runs)
runs_line old between new (Some request) requests reply replies takes runs = runs_step old.tenant between.tenant new request requests reply replies takes.steps runs

pub desk_runs : (old new : Desk) (requests : List (Option Request)) (replies : List Reply) → AnswersEach TakesRequest old requests replies new → RunsThrough old.tenant requests replies new.tenant
desk_runs old new [] [] same = runs_none old.tenant new.tenant (ap (λ (desk : Desk). desk.tenant) same)
desk_runs old new [] (reply ∷ replies) none = absurd none
desk_runs old new (request ∷ requests) [] none = absurd none
desk_runs old new (request ∷ requests) (reply ∷ replies) (between, line, rest) =
    runs_line old between new.tenant request requests reply replies line (desk_runs between new requests replies rest)
