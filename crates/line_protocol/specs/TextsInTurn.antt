-- Texts that are written one behind the other, and with what patience.
use Rattle.std.specs.Prelude.{◌≡◌, ℕ, ◌+◌, ◌<◌, ◌⊎◌, List, [], ◌∷◌, ◌++◌, length}
use Rattle.trace_types.specs.text.Name.{Text}
use Rattle.line_protocol.specs.Patience.{SinkCall, EachPatiently, HasFailed, failed_calls, last_flush_waits, waits_between}

-- The calls since wrote these texts, each with patience of its own.
pub record WritesTexts (before after : List SinkCall) (texts : List Text) : Type 0 where
  pub more : List SinkCall
  pub calls : after ≡ more ++ before
  pub each : EachPatiently 0 texts more

-- A front of the first of the texts, and not all of it; nothing where there is none.
abbrev pub BeginsFirst : Text → List Text → Type 0
BeginsFirst begun [] = begun ≡ []
BeginsFirst begun (text ∷ texts) = (rest : Text) × (text ≡ begun ++ rest) × (0 < length rest)

-- While the first of these texts was written, from this place on, 1048576 writes were interrupted.
abbrev pub WaitsInFirst : ℕ → List Text → List SinkCall → Type 0
WaitsInFirst from [] calls = ⊥
WaitsInFirst from (text ∷ texts) calls = waits_between from (from + length text) calls ≡ 1048576

-- How a write fault came, where these texts were not written whole: the last call failed and none before it; or none
-- failed, and 1048576 writes of one text were interrupted, or the last 1048576 calls are flushes that were.
abbrev pub BreaksOffAt : ℕ → List Text → List SinkCall → Type 0
BreaksOffAt from texts calls =
    HasFailed calls
    ⊎ ((failed_calls calls ≡ 0) × (WaitsInFirst from texts calls ⊎ (last_flush_waits calls ≡ 1048576)))
