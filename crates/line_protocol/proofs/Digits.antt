-- The digits of short numbers.
use Rattle.std.proofs.Common.{◌≡◌, ◌+◌, ◌<◌, ◌≤◌, ◌^◌, ◌/◌, ◌%◌, ℕ, [], ◌∷◌, ◌++◌, ap, ◌∙◌, arith}
use Rattle.std.specs.Fmt.{decimal}
use Rattle.std.proofs.lemmas.Fmt.{decimal_digit, decimal_step}

pub two_digits : (number : ℕ) → 10 ≤ number → number < 2 ^ 64 → number / 10 < 10 → decimal number ≡ (48 + number / 10) ∷ (48 + number % 10) ∷ []
two_digits number many fits few =
    decimal_step number many fits ∙ ap (λ digits. digits ++ ((48 + number % 10) ∷ [])) (decimal_digit (number / 10) few)

pub three_digits : (number : ℕ) → 100 ≤ number → number < 2 ^ 64 → number / 10 / 10 < 10
    → decimal number ≡ (48 + number / 10 / 10) ∷ (48 + number / 10 % 10) ∷ (48 + number % 10) ∷ []
three_digits number many fits few =
    decimal_step number (omega (arith, many)) fits
    ∙ ap (λ digits. digits ++ ((48 + number % 10) ∷ [])) (two_digits (number / 10) (omega (arith, many)) (omega (arith, fits)) few)

pub four_digits : (number : ℕ) → 1000 ≤ number → number < 2 ^ 64 → number / 10 / 10 / 10 < 10
    → decimal number ≡ (48 + number / 10 / 10 / 10) ∷ (48 + number / 10 / 10 % 10) ∷ (48 + number / 10 % 10) ∷ (48 + number % 10) ∷ []
four_digits number many fits few =
    decimal_step number (omega (arith, many)) fits
    ∙ ap (λ digits. digits ++ ((48 + number % 10) ∷ [])) (three_digits (number / 10) (omega (arith, many)) (omega (arith, fits)) few)
