-- A rank is written by its digits but the last one, and the last one.
use Rattle.std.proofs.Common.{◌≡◌, ℕ, ◌+◌, ◌*◌, ◌/◌, ◌%◌, ◌^◌, ◌<◌, List, [], ◌∷◌, ◌++◌, length, take, decimal, refl, sym, ap, ◌∙◌, arith}
use Rattle.std.proofs.lemmas.Fmt.{decimal_digit, decimal_step}
use Rattle.std.proofs.lemmas.List.{take_all, take-append-le}

-- where it has one digit
pub one_digit : (tens digit : ℕ) → tens ≡ 0 → digit < 10 → (48 + digit) ∷ [] ≡ decimal (10 * tens + digit)
one_digit tens digit none less = let same : digit ≡ 10 * tens + digit = omega (arith, none) in sym (decimal_digit digit less) ∙ ap decimal same

digit_behind : (tens digit : ℕ) → 0 < tens → tens < 2 ^ 29 → digit < 10 → decimal tens ++ (48 + digit) ∷ [] ≡ decimal (10 * tens + digit)
digit_behind tens digit some small less =
    let by : decimal (10 * tens + digit) ≡ decimal ((10 * tens + digit) / 10) ++ (48 + (10 * tens + digit) % 10) ∷ [] =
    decimal_step (10 * tens + digit) (omega (arith, some)) (omega (arith, small, less)) in
    let quotient : (10 * tens + digit) / 10 ≡ tens = omega (arith, less) in
    let rest : (10 * tens + digit) % 10 ≡ digit = omega (arith, less) in
    sym (by ∙ rw (quotient, rest) refl)

front_is : (digits part rest : List ℕ) → part ≡ digits → take (length digits) (part ++ rest) ≡ digits
front_is digits part rest same =
    let size : length part ≡ length digits = ap length same in
    take-append-le (length digits) part rest (omega (arith, size)) ∙ take_all (length digits) part (omega (arith, size)) ∙ same

-- and where it has more, which stand at the front of a text
pub more_digits : (tens digit : ℕ) (digits part rest : List ℕ) → 0 < tens → tens < 2 ^ 29 → digit < 10 → part ≡ digits → digits ≡ decimal tens →
    take (length digits) (part ++ rest) ++ (48 + digit) ∷ [] ≡ decimal (10 * tens + digit)
more_digits tens digit digits part rest some small less same text =
    ap (λ l. l ++ (48 + digit) ∷ []) (front_is digits part rest same ∙ text) ∙ digit_behind tens digit some small less
