-- Bytes that are words: those that pass a test which spaces and newlines fail, and printed numbers.
use Rattle.std.proofs.Common.{◌≡◌, ℕ, suc, ◌^◌, ◌≤◌, ◌<◌, ◌==◌, Bool, true, false, List, ◌∷◌, length, get_or, decimal, pos, refl, sym, subst, ◌∙◌, arith}
use Rattle.std.specs.Prelude.{ℤ, negsuc, nat_abs}
use Rattle.std.specs.Fmt.{signed_decimal}
use Rattle.std.specs.List.{list_all}
use Rattle.std.proofs.lemmas.Bool.{eqb-true}
use Rattle.std.proofs.lemmas.List.Sums.{AllPass-from_list_all}
use Rattle.std.proofs.lemmas.List.Elements.{All-cons}
use Rattle.tile_io.specs.Checks.{is_digit}
use Rattle.tile_io.proofs.Cuts.{is_space, is_newline}
use Rattle.tile_io.proofs.Spelled.{IsWord}
use Rattle.tile_io.proofs.NumberSpelled.{digits_of_decimal}

differs_by : (p : ℕ → Bool) (a b : ℕ) (t : Bool) → (b == a) ≡ t → p a ≡ false → p b ≡ true → t ≡ false
differs_by p a b true e fails passes =
    let Passes : ℕ → Type 0 = λ n. p n ≡ true in
    let wrong : false ≡ true = sym fails ∙ subst Passes (eqb-true b a e) passes in
    absurd (cc wrong)
differs_by p a b false e fails passes = refl

pub word_from : (p : ℕ → Bool) (word : List ℕ) → p 32 ≡ false → p 10 ≡ false → 0 < length word → list_all p word ≡ true → IsWord word
word_from p word space newline some all = record {
  some = some;
  no_space = λ k d l. differs_by p 32 (get_or word k d) (is_space (get_or word k d)) refl space (AllPass-from_list_all p word all k d l);
  no_newline = λ k d l. differs_by p 10 (get_or word k d) (is_newline (get_or word k d)) refl newline (AllPass-from_list_all p word all k d l);
}

pub IsWord-decimal : (n : ℕ) → n < 10 ^ 10 → IsWord (decimal n)
IsWord-decimal n small = let h = digits_of_decimal n small in word_from is_digit (decimal n) refl refl h.2 h.0

pub length-decimal : (n : ℕ) → n < 10 ^ 10 → length (decimal n) ≤ 10
length-decimal n small = (digits_of_decimal n small).3

with_minus : (word : List ℕ) → IsWord word → IsWord (45 ∷ word)
with_minus word h = record {
  some = omega arith;
  no_space = All-cons (λ b. is_space b ≡ false) 45 word refl h.no_space;
  no_newline = All-cons (λ b. is_newline b ≡ false) 45 word refl h.no_newline;
}

pub IsWord-signed : (z : ℤ) → nat_abs z < 10 ^ 10 → IsWord (signed_decimal z)
IsWord-signed (pos n) small = IsWord-decimal n small
IsWord-signed (negsuc n) small = with_minus (decimal (suc n)) (IsWord-decimal (suc n) small)

pub length-signed : (z : ℤ) → nat_abs z < 10 ^ 10 → length (signed_decimal z) ≤ 11
length-signed (pos n) small = let h = length-decimal n small in omega (arith, h)
length-signed (negsuc n) small = let h = length-decimal (suc n) small in omega (arith, h)
