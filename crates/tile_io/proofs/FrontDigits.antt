-- The digits at the front of bytes.
use Rattle.std.proofs.Common.{◌≡◌, ℕ, ◌+◌, ◌-◌, ◌*◌, ◌^◌, ◌≤◌, ◌<◌, true, false, List, ◌∷◌, ◌++◌, length, take, drop, get_or, inl, inr, refl, sym, ap, ◌∙◌, arith, length-append, length-take-le}
use Rattle.std.proofs.Math.ListN.{get_or-append}
use Rattle.std.proofs.Math.Nat.{pow-le-pow_right}
use Rattle.std.proofs.Math.Seq.{get_or-append_seam}
use Rattle.std.proofs.lemmas.Bool.{cases_order, le-leb}
use Rattle.std.proofs.lemmas.List.{get_or-take}
use Rattle.std.proofs.lemmas.List.Sums.{fold_more}
use Rattle.tile_io.specs.Checks.{is_digit, are_digits, digits_value}
use Rattle.tile_io.specs.FrontDigits.{StartsWithDigits, HasNoDigits}
use Rattle.tile_io.proofs.Digits.{digits_parts, digits_each, digit_at}
use Rattle.tile_io.proofs.Cuts.{byte_at}

-- one digit more
pub value_more : (bytes : List ℕ) (i size : ℕ) → i < length bytes → digits_value (take i bytes) ≡ size → digits_value (take (i + 1) bytes) ≡ 10 * size + (get_or bytes i 0 - 48)
unfolding digits_value
value_more bytes i size within value = fold_more (λ n digit. 10 * n + (digit - 48)) 0 bytes i 0 within ∙ ap (λ n. 10 * n + (get_or bytes i 0 - 48)) value

pub value_none : (bytes : List ℕ) → digits_value (take 0 bytes) ≡ 0
unfolding digits_value
value_none bytes = refl

-- a number of so few digits is small
pub small_digits : (number i most : ℕ) → number < 10 ^ i → i ≤ most → number < 10 ^ most
small_digits number i most small few = let grown : 10 ^ i ≤ 10 ^ most = pow-le-pow_right (omega arith) few in omega (arith, small, grown)

-- the digits in front of the byte that ends them
pub digits_before : (end most : ℕ) (bytes : List ℕ) (i number : ℕ) → 0 < i → i ≤ most → most ≤ 8 → i < length bytes → get_or bytes i 0 ≡ end → ((k : ℕ) → k < i → is_digit (get_or bytes k 0) ≡ true) →
    digits_value (take i bytes) ≡ number → StartsWithDigits end most bytes number (take (length bytes - (i + 1)) (drop (i + 1) bytes))
digits_before end most bytes i number some few fits within is digits value =
    let word = take i bytes in
    let size_is : length word ≡ i = length-take-le i bytes (omega (arith, within)) in
    record {
      word = word;
      cut = byte_at bytes end i within is;
      digits = digits_each word (omega (arith, size_is, some)) (omega (arith, size_is, few, fits)) (λ k less. let before : k < i = omega (arith, less, size_is) in ap is_digit (get_or-take i bytes k 0 before) ∙ digits k before);
      few = omega (arith, size_is, few);
      value = value;
    }

module _ (end : ℕ) (bytes word rest : List ℕ) (cut : bytes ≡ word ++ end ∷ rest) (digits : are_digits word ≡ true) where
  -- what digits in front of a byte are, and the byte
  digit_of : (k : ℕ) → k < length word → is_digit (get_or bytes k 0) ≡ true
  digit_of k less =
      let p = digit_at word ((digits_parts word digits).2) k less in
      let digit : is_digit (get_or word k 0) ≡ true = rw (le-leb 48 (get_or word k 0) p.0, le-leb (get_or word k 0) 57 p.1) refl in
      ap (λ l. is_digit (get_or l k 0)) cut ∙ ap is_digit (get_or-append word (end ∷ rest) 0 k less) ∙ digit

  end_behind : get_or bytes (length word) 0 ≡ end
  end_behind = ap (λ l. get_or l (length word) 0) cut ∙ get_or-append_seam word end rest 0

  -- which is no digit
  never_a_digit : is_digit end ≡ false → is_digit (get_or bytes (length word) 0) ≡ true → ⊥
  never_a_digit other e = let clash : true ≡ false = sym e ∙ ap is_digit end_behind ∙ other in absurd (cc clash)

-- digits, and behind them a byte that is no digit, nor ends any
pub no_digits_at : (end most : ℕ) (bytes : List ℕ) (i : ℕ) → is_digit end ≡ false → ((k : ℕ) → k < i → is_digit (get_or bytes k 0) ≡ true) → is_digit (get_or bytes i 0) ≡ false → (get_or bytes i 0 ≡ end → i ≡ 0) →
    HasNoDigits end most bytes
no_digits_at end most bytes i other before no_digit ends = λ word rest cut digits few.
    let n = length word in
    let behind : get_or bytes n 0 ≡ end = end_behind end bytes word rest cut digits in
    let some : 1 ≤ n = (digits_parts word digits).0 in
    elim (cases_order i n) [
      | inl same ↦ let first : i ≡ 0 = ends (ap (λ k. get_or bytes k 0) same ∙ behind) in absurd (omega (arith, first, same, some))
      | inr apart ↦ elim apart [
        | inl less ↦ let clash : true ≡ false = sym (digit_of end bytes word rest cut digits i less) ∙ no_digit in absurd (cc clash)
        | inr more ↦ never_a_digit end bytes word rest cut digits other (before n more)
      ]
    ]

-- digits up to the end, or more than so many
pub no_digits_to : (end most : ℕ) (bytes : List ℕ) (i : ℕ) → is_digit end ≡ false → ((k : ℕ) → k < i → is_digit (get_or bytes k 0) ≡ true) → ((n : ℕ) → n ≤ most → n < length bytes → n < i) → HasNoDigits end most bytes
no_digits_to end most bytes i other before to = λ word rest cut digits few.
    let n = length word in
    let whole : length bytes ≡ n + length (end ∷ rest) = ap length cut ∙ length-append word (end ∷ rest) in
    never_a_digit end bytes word rest cut digits other (before n (to n few (omega (arith, whole))))
