-- What a check of a field that passed says of it.
use Rattle.std.proofs.Common.{◌≡◌, ℕ, ◌+◌, ◌≤◌, ◌<◌, Bool, true, false, cond, List, [], ◌∷◌, length, Option, Some, None, Ok, refl, ap, subst, ◌∙◌}
use Rattle.std.specs.Prelude.{ℤ, pos, negsuc, nat_abs, int_le, ◌&&◌, not, bytes_eq, position, is_some, ok_or, ◌||◌}
use Rattle.std.specs.List.{list_any, position_from}
use Rattle.std.proofs.lemmas.Bool.{leb-true}
use Rattle.std.proofs.lemmas.List.Quantifiers.{position-Some}
use Rattle.std.proofs.lemmas.Iterator.Adapters.{position_from-zero}
use Rattle.tile_io.specs.declared.fault.Cause.TheVariants.{BadName, DoubleName, UnknownName, OutOfRange, BadNumber}
use Rattle.tile_io.specs.Checks.{◌>>=◌, require, number_in, number_value, are_digits, without_minus, count_in, declared, referred}
use Rattle.tile_io.proofs.Checking.{bind_ok, require_ok}
use Rattle.tile_io.proofs.Digits.{in_range}

pub and_both : (a b : Bool) → (a && b) ≡ true → (a ≡ true) × (b ≡ true)
and_both true b e = (refl, e)
and_both false b e = absurd (cc e)

pub not_true : (b : Bool) → not b ≡ true → b ≡ false
not_true true e = absurd (cc e)
not_true false e = refl

range_by : (b : Bool) (n m : ℤ) → (require b OutOfRange >>= λ _. Ok n) ≡ Ok m → (b ≡ true) × (n ≡ m)
range_by true n m e = (refl, cc e)
range_by false n m e = absurd (cc e)

-- a number that was read is in its range
pub number_ok : (least most : ℤ) (word : List ℕ) (n : ℤ) → number_in least most word ≡ Ok n → (int_le least n ≡ true) × (int_le n most ≡ true)
unfolding number_in
number_ok least most word n e =
    let first = bind_ok (require (are_digits (without_minus word)) BadNumber) (λ _. in_range least most (number_value word)) n e in
    let ranged = range_by (int_le least (number_value word) && int_le (number_value word) most) (number_value word) n first.2 in
    let both = and_both (int_le least (number_value word)) (int_le (number_value word) most) ranged.0 in
    let Low : ℤ → Type 0 = λ z. int_le least z ≡ true in
    let High : ℤ → Type 0 = λ z. int_le z most ≡ true in
    (subst Low ranged.1 both.0, subst High ranged.1 both.1)

count_by : (least most : ℕ) (z : ℤ) → int_le (pos least) z ≡ true → int_le z (pos most) ≡ true → (least ≤ nat_abs z) × (nat_abs z ≤ most)
count_by least most (pos n) low high = (leb-true least n low, leb-true n most high)
count_by least most (negsuc n) low high = absurd (cc low)

-- a count that was read is in its range
pub count_ok : (least most : ℕ) (word : List ℕ) (n : ℕ) → count_in least most word ≡ Ok n → (least ≤ n) × (n ≤ most)
count_ok least most word n e =
    let first = bind_ok (number_in (pos least) (pos most) word) (λ z. Ok (nat_abs z)) n e in
    let ranged = number_ok (pos least) (pos most) word first.0 first.1 in
    let counted = count_by least most first.0 ranged.0 ranged.1 in
    let same : nat_abs first.0 ≡ n = cc (first.2) in
    let Between : ℕ → Type 0 = λ m. (least ≤ m) × (m ≤ most) in
    subst Between same counted

found_by : (o : Option ℕ) (n : ℕ) → ok_or o UnknownName ≡ Ok n → o ≡ Some n
found_by None n e = absurd (cc e)
found_by (Some m) n e = let same : m ≡ n = cc e in ap (λ k. Some k) same

-- an index that a name refers to is in range
pub referred_ok : (is_name : List ℕ → Bool) (names : List (List ℕ)) (word : List ℕ) (n : ℕ) → referred is_name names word ≡ Ok n → n < length names
referred_ok is_name names word n e =
    let first = bind_ok (require (is_name word) BadName) (λ _. ok_or (position (bytes_eq word) names) UnknownName) n e in
    (position-Some (bytes_eq word) names n [] (found_by (position (bytes_eq word) names) n first.2)).0

-- a name that was declared is a name and a new one
pub declared_ok : (is_name : List ℕ → Bool) (names : List (List ℕ)) (word new : List ℕ) → declared is_name names word ≡ Ok new → (is_name new ≡ true) × (list_any (bytes_eq new) names ≡ false)
declared_ok is_name names word new e =
    let first = bind_ok (require (is_name word) BadName) (λ _. require (not (list_any (bytes_eq word) names)) DoubleName >>= (λ _. Ok word)) new e in
    let second = bind_ok (require (not (list_any (bytes_eq word) names)) DoubleName) (λ _. Ok word) new first.2 in
    let same : word ≡ new = cc (second.2) in
    let Good : List ℕ → Type 0 = λ w. (is_name w ≡ true) × (list_any (bytes_eq w) names ≡ false) in
    subst Good same (require_ok (is_name word) BadName first.0 first.1, not_true (list_any (bytes_eq word) names) (require_ok (not (list_any (bytes_eq word) names)) DoubleName second.0 second.1))

found_or : (b : Bool) (i : ℕ) (rest : Option ℕ) (any : Bool) → is_some rest ≡ any → is_some (cond b (Some i) rest) ≡ (b || any)
found_or true i rest any e = refl
found_or false i rest any e = e

found_any : {X : Type 0} (p : X → Bool) (i : ℕ) (xs : List X) → is_some (position_from p i xs) ≡ list_any p xs
found_any p i [] = refl
found_any p i (x ∷ xs) = found_or (p x) i (position_from p (i + 1) xs) (list_any p xs) (found_any p (i + 1) xs)

-- whether an element passes, by the place of the first one
pub is_some-position : {X : Type 0} (p : X → Bool) (xs : List X) → is_some (position p xs) ≡ list_any p xs
is_some-position p xs = ap is_some (position_from-zero p xs) ∙ found_any p 0 xs
