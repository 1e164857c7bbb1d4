-- A row is read bit by bit, from the west.
use Rattle.std.proofs.Common.{◌≡◌, ◌<◌, ◌≤◌, ◌+◌, ◌-◌, ◌*◌, ◌^◌, ℕ, suc, Bool, true, false, map, Option, Some, None, option_map, refl, sym, ◌∙◌, ap, arith}
use Rattle.std.specs.List.{range_with_len}
use Rattle.std.proofs.Math.Nat.{pow-succ', mul_assoc, mul_comm, add_assoc, add-mul}
use Rattle.std.proofs.lemmas.List.FromFn.{length-map-range_with_len}
use Rattle.counter_compile.specs.Tiles.{digit}
use Rattle.counter_compile.specs.Counters.{number_of}

module _ (f : ℕ → Option Bool) (bits : ℕ) where
  -- the number of the row, where the first columns are read as a value
  pub so_far : ℕ → ℕ → Option ℕ
  so_far value column = option_map (λ low. value * 2 ^ (bits - column) + low) (number_of (map f (range_with_len column (bits - column))))

  none_read : (o : Option ℕ) (n : ℕ) → o ≡ option_map (λ low. 0 * 2 ^ n + low) o
  none_read None n = refl
  none_read (Some m) n = ap (λ k. Some k) (omega arith)

  pub read_none : number_of (map f (range_with_len 0 bits)) ≡ so_far 0 0
  unfolding so_far
  read_none =
      let all : bits - 0 ≡ bits = omega arith in
      rw all (none_read (number_of (map f (range_with_len 0 bits))) bits)

  more : (o : Option ℕ) (value p d : ℕ) → option_map (λ low. value * (2 * p) + low) (option_map (λ low. d * p + low) o) ≡ option_map (λ low. (2 * value + d) * p + low) o
  more None value p d = refl
  more (Some m) value p d =
      let twice : value * (2 * p) ≡ 2 * value * p = sym (mul_assoc value 2 p) ∙ ap (λ n. n * p) (mul_comm value 2) in
      ap (λ k. Some k) (ap (λ n. n + (d * p + m)) twice ∙ sym (add_assoc (2 * value * p) (d * p) m) ∙ ap (λ n. n + m) (sym (add-mul (2 * value) d p)))

  pub read_more : (value column : ℕ) (b : Bool) → column < bits → f column ≡ Some b → so_far value column ≡ so_far (2 * value + digit b) (column + 1)
  unfolding so_far
  read_more value column b less there =
      let rest : bits - column ≡ suc (bits - (column + 1)) = omega (arith, less) in
      let long = length-map-range_with_len f (column + 1) (bits - (column + 1)) in
      rw (rest, there, long, pow-succ' 2 (bits - (column + 1))) (more (number_of (map f (range_with_len (column + 1) (bits - (column + 1))))) value (2 ^ (bits - (column + 1))) (digit b))

  pub read_gap : (value column : ℕ) → column < bits → f column ≡ None → so_far value column ≡ None
  unfolding so_far
  read_gap value column less gone =
      let rest : bits - column ≡ suc (bits - (column + 1)) = omega (arith, less) in
      rw (rest, gone) refl

  pub read_all : (value : ℕ) → so_far value bits ≡ Some value
  unfolding so_far
  read_all value =
      let none : bits - bits ≡ 0 = omega arith in
      rw none (ap (λ n. Some n) (omega arith))

-- one more bit
pub still_small : (value column : ℕ) (b : Bool) → value < 2 ^ column → 2 * value + digit b < 2 ^ (column + 1)
still_small value column b small =
    let next : column + 1 ≡ suc column = omega arith in
    let twice : 2 ^ (column + 1) ≡ 2 * 2 ^ column = ap (λ n. 2 ^ n) next ∙ pow-succ' 2 column in
    let one = at_most_one b in
    omega (arith, small, twice, one)
  where
    at_most_one : (b : Bool) → digit b ≤ 1
    at_most_one true = omega arith
    at_most_one false = omega arith
