-- The bits of a word as a set of numbers.
use Rattle.std.specs.Prelude.{◌≡◌, ◌≢◌, ◌⊎◌, ◌↔◌, ℕ, ◌<◌, ◌≤◌, ◌-◌, ◌^◌, bit_or}
use Rattle.grow_core.specs.Core.{Owns, least, greatest, OwnsTwoOrMore}

-- a scout's name is the least of its numbers
abbrev pub NameIsLeast : Type 0
NameIsLeast = (owned : ℕ) → 0 < owned → owned < 2 ^ 64 →
    Owns owned (least owned) × ((n : ℕ) → Owns owned n → least owned ≤ n)

-- the number that a split gives away is the greatest
abbrev pub GivenNumberIsGreatest : Type 0
GivenNumberIsGreatest = (owned : ℕ) → 0 < owned → owned < 2 ^ 64 →
    Owns owned (greatest owned) × ((n : ℕ) → Owns owned n → n ≤ greatest owned)

-- two different numbers are owned
abbrev pub OwnsTwoNumbers : ℕ → Type 0
OwnsTwoNumbers owned = (a : ℕ) × (b : ℕ) × (a ≢ b) × Owns owned a × Owns owned b

abbrev pub TwoNumbersAreTwo : Type 0
TwoNumbersAreTwo = (owned : ℕ) → 0 < owned → owned < 2 ^ 64 → OwnsTwoOrMore owned ↔ OwnsTwoNumbers owned

-- who gives the greatest number away keeps just the others
abbrev pub OthersAreKept : Type 0
OthersAreKept = (owned n : ℕ) → 0 < owned → owned < 2 ^ 64 →
    Owns (owned - 2 ^ greatest owned) n ↔ (Owns owned n × (n ≢ greatest owned))

-- and who gets it has it alone
abbrev pub GreatestIsGiven : Type 0
GreatestIsGiven = (owned n : ℕ) → 0 < owned → owned < 2 ^ 64 → Owns (2 ^ greatest owned) n ↔ (n ≡ greatest owned)

-- two scouts together have the numbers of both
abbrev pub NumbersAreUnited : Type 0
NumbersAreUnited = (a b n : ℕ) → Owns (bit_or a b) n ↔ (Owns a n ⊎ Owns b n)

-- all numbers are those below 64
abbrev pub AllNumbersAreBelow64 : Type 0
AllNumbersAreBelow64 = (n : ℕ) → Owns (2 ^ 64 - 1) n ↔ (n < 64)
