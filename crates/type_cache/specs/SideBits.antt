-- A set of sides as a number below 16, with a bit for each side.
use Rattle.std.specs.Prelude.{◌≡◌, ℕ, ◌+◌, ◌*◌, ◌/◌, ◌%◌, ◌<◌, ◌==◌, Bool, if◌then◌else◌}
use Rattle.std.proofs.Common.{◌∙◌, arith}
use Rattle.std.proofs.lemmas.Bool.Decides.{nat_tests}
use Rattle.type_cache.specs.SideSets.{SideSet}

abbrev pub bit : Bool → ℕ
bit b = if b then 1 else 0

-- the number of a set, and the set of a number
abbrev pub bits_of : SideSet → ℕ
bits_of a = bit a.north + 2 * bit a.east + 4 * bit a.south + 8 * bit a.west

abbrev pub set_of : ℕ → SideSet
set_of bits = record { north = bits % 2 == 1; east = bits / 2 % 2 == 1; south = bits / 4 % 2 == 1; west = bits / 8 % 2 == 1 }

-- the number is back from its set
bit_back : (n : ℕ) → n < 2 → bit (n == 1) ≡ n
bit_back n small = grind (arith, nat_tests)

pub bits_back : (bits : ℕ) → bits < 16 → bits_of (set_of bits) ≡ bits
bits_back bits small =
    let n = bit_back (bits % 2) (omega arith) in
    let e = bit_back (bits / 2 % 2) (omega arith) in
    let s = bit_back (bits / 4 % 2) (omega arith) in
    let w = bit_back (bits / 8 % 2) (omega arith) in
    let sum : bits % 2 + 2 * (bits / 2 % 2) + 4 * (bits / 4 % 2) + 8 * (bits / 8 % 2) ≡ bits = omega (arith, small) in
    (λ k. n k + 2 * e k + 4 * s k + 8 * w k) ∙ sum
