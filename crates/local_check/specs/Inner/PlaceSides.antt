-- Both sets of sides of a place as a number below 256.
use Rattle.std.specs.Prelude.{◌≡◌, ℕ, ◌+◌, ◌*◌, ◌/◌, ◌%◌, ◌<◌, List, map}
use Rattle.std.proofs.Common.{◌∙◌, arith}
use Rattle.type_cache.specs.SideSets.{SideSet}
use Rattle.type_cache.specs.SideBits.{set_of, bits_of, bits_back}

-- the sides that interact with the seeds or with an earlier place, and the output sides
pub record PlaceSides : Type 0 where
  pub earlier : SideSet
  pub outputs : SideSet

-- the one set of each place, and the other
abbrev pub earlier_sets : List PlaceSides → List SideSet
earlier_sets places = map (λ sides. sides.earlier) places

abbrev pub output_sets : List PlaceSides → List SideSet
output_sets places = map (λ sides. sides.outputs) places

-- the number of both sets, and both sets of a number
abbrev pub both_bits : PlaceSides → ℕ
both_bits sides = bits_of sides.earlier + 16 * bits_of sides.outputs

abbrev pub both_of : ℕ → PlaceSides
both_of bits = record { earlier = set_of (bits % 16); outputs = set_of (bits / 16) }

-- the number is back from both sets
pub both_back : (bits : ℕ) → bits < 256 → both_bits (both_of bits) ≡ bits
both_back bits small =
    let earlier = bits_back (bits % 16) (omega arith) in
    let outputs = bits_back (bits / 16) (omega (arith, small)) in
    let sum : bits % 16 + 16 * (bits / 16) ≡ bits = omega arith in
    (λ k. earlier k + 16 * outputs k) ∙ sum
