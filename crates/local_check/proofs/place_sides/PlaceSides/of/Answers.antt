use Rattle.std.proofs.Common.{◌≡◌, ◌+◌, ◌*◌, ◌/◌, ◌%◌, ◌∙◌, ap, arith}
use Rattle.type_cache.specs.SideBits.{set_of}
use Rattle.local_check.proofs.place_sides.PlaceSides.of.Goals as goal

pub returns : goal.returns
returns c =
    let low = c.bits.result in
    let high = c.bits-2.result in
    let small = c.bits.ensures.small in
    let low_back : (low + 16 * high) % 16 ≡ low = omega (arith, small) in
    let high_back : (low + 16 * high) / 16 ≡ high = omega (arith, small) in
    let earlier = ap set_of low_back ∙ c.bits.ensures.back in
    let outputs = ap set_of high_back ∙ c.bits-2.ensures.back in
    λ k. record { earlier = earlier k; outputs = outputs k }
