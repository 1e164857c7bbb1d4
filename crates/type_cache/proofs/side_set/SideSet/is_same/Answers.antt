use Rattle.std.proofs.Common.{◌≡◌, ◌∙◌, sym, ap, arith}
use Rattle.std.proofs.lemmas.Bool.Decides.{nat_tests}
use Rattle.type_cache.specs.SideBits.{set_of, bits_of, bits_back}
use Rattle.type_cache.proofs.side_set.SideSet.is_same.Goals as goal

pub returns : goal.returns
returns c =
    let a = c.self.inside.bits in
    let b = c.other.inside.bits in (
      (λ test. let same : a ≡ b = grind (arith, nat_tests) in sym c.self.view_is ∙ ap set_of same ∙ c.other.view_is),
      (λ same.
          let sets : set_of a ≡ set_of b = c.self.view_is ∙ same ∙ sym c.other.view_is in
          let bits : a ≡ b = sym (bits_back a c.self.invariant) ∙ ap bits_of sets ∙ bits_back b c.other.invariant in
          grind (arith, nat_tests)),
    )
