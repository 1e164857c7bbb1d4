use Rattle.std.proofs.Common.{refl, sym, ◌∙◌}
use Rattle.std.proofs.Math.Facts.{Fits-lt-pow}
use Rattle.tile_system.proofs.SameNames.{same_by_fours}
use Rattle.tile_system.proofs.name.has_same_ends_of_four.Goals as goal

pub returns : goal.returns
returns c =
    let first = sym c.four_at.ensures ∙ c.if-four_at.false ∙ c.four_at-2.ensures in
    let last = sym c.four_at-3.ensures ∙ c.if-four_at-2.false ∙ c.four_at-4.ensures in
    let same = same_by_fours c.args.one.now c.args.other.now (λ i. Fits-lt-pow (c.type_inv.one i)) (λ i. Fits-lt-pow (c.type_inv.other i)) c.requires.same_length c.requires.long c.requires.short first last in
    (λ yes. same, λ equal. refl)
