use Rattle.std.proofs.Common.{◌∙◌}
use Rattle.type_cache.specs.SideSets.{is_within}
use Rattle.type_cache.proofs.SideNumbers.{within_by_number}
use Rattle.type_cache.proofs.side_set.SideSet.is_within.Goals as goal

pub returns : goal.returns
returns c = within_by_number c.self.inside.bits c.other.inside.bits c.self.invariant ∙ (λ k. is_within (c.self.view_is k) (c.other.view_is k))
