use Rattle.std.proofs.Common.{List, All, ap, subst}
use Rattle.atam.specs.declared.place.Place.{Place}
use Rattle.atam.specs.Sites.{InBox}
use Rattle.atam.specs.Placements.{HasDistinctSites}
use Rattle.assembly.proofs.Grids.{grid_inside, grid_distinct}
use Rattle.assembly.proofs.grid.Grid.area.Goals as goal

pub returns-clause-inside : goal.returns-clause-inside
returns-clause-inside c =
    let Inside : List Place → Type 0 = λ l. All (λ p. InBox c.self.inside.area p.site) l in
    subst Inside (ap (λ v. v.tiles) c.self.view_is) (grid_inside c.self.inside.area c.self.inside.cells.items c.self.inside.count c.self.invariant)

pub returns-clause-distinct : goal.returns-clause-distinct
returns-clause-distinct c =
    subst HasDistinctSites (ap (λ v. v.tiles) c.self.view_is) (grid_distinct c.self.inside.area c.self.inside.cells.items c.self.inside.count c.self.invariant)
