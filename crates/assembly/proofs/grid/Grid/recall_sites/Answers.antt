use Rattle.std.proofs.Common.{All, ap, subst}
use Rattle.atam.specs.Sites.{InBox}
use Rattle.atam.specs.Placements.{HasDistinctSites}
use Rattle.assembly.specs.Grids.{TileGrid}
use Rattle.assembly.proofs.Grids.{grid_inside, grid_distinct}
use Rattle.assembly.proofs.grid.Grid.recall_sites.Goals as goal

pub returns-clause-inside : goal.returns-clause-inside
returns-clause-inside c =
    let Inside : TileGrid → Type 0 = λ g. All (λ p. InBox g.area p.site) g.tiles in
    subst Inside c.self.view_is (grid_inside c.self.inside.area c.self.inside.cells.items c.self.inside.count c.self.invariant)

pub returns-clause-distinct : goal.returns-clause-distinct
returns-clause-distinct c =
    subst HasDistinctSites (ap (λ v. v.tiles) c.self.view_is) (grid_distinct c.self.inside.area c.self.inside.cells.items c.self.inside.count c.self.invariant)
