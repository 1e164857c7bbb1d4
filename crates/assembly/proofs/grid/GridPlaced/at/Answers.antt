use Rattle.std.proofs.Common.{true≢false, sym, ◌∙◌, ap, subst}
use Rattle.atam.specs.Placements.{HasDistinctSites, tile_at}
use Rattle.assembly.proofs.Grids.{grid_outside, grid_distinct}
use Rattle.assembly.proofs.grid.GridPlaced.at.Goals as goal

pub returns-then-not-holds-clause-tile : goal.returns-then-not-holds-clause-tile
returns-then-not-holds-clause-tile c =
    sym (sym (ap (λ v. tile_at v.tiles c.args.site) c.self.view_is)
    ∙ grid_outside c.self.inside.area c.self.inside.cells.items c.self.inside.count c.self.invariant c.args.site (λ inside.
    true≢false (sym (c.holds.ensures.1 inside) ∙ c.if-not-holds.true)))

pub returns-then-not-holds-clause-distinct : goal.returns-then-not-holds-clause-distinct
returns-then-not-holds-clause-distinct c =
    subst HasDistinctSites (ap (λ v. v.tiles) c.self.view_is) (grid_distinct c.self.inside.area c.self.inside.cells.items c.self.inside.count c.self.invariant)

pub returns-clause-distinct : goal.returns-clause-distinct
returns-clause-distinct c =
    subst HasDistinctSites (ap (λ v. v.tiles) c.self.view_is) (grid_distinct c.self.inside.area c.self.inside.cells.items c.self.inside.count c.self.invariant)
