use Rattle.std.proofs.Common.{◌≡◌, ◌<◌, ◌+◌, set, length, ap, sym, subst, arith}
use Rattle.atam.specs.declared.area.BoxArea.{BoxArea}
use Rattle.assembly.specs.Cells.{cell_count, site_at}
use Rattle.assembly.specs.Grids.{TileGrid}
use Rattle.assembly.proofs.Grids.{count-small, put_grid, put_here, put_others, put_placements, put_count, grid_distinct}
use Rattle.assembly.proofs.grid.Grid.put_at.Goals as goal

pub overflow_add-self : goal.overflow_add-self
overflow_add-self c = omega (arith, count-small c.self.inside.area c.self.inside.cells.items c.self.inside.count c.self.invariant)

pub invariant_of-self : goal.invariant_of-self
invariant_of-self c =
    let own : c.args.self.now.area ≡ c.self.inside.area = sym (ap (λ (g : TileGrid). g.area) c.self.view_is) in
    let within : c.args.index < cell_count c.self.inside.area = subst (λ (a : BoxArea). c.args.index < cell_count a) own c.requires.within in
    let number : site_at c.self.inside.area c.args.index ≡ c.args.place.site = subst (λ (a : BoxArea). site_at a c.args.index ≡ c.args.place.site) own c.requires.number in
    let below : c.args.index < length c.self.inside.cells.items = omega (arith, within, c.self.invariant.sites) in
    put_grid c.self.inside.area c.self.inside.cells.items c.self.inside.count c.self.invariant c.args.self.now.tiles (ap (λ v. v.tiles) c.self.view_is)
    c.args.index c.args.place number below c.requires.empty

pub returns-clause-here : goal.returns-clause-here
returns-clause-here c =
    let own : c.args.self.now.area ≡ c.self.inside.area = sym (ap (λ (g : TileGrid). g.area) c.self.view_is) in
    let within : c.args.index < cell_count c.self.inside.area = subst (λ (a : BoxArea). c.args.index < cell_count a) own c.requires.within in
    let number : site_at c.self.inside.area c.args.index ≡ c.args.place.site = subst (λ (a : BoxArea). site_at a c.args.index ≡ c.args.place.site) own c.requires.number in
    let below : c.args.index < length c.self.inside.cells.items = omega (arith, within, c.self.invariant.sites) in
    put_here c.self.inside.area c.self.inside.cells.items c.self.inside.count c.self.invariant c.args.self.now.tiles (ap (λ v. v.tiles) c.self.view_is)
    c.args.index c.args.place number below c.requires.empty

pub returns-clause-others : goal.returns-clause-others
returns-clause-others c =
    let own : c.args.self.now.area ≡ c.self.inside.area = sym (ap (λ (g : TileGrid). g.area) c.self.view_is) in
    let within : c.args.index < cell_count c.self.inside.area = subst (λ (a : BoxArea). c.args.index < cell_count a) own c.requires.within in
    let number : site_at c.self.inside.area c.args.index ≡ c.args.place.site = subst (λ (a : BoxArea). site_at a c.args.index ≡ c.args.place.site) own c.requires.number in
    let below : c.args.index < length c.self.inside.cells.items = omega (arith, within, c.self.invariant.sites) in
    put_others c.self.inside.area c.self.inside.cells.items c.self.inside.count c.self.invariant c.args.self.now.tiles (ap (λ v. v.tiles) c.self.view_is)
    c.args.index c.args.place number below c.requires.empty

pub returns-clause-placements : goal.returns-clause-placements
returns-clause-placements c =
    let own : c.args.self.now.area ≡ c.self.inside.area = sym (ap (λ (g : TileGrid). g.area) c.self.view_is) in
    let within : c.args.index < cell_count c.self.inside.area = subst (λ (a : BoxArea). c.args.index < cell_count a) own c.requires.within in
    let number : site_at c.self.inside.area c.args.index ≡ c.args.place.site = subst (λ (a : BoxArea). site_at a c.args.index ≡ c.args.place.site) own c.requires.number in
    let below : c.args.index < length c.self.inside.cells.items = omega (arith, within, c.self.invariant.sites) in
    put_placements c.self.inside.area c.self.inside.cells.items c.self.inside.count c.self.invariant c.args.self.now.tiles (ap (λ v. v.tiles) c.self.view_is)
    c.args.index c.args.place number below c.requires.empty

pub returns-clause-count : goal.returns-clause-count
returns-clause-count c =
    let own : c.args.self.now.area ≡ c.self.inside.area = sym (ap (λ (g : TileGrid). g.area) c.self.view_is) in
    let within : c.args.index < cell_count c.self.inside.area = subst (λ (a : BoxArea). c.args.index < cell_count a) own c.requires.within in
    let number : site_at c.self.inside.area c.args.index ≡ c.args.place.site = subst (λ (a : BoxArea). site_at a c.args.index ≡ c.args.place.site) own c.requires.number in
    let below : c.args.index < length c.self.inside.cells.items = omega (arith, within, c.self.invariant.sites) in
    put_count c.self.inside.area c.self.inside.cells.items c.self.inside.count c.self.invariant c.args.self.now.tiles (ap (λ v. v.tiles) c.self.view_is)
    c.args.index c.args.place number below c.requires.empty

pub returns-clause-distinct : goal.returns-clause-distinct
returns-clause-distinct c =
    let own : c.args.self.now.area ≡ c.self.inside.area = sym (ap (λ (g : TileGrid). g.area) c.self.view_is) in
    let within : c.args.index < cell_count c.self.inside.area = subst (λ (a : BoxArea). c.args.index < cell_count a) own c.requires.within in
    let number : site_at c.self.inside.area c.args.index ≡ c.args.place.site = subst (λ (a : BoxArea). site_at a c.args.index ≡ c.args.place.site) own c.requires.number in
    let below : c.args.index < length c.self.inside.cells.items = omega (arith, within, c.self.invariant.sites) in
    grid_distinct c.self.inside.area (set c.self.inside.cells.items c.args.index (c.args.place.tile.0 + 1)) (c.self.inside.count + 1) (
    put_grid c.self.inside.area c.self.inside.cells.items c.self.inside.count c.self.invariant c.args.self.now.tiles (ap (λ v. v.tiles) c.self.view_is)
    c.args.index c.args.place number below c.requires.empty
    )
