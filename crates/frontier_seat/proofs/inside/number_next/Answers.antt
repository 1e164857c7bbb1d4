use Rattle.std.proofs.Common.{◌≡◌, ◌<◌, ◌+◌, ◌-◌, ℕ, refl, sym, ap, subst, arith}
use Rattle.atam.specs.declared.site.Side.{Side}
use Rattle.atam.specs.declared.site.Side.TheVariants.{North, East, South, West}
use Rattle.atam.specs.declared.site.Site.{Site}
use Rattle.atam.specs.declared.area.BoxArea.{BoxArea}
use Rattle.atam.specs.Sites.{neighbor}
use Rattle.assembly.specs.Cells.{IsSiteNumber, cell_count, site_at}
use Rattle.assembly.proofs.Cells.{cell_count-most, north_cell, east_cell, south_cell, west_cell, row_left, one_left}
use Rattle.frontier_seat.proofs.inside.number_next.Goals as goal

-- the number on a side
numbered : (area : BoxArea) (m : Site) (side d : Side) (number given : ℕ) → side ≡ d → given ≡ number → (site_at area number ≡ neighbor m d) × (number < cell_count area) → IsSiteNumber area (neighbor m side) given
numbered area m side d number given is same cell =
    let On : Side → Type 0 = λ e. IsSiteNumber area (neighbor m e) given in
    let At : ℕ → Type 0 = λ n. IsSiteNumber area (neighbor m d) n in
    let at : IsSiteNumber area (neighbor m d) number = record { within = cell.1; site = cell.0 } in
    subst On (sym is) (subst At (sym same) at)

pub returns-in-North : goal.returns-in-North
returns-in-North c =
    numbered c.args.area.now c.args.spot.site c.args.side North _ _ c.in-North.is (ap (λ k. c.args.spot.number + k) c.width.ensures)
    (north_cell c.args.area.now c.args.spot.site c.args.spot.number c.requires.spot.inside c.requires.spot.site c.requires.inner.top)

pub returns-in-East : goal.returns-in-East
returns-in-East c =
    numbered c.args.area.now c.args.spot.site c.args.side East _ _ c.in-East.is refl
    (east_cell c.args.area.now c.args.spot.site c.args.spot.number c.requires.spot.inside c.requires.spot.site c.requires.inner.right)

pub returns-in-South : goal.returns-in-South
returns-in-South c =
    numbered c.args.area.now c.args.spot.site c.args.side South _ _ c.in-South.is (ap (λ k. c.args.spot.number - k) c.width-in-South.ensures)
    (south_cell c.args.area.now c.args.spot.site c.args.spot.number c.requires.spot.inside c.requires.spot.site c.requires.inner.bottom)

pub returns-in-West : goal.returns-in-West
returns-in-West c =
    numbered c.args.area.now c.args.spot.site c.args.side West _ _ c.in-West.is refl
    (west_cell c.args.area.now c.args.spot.site c.args.spot.number c.requires.spot.inside c.requires.spot.site c.requires.inner.left)

pub overflow_add-result : goal.overflow_add-result
overflow_add-result c =
    let cell = north_cell c.args.area.now c.args.spot.site c.args.spot.number c.requires.spot.inside c.requires.spot.site c.requires.inner.top in
    let most = cell_count-most c.args.area.now c.requires.limits in
    omega (arith, cell.1, c.width.ensures, most)

pub overflow_add-result-in-East : goal.overflow_add-result-in-East
overflow_add-result-in-East c =
    let most = cell_count-most c.args.area.now c.requires.limits in
    omega (arith, c.requires.spot.within, most)

pub overflow_sub-result : goal.overflow_sub-result
overflow_sub-result c =
    let left = row_left c.args.area.now c.args.spot.site c.args.spot.number c.requires.spot.inside c.requires.spot.site c.requires.inner.bottom in
    omega (arith, left, c.width-in-South.ensures)

pub overflow_sub-result-in-West : goal.overflow_sub-result-in-West
overflow_sub-result-in-West c =
    let left = one_left c.args.area.now c.args.spot.site c.args.spot.number c.requires.spot.inside c.requires.spot.site c.requires.inner.left in
    omega (arith, left)
