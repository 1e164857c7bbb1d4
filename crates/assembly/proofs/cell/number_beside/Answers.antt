use Rattle.std.proofs.Common.{of_z, w32, ◌≡◌, ◌<◌, ◌+◌, ◌-◌, ℕ, Some, refl, sym, ap, subst, arith}
use Rattle.atam.specs.declared.site.Side.{Side}
use Rattle.atam.specs.declared.site.Side.TheVariants.{North, East, South, West}
use Rattle.atam.specs.declared.site.Site.{Site}
use Rattle.atam.specs.declared.area.BoxArea.{BoxArea}
use Rattle.atam.specs.Sites.{neighbor}
use Rattle.assembly.specs.Cells.{IsNumberOf, IsSiteNumber, cell_count, site_at}
use Rattle.assembly.proofs.Cells.{cell_count-most, north_cell, east_cell, south_cell, west_cell, row_left}
use Rattle.assembly.proofs.cell.number_beside.Goals as goal

-- the number on a side
numbered : (area : BoxArea) (m : Site) (side d : Side) (number given : ℕ) → side ≡ d → given ≡ number → (site_at area number ≡ neighbor m d) × (number < cell_count area) →
    IsNumberOf area (neighbor m side) (Some given)
numbered area m side d number given is same cell =
    let On : Side → Type 0 = λ e. IsSiteNumber area (neighbor m e) given in
    let At : ℕ → Type 0 = λ n. IsSiteNumber area (neighbor m d) n in
    let at : IsSiteNumber area (neighbor m d) number = record { within = cell.1; site = cell.0 } in
    subst On (sym is) (subst At (sym same) at)

pub overflow_add-result-in-East : goal.overflow_add-result-in-East
overflow_add-result-in-East c = omega (arith, c.requires.within, cell_count-most c.args.area.now c.requires.limits)

pub overflow_sub-result : goal.overflow_sub-result
overflow_sub-result c = omega (arith, row_left c.args.area.now c.args.site c.args.number c.requires.inside c.requires.number (λ same. c.if-site-area-3.false (ap (of_z w32) same)), c.width-in-South.ensures)

pub returns-else-site-area : goal.returns-else-site-area
returns-else-site-area c =
    numbered c.args.area.now c.args.site c.args.side North _ _ c.in-North.is (ap (λ k. c.args.number + k) c.width.ensures)
    (north_cell c.args.area.now c.args.site c.args.number c.requires.inside c.requires.number (λ same. c.if-site-area.false (ap (of_z w32) same)))

pub returns-else-site-area-2 : goal.returns-else-site-area-2
returns-else-site-area-2 c =
    numbered c.args.area.now c.args.site c.args.side East _ _ c.in-East.is refl
    (east_cell c.args.area.now c.args.site c.args.number c.requires.inside c.requires.number (λ same. c.if-site-area-2.false (ap (of_z w32) same)))

pub returns-else-site-area-3 : goal.returns-else-site-area-3
returns-else-site-area-3 c =
    numbered c.args.area.now c.args.site c.args.side South _ _ c.in-South.is (ap (λ k. c.args.number - k) c.width-in-South.ensures)
    (south_cell c.args.area.now c.args.site c.args.number c.requires.inside c.requires.number (λ same. c.if-site-area-3.false (ap (of_z w32) same)))

pub returns-else-site-area-4 : goal.returns-else-site-area-4
returns-else-site-area-4 c =
    numbered c.args.area.now c.args.site c.args.side West _ _ c.in-West.is refl
    (west_cell c.args.area.now c.args.site c.args.number c.requires.inside c.requires.number (λ same. c.if-site-area-4.false (ap (of_z w32) same)))

pub overflow_add-result : goal.overflow_add-result
overflow_add-result c =
    let cell = north_cell c.args.area.now c.args.site c.args.number c.requires.inside c.requires.number (λ same. c.if-site-area.false (ap (of_z w32) same)) in
    omega (arith, cell.1, c.width.ensures, cell_count-most c.args.area.now c.requires.limits)
