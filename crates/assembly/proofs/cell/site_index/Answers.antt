use Rattle.std.proofs.Common.{◌≡◌, w32, ℤ, pos, ◌+ℤ◌, ◌-ℤ◌, ◌≤ℤ◌, negsuc, to_z, of_z, nat_abs, arith}
use Rattle.std.proofs.lemmas.Int.{ints}
use Rattle.assembly.proofs.Cells.{at_cell}
use Rattle.assembly.proofs.cell.site_index.Goals as goal

-- what a cast leaves of the distance from the least corner
offset_back : (low x high : ℤ) → low ≤ℤ x → x ≤ℤ high → negsuc 999999 ≤ℤ low → high ≤ℤ pos 1000000
    → x ≡ (low +ℤ pos (nat_abs (to_z w32 (of_z w32 (to_z w32 (of_z w32 x) -ℤ to_z w32 (of_z w32 low))))))
offset_back low x high above below floor top = omega (arith, ints)

pub returns-clause-site : goal.returns-clause-site
returns-clause-site c =
    let inside = c.requires.inside in
    let limits = c.requires.limits.corners in
    let area = c.args.area.now in
    (at_cell area c.args.site _ _ _ inside c.width.ensures
    (offset_back area.y0 c.args.site.y area.y1 inside.bottom inside.top limits.bottom limits.top)
    (offset_back area.x0 c.args.site.x area.x1 inside.left inside.right limits.left limits.right)).0

pub returns-clause-within : goal.returns-clause-within
returns-clause-within c =
    let inside = c.requires.inside in
    let limits = c.requires.limits.corners in
    let area = c.args.area.now in
    (at_cell area c.args.site _ _ _ inside c.width.ensures
    (offset_back area.y0 c.args.site.y area.y1 inside.bottom inside.top limits.bottom limits.top)
    (offset_back area.x0 c.args.site.x area.x1 inside.left inside.right limits.left limits.right)).1
