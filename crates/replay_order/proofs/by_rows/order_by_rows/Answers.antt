use Rattle.std.proofs.Common.{rules, ◌≡◌, ◌≤◌, ◌*◌, ◌∙◌, length, refl, ap, arith}
use Rattle.std.proofs.Math.Nat.{mul_comm}
use Rattle.atam.specs.declared.area.BoxArea.{BoxArea}
use Rattle.atam.specs.Sites.{width_of, height_of}
use Rattle.assembly.specs.Cells.{cell_count}
use Rattle.fan_out.specs.Portions.{InARow}
use Rattle.fan_out.proofs.InARow.{row_map}
use Rattle.replay_order.specs.Inner.Rows.{ListsRows}
use Rattle.replay_order.proofs.Spans.{listed_whole}
use Rattle.replay_order.proofs.by_rows.order_by_rows.Goals as goal

pub returns : goal.returns
returns g c =
    let sys = c.args.sys.now in
    let grid = c.args.grid.now in
    let can = c.requires.can in
    let rows = c.height-rows.result in
    let parts = c.in_ok-parts.parts.items in
    let row : InARow (ListsRows sys grid) 0 0 rows parts =
    row_map _ (ListsRows sys grid) (λ worker start end found below said. search rules) 0 0 rows parts c.in_ok-parts.ensures.each
    in
    let all_rows : rows ≡ height_of sys.area = c.height-rows.ensures ∙ ap (λ (area : BoxArea). height_of area) (c.area.ensures.area ∙ can.area) in
    let sites : rows * width_of sys.area ≡ cell_count sys.area = ap (λ n. n * width_of sys.area) all_rows ∙ mul_comm (height_of sys.area) (width_of sys.area) in
    let all : length grid.tiles ≤ length c.in_ok-order.order = omega (arith, c.if-len-count.false, c.len.ensures, c.count.ensures) in
    listed_whole sys grid (rows * width_of sys.area) sys.seeds c.in_ok-order.order sites refl
    can.valid can.fits can.distinct can.seeded (c.in_ok-order.ensures sys grid rows can row) all
