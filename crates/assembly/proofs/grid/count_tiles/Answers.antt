use Rattle.std.proofs.Common.{◌+◌, ◌==◌, ◌∙◌, not, get_or, ap, sym, arith}
use mir.Val.{bool_byte}
use Rattle.assembly.proofs.Filling.{counted_more}
use Rattle.assembly.proofs.grid.count_tiles.Goals as goal

pub loop-cell-preserved : goal.loop-cell-preserved
loop-cell-preserved c =
    let n = c.loop-cell.cell-index in
    let cells = c.args.cells.now in
    ap (λ count. count + bool_byte (not (get_or cells n 0 == 0))) c.loop-cell.invariant ∙ sym (counted_more cells n (omega arith))
