use Rattle.std.proofs.Common.{◌≢◌, ◌==◌, ℕ, get_or, arith}
use mir.Val.{bool_byte}
use Rattle.assembly.proofs.Rows.{gap_bit, holds_further, or_both, or_none, tile_bit}
use Rattle.assembly.proofs.grid.are_tiles.Goals as goal

pub loop-cell-preserved : goal.loop-cell-preserved
loop-cell-preserved c =
    let inv = c.loop-cell.invariant in
    let n = c.loop-cell.cell-index in
    let cell = get_or c.args.cells.now n 0 in
    let bit = bool_byte (cell == 0) in
    let Tile : ℕ → Type 0 = λ k. get_or c.args.cells.now k 0 ≢ 0 in
    record {
      tells = λ none. let both = or_none c.loop-cell.gaps bit none in holds_further Tile n (inv.tells both.0) (gap_bit cell both.1);
      told = λ all. or_both c.loop-cell.gaps bit (inv.told (λ k below. all k (omega (arith, below)))) (tile_bit cell (all n (omega arith)));
    }
