use Rattle.std.proofs.Common.{◌≡◌, ℕ, get_or, arith}
use Rattle.assembly.proofs.Rows.{holds_further, or_both, or_none}
use Rattle.assembly.proofs.grid.are_gaps.Goals as goal

pub loop-cell-preserved : goal.loop-cell-preserved
loop-cell-preserved c =
    let inv = c.loop-cell.invariant in
    let n = c.loop-cell.cell-index in
    let cell = get_or c.args.cells.now n 0 in
    let Gap : ℕ → Type 0 = λ k. get_or c.args.cells.now k 0 ≡ 0 in
    record {
      tells = λ none. let both = or_none c.loop-cell.any cell none in holds_further Gap n (inv.tells both.0) both.1;
      told = λ all. or_both c.loop-cell.any cell (inv.told (λ k below. all k (omega (arith, below)))) (all n (omega arith));
    }
