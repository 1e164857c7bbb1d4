use Rattle.std.proofs.Common.{◌≡◌, ◌<◌, ℕ, get_or}
use Rattle.assembly.proofs.grid.are_gaps.Given as goal

-- of the cells so far
abbrev pub invariant-loop-cell : goal.invariant-loop-cell
invariant-loop-cell l = record {
  tells : l.any ≡ 0 → (k : ℕ) → k < l.cell-index → get_or l.cells k 0 ≡ 0;
  told : ((k : ℕ) → k < l.cell-index → get_or l.cells k 0 ≡ 0) → l.any ≡ 0;
}
