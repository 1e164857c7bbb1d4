use Rattle.std.proofs.Common.{◌≡◌, ◌≢◌, ◌<◌, ℕ, get_or}
use Rattle.assembly.proofs.grid.are_tiles.Given as goal

-- of the cells so far
abbrev pub invariant-loop-cell : goal.invariant-loop-cell
invariant-loop-cell l = record {
  tells : l.gaps ≡ 0 → (k : ℕ) → k < l.cell-index → get_or l.cells k 0 ≢ 0;
  told : ((k : ℕ) → k < l.cell-index → get_or l.cells k 0 ≢ 0) → l.gaps ≡ 0;
}
