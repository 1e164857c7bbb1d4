use Rattle.std.proofs.Common.{◌≡◌, take}
use Rattle.turing_compile.specs.Rows.{heads_from}
use Rattle.turing_compile.proofs.reading.heads.Given as goal

-- the heads of the cells so far
abbrev pub invariant-loop-cell : goal.invariant-loop-cell
invariant-loop-cell l = l.heads.items ≡ heads_from 0 (take l.cell l.cells)
