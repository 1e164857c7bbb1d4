use Rattle.std.proofs.Common.{◌∙◌, ap, None}
use Rattle.turing_compile.proofs.RowReading.{head_comes, no_head_comes}
use Rattle.turing_compile.proofs.reading.heads.Goals as goal
use Rattle.turing_compile.proofs.reading.heads.Goals.{in-Some+in_ok-push, in_default}

pub loop-cell-preserved : goal.loop-cell-preserved
loop-cell-preserved c = elim c.match-shown.branch [
  | in-Some+in_ok-push w ↦
      ap (λ v. v.items) w.heads-is ∙ w.in_ok-push.ensures.items
      ∙ head_comes c.args.cells.now c.loop-cell.cell (record { symbol = 0; state = None }) w.in-Some.state c.loop-cell.heads.items c.loop-cell-test.true c.loop-cell.invariant w.in-Some.is
  | in_default w ↦
      ap (λ v. v.items) w.heads-is
      ∙ no_head_comes c.args.cells.now c.loop-cell.cell (record { symbol = 0; state = None }) c.loop-cell.heads.items c.loop-cell-test.true c.loop-cell.invariant w.in_default.is
]
