use Rattle.std.proofs.Common.{◌≡◌, ◌≤◌, ◌*◌, length, replicate, arith, ap, ◌∙◌}
use Rattle.std.specs.Vec.{vec_capacity}
use Rattle.job_board.specs.declared.state.State.TheVariants.{Waiting}
use Rattle.job_board.proofs.Steps.{IsKept-fresh, IsReady-fresh}
use Rattle.job_board.proofs.board.Board.make.Goals as goal

pub invariant_of-result : goal.invariant_of-result
invariant_of-result c =
    let all : c.loop.counter ≡ length c.args.jobs.now = omega arith in
    let states : c.loop.states.items ≡ replicate (length c.args.jobs.now) Waiting = c.loop.invariant.0 ∙ ap (λ n. replicate n Waiting) all in
    let room : 2 * length c.args.jobs.now ≤ vec_capacity c.in_ok-journal.journal = omega (arith, c.in_ok-journal.ensures.capacity) in
    rw (states, c.in_ok-journal.ensures.items) (IsKept-fresh c.args.jobs.now, IsReady-fresh c.args.jobs.now _ c.requires.few room)
