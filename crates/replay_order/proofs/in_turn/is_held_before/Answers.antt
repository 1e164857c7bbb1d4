use Rattle.std.proofs.Common.{◌+◌, ◌∙◌, ap, arith}
use Rattle.std.proofs.lemmas.Bool.{leb-true}
use Rattle.atam.specs.Assembly.{pull}
use Rattle.replay_order.proofs.in_turn.is_held_before.Goals as goal

pub returns : goal.returns
unfolding pull
returns c = λ held.
    let enough = leb-true c.tau.result (c.strength_before-west.result + c.strength_before-south.result) held in
    omega (arith, enough, c.strength_before-west.ensures.strength, c.strength_before-south.ensures.strength, c.tau.ensures.tau ∙ ap (λ s. s.tau) c.system.ensures)
