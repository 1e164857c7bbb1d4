use Rattle.std.proofs.Common.{◌≡◌, ◌∙◌, ap}
use Rattle.assembly.specs.Cells.{site_at}
use Rattle.replay_order.specs.Inner.Replays.{due_at}
use Rattle.replay_order.proofs.in_turn.list_in_turn.Goals as goal

pub list_held-requires-clause-due : goal.list_held-requires-clause-due
list_held-requires-clause-due c = λ i waits.
    let sys = c.args.bonds.now in
    let seeds : c.seeds.result.now ≡ sys.seeds = c.seeds.ensures.seeds ∙ ap (λ s. s.seeds) c.system-sys.ensures in
    let tau : c.tau.result ≡ sys.tau = c.tau.ensures.tau ∙ ap (λ s. s.tau) c.system-sys.ensures in
    let area : c.area-area.result ≡ sys.area = c.area-area.ensures.area ∙ c.requires.can.area in
    c.in_ok-waiting.ensures.lacks i waits ∙ (λ k. due_at (seeds k) (tau k) (site_at (area k) i))
