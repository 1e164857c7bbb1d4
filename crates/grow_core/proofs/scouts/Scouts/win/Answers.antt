use Rattle.std.proofs.Common.{◌++◌, ◌∷◌, []}
use Rattle.grow_core.specs.Core.{ScoutState}
use Rattle.grow_core.specs.Steps.{won_tile}
use Rattle.grow_core.proofs.Entries.{becomes}
use Rattle.grow_core.proofs.scouts.Scouts.win.Goals as goal

pub returns-in-Some-clause-wins : goal.returns-in-Some-clause-wins
returns-in-Some-clause-wins c v here =
    becomes c.args.self.now.scouts c.take.new.self.scouts c.put.new.self.scouts c.args.name c.in-Some.scout.scout v c.win.new.self.scout c.args.place
    (λ (u : ScoutState). u.mine ++ won_tile u c.args.place.site c.args.place.tile ∷ [])
    c.in-Some.ensures.some here c.take.ensures.scouts c.put.ensures.scouts c.win.ensures.scout
