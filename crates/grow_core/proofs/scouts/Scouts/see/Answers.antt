use Rattle.grow_core.specs.Core.{ScoutState}
use Rattle.grow_core.proofs.Entries.{becomes}
use Rattle.grow_core.proofs.scouts.Scouts.see.Goals as goal

pub returns-in-Some-clause-sees : goal.returns-in-Some-clause-sees
returns-in-Some-clause-sees c v here =
    becomes c.args.self.now.scouts c.take.new.self.scouts c.put.new.self.scouts c.args.name c.in-Some.scout.scout v c.see.new.self.scout c.args.place (λ (u : ScoutState). u.mine)
    c.in-Some.ensures.some here c.take.ensures.scouts c.put.ensures.scouts c.see.ensures.scout
