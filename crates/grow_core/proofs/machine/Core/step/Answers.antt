use Rattle.std.proofs.Common.{◌≡◌, ap, ◌∙◌}
use Rattle.grow_core.specs.Core.{CoreInvariant}
use Rattle.grow_core.specs.Core.{state_of}
use Rattle.grow_core.specs.Machine.{BoxedCore}
use Rattle.grow_core.proofs.Stepped.{look-invariant, claim-invariant, split-invariant, join-invariant}
use Rattle.grow_core.proofs.Acting.{few_mine, two_agree, room_for_both}
use Rattle.grow_core.proofs.machine.Core.step.Goals as goal

pub split-requires-clause-room : goal.split-requires-clause-room
split-requires-clause-room c v here =
    let is : state_of c.self.inside.tiles.tiles c.self.inside.scouts.scouts ≡ c.args.self.now.state = ap (λ (b : BoxedCore). b.state) c.self.view_is in
    let holds : CoreInvariant c.args.sys.now (state_of c.self.inside.tiles.tiles c.self.inside.scouts.scouts) = rw is c.requires.invariant in
    let area : c.self.inside.scouts.area ≡ c.args.sys.now.area = c.self.invariant ∙ (ap (λ (b : BoxedCore). b.area) c.self.view_is ∙ c.requires.area) in
    rw area (few_mine c.args.sys.now c.self.inside.tiles.tiles c.self.inside.scouts.scouts holds c.in-Split.who v here)

pub join-requires-clause-agree : goal.join-requires-clause-agree
join-requires-clause-agree c v w m t u at_into at_from =
    let is : state_of c.self-in-Join.inside.tiles.tiles c.self-in-Join.inside.scouts.scouts ≡ c.args.self.now.state = ap (λ (b : BoxedCore). b.state) c.self-in-Join.view_is in
    let holds : CoreInvariant c.args.sys.now (state_of c.self-in-Join.inside.tiles.tiles c.self-in-Join.inside.scouts.scouts) = rw is c.requires.invariant in
    two_agree c.args.sys.now c.self-in-Join.inside.tiles.tiles c.self-in-Join.inside.scouts.scouts holds c.in-Join.into c.in-Join.from v w m t u at_into at_from

pub join-requires-clause-room : goal.join-requires-clause-room
join-requires-clause-room c v w at_into at_from differ =
    let is : state_of c.self-in-Join.inside.tiles.tiles c.self-in-Join.inside.scouts.scouts ≡ c.args.self.now.state = ap (λ (b : BoxedCore). b.state) c.self-in-Join.view_is in
    let holds : CoreInvariant c.args.sys.now (state_of c.self-in-Join.inside.tiles.tiles c.self-in-Join.inside.scouts.scouts) = rw is c.requires.invariant in
    let area : c.self-in-Join.inside.scouts.area ≡ c.args.sys.now.area = c.self-in-Join.invariant ∙ (ap (λ (b : BoxedCore). b.area) c.self-in-Join.view_is ∙ c.requires.area) in
    rw area (room_for_both c.args.sys.now c.self-in-Join.inside.tiles.tiles c.self-in-Join.inside.scouts.scouts holds c.in-Join.into c.in-Join.from v w at_into at_from differ)

pub returns-in-Look-clause-invariant : goal.returns-in-Look-clause-invariant
returns-in-Look-clause-invariant c = look-invariant c.args.sys.now c.args.self.now.state c.look.new.self.state c.in-Look.who c.in-Look.site c.look.result c.look.ensures.step c.requires.invariant

pub returns-in-Claim-clause-invariant : goal.returns-in-Claim-clause-invariant
returns-in-Claim-clause-invariant c =
    claim-invariant c.args.sys.now c.args.self.now.state c.claim.new.self.state c.in-Claim.who c.in-Claim.site c.in-Claim.tile c.claim.result c.claim.ensures.valid c.claim.ensures.step c.requires.invariant

pub returns-in-Split-clause-invariant : goal.returns-in-Split-clause-invariant
returns-in-Split-clause-invariant c =
    let is : state_of c.self.inside.tiles.tiles c.self.inside.scouts.scouts ≡ c.args.self.now.state = ap (λ (b : BoxedCore). b.state) c.self.view_is in
    let holds : CoreInvariant c.args.sys.now (state_of c.self.inside.tiles.tiles c.self.inside.scouts.scouts) = rw is c.requires.invariant in
    split-invariant c.args.sys.now (state_of c.self.inside.tiles.tiles c.self.inside.scouts.scouts) (state_of c.self.inside.tiles.tiles c.split.new.self.scouts) c.in-Split.who c.split.result
    (c.split.ensures.step c.args.sys.now c.self.inside.tiles.tiles) holds

pub returns-in-Join-clause-invariant : goal.returns-in-Join-clause-invariant
returns-in-Join-clause-invariant c =
    let is : state_of c.self-in-Join.inside.tiles.tiles c.self-in-Join.inside.scouts.scouts ≡ c.args.self.now.state = ap (λ (b : BoxedCore). b.state) c.self-in-Join.view_is in
    let holds : CoreInvariant c.args.sys.now (state_of c.self-in-Join.inside.tiles.tiles c.self-in-Join.inside.scouts.scouts) = rw is c.requires.invariant in
    join-invariant c.args.sys.now (state_of c.self-in-Join.inside.tiles.tiles c.self-in-Join.inside.scouts.scouts) (state_of c.self-in-Join.inside.tiles.tiles c.join.new.self.scouts)
    c.in-Join.into c.in-Join.from c.join.result (c.join.ensures.step c.args.sys.now c.self-in-Join.inside.tiles.tiles) holds
