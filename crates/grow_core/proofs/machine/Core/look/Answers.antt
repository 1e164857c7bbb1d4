use Rattle.std.proofs.Common.{◌≡◌, None, refl, sym, ◌∙◌, ap}
use Rattle.std.proofs.lemmas.Bool.{false≢true}
use Rattle.atam.specs.Sites.{InBox}
use Rattle.atam.specs.Placements.{tile_at}
use Rattle.atam.specs.declared.event.Event.TheVariants.{Look}
use Rattle.grow_core.specs.Core.{CoreInvariant, places}
use Rattle.grow_core.specs.Steps.{no_such_scout, looks_outside, saw_none}
use Rattle.grow_core.specs.Core.{state_of}
use Rattle.grow_core.specs.Machine.{BoxedCore}
use Rattle.grow_core.proofs.Entries.{where_none, where_some}
use Rattle.grow_core.proofs.Acting.{small_type, seen_agrees, saw_step}
use Rattle.grow_core.proofs.machine.Core.look.Goals as goal

pub returns-then-is_none-clause-step : goal.returns-then-is_none-clause-step
returns-then-is_none-clause-step c =
    let is : state_of c.self.inside.tiles.tiles c.self.inside.scouts.scouts ≡ c.args.self.now.state = ap (λ (b : BoxedCore). b.state) c.self.view_is in
    let nobody = where_none _ c.get.result c.is_none.result c.is_none.ensures c.if-is_none.true c.get.ensures.none in
    rw (← is) (no_such_scout (Look c.args.who c.args.site) nobody)

pub returns-then-not-holds-clause-step : goal.returns-then-not-holds-clause-step
returns-then-not-holds-clause-step c =
    let is : state_of c.self.inside.tiles.tiles c.self.inside.scouts.scouts ≡ c.args.self.now.state = ap (λ (b : BoxedCore). b.state) c.self.view_is in
    let here = where_some _ c.get.result c.is_none.result c.is_none.ensures c.if-is_none.false c.get.ensures.some in
    rw (← is) (looks_outside c.args.who c.args.site here.0.now.scout here.1 (λ i. false≢true (c.if-not-holds.ensures.1 (rw c.area.ensures.area i))))

pub see-requires-clause-small : goal.see-requires-clause-small
see-requires-clause-small c =
    let is : state_of c.self.inside.tiles.tiles c.self.inside.scouts.scouts ≡ c.args.self.now.state = ap (λ (b : BoxedCore). b.state) c.self.view_is in
    let holds : CoreInvariant c.args.sys.now (state_of c.self.inside.tiles.tiles c.self.inside.scouts.scouts) = rw is c.requires.invariant in
    small_type c.args.sys.now c.self.inside.tiles.tiles c.self.inside.scouts.scouts holds c.area.ensures.valid c.args.site c.in-Some.tile (sym c.at-there.ensures ∙ c.in-Some.is)

pub see-requires-clause-agrees : goal.see-requires-clause-agrees
see-requires-clause-agrees c v t here seen =
    let is : state_of c.self.inside.tiles.tiles c.self.inside.scouts.scouts ≡ c.args.self.now.state = ap (λ (b : BoxedCore). b.state) c.self.view_is in
    let holds : CoreInvariant c.args.sys.now (state_of c.self.inside.tiles.tiles c.self.inside.scouts.scouts) = rw is c.requires.invariant in
    seen_agrees c.args.sys.now c.self.inside.tiles.tiles c.self.inside.scouts.scouts holds c.args.who v c.args.site c.in-Some.tile t here (sym c.at-there.ensures ∙ c.in-Some.is) seen

pub returns-in-Some-clause-step : goal.returns-in-Some-clause-step
returns-in-Some-clause-step c =
    let is : state_of c.self.inside.tiles.tiles c.self.inside.scouts.scouts ≡ c.args.self.now.state = ap (λ (b : BoxedCore). b.state) c.self.view_is in
    let holds : CoreInvariant c.args.sys.now (state_of c.self.inside.tiles.tiles c.self.inside.scouts.scouts) = rw is c.requires.invariant in
    let inside : InBox c.args.sys.now.area c.args.site = rw (← c.area.ensures.area) (c.if-not-holds.ensures.0 refl) in
    let here = where_some _ c.get.result c.is_none.result c.is_none.ensures c.if-is_none.false c.get.ensures.some in
    rw (← is) (saw_step c.args.sys.now c.self.inside.tiles.tiles c.self.inside.scouts.scouts holds c.see.new.self.scouts c.args.who c.args.site c.in-Some.tile here.0.now.scout here.1 inside
    (sym c.at-there.ensures ∙ c.in-Some.is) (c.see.ensures.sees here.0.now.scout here.1))

pub returns-in_default-clause-step : goal.returns-in_default-clause-step
returns-in_default-clause-step c =
    let is : state_of c.self.inside.tiles.tiles c.self.inside.scouts.scouts ≡ c.args.self.now.state = ap (λ (b : BoxedCore). b.state) c.self.view_is in
    let inside : InBox c.args.sys.now.area c.args.site = rw (← c.area.ensures.area) (c.if-not-holds.ensures.0 refl) in
    let here = where_some _ c.get.result c.is_none.result c.is_none.ensures c.if-is_none.false c.get.ensures.some in
    let empty : tile_at (places c.self.inside.tiles.tiles) c.args.site ≡ None = sym c.at-there.ensures ∙ c.in_default.is in
    rw (c.in_default.is, ← is) (saw_none c.args.who c.args.site here.0.now.scout here.1 inside empty)
