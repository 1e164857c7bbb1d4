use Rattle.std.proofs.Common.{◌≡◌, ◌<◌, None, refl, sym, ◌∙◌, ap, subst, arith}
use Rattle.std.proofs.lemmas.Bool.{false≢true}
use Rattle.atam.specs.Sites.{InBox}
use Rattle.atam.specs.Assembly.{Fits}
use Rattle.atam.specs.Assembly as model
use Rattle.atam.specs.Placements.{tile_at}
use Rattle.atam.specs.declared.event.Event.TheVariants.{Claim}
use Rattle.grow_core.specs.Core.{CoreInvariant, places}
use Rattle.grow_core.specs.Steps.{Supports, no_such_scout, claims_outside, unsupported}
use Rattle.grow_core.specs.Core.{state_of}
use Rattle.grow_core.specs.Machine.{BoxedCore}
use Rattle.grow_core.proofs.Entries.{name_within}
use Rattle.grow_core.proofs.Stepped.{supported_type}
use Rattle.atam.proofs.Boxes.{near_inside}
use Rattle.grow_core.proofs.Acting.{small_type, seen_agrees, seen_empty, seen_fits, room_for, held_step, won_step}
use Rattle.grow_core.proofs.machine.Core.claim.Goals as goal

pub returns-in_default-clause-step : goal.returns-in_default-clause-step
returns-in_default-clause-step c =
    let is : state_of c.self.inside.tiles.tiles c.self.inside.scouts.scouts ≡ c.args.self.now.state = ap (λ (b : BoxedCore). b.state) c.self.view_is in
    rw (← is) (no_such_scout (Claim c.args.who c.args.site c.args.tile) c.in_default.ensures.none)

pub returns-then-not-holds-clause-step : goal.returns-then-not-holds-clause-step
returns-then-not-holds-clause-step c =
    let is : state_of c.self.inside.tiles.tiles c.self.inside.scouts.scouts ≡ c.args.self.now.state = ap (λ (b : BoxedCore). b.state) c.self.view_is in
    rw (← is) (claims_outside c.args.who c.args.site c.args.tile c.in-Some.scout.now.scout c.in-Some.ensures.some (λ i. false≢true (c.if-not-holds.ensures.1 (rw c.area-area.ensures.area i))))

pub pull_of-pull-requires-clause-near : goal.pull_of-pull-requires-clause-near
pull_of-pull-requires-clause-near c = near_inside c.area-area.result c.args.site c.area-area.ensures.box_limits (c.if-not-holds.ensures.0 refl)

pub pull_of-pull-requires-clause-fits : goal.pull_of-pull-requires-clause-fits
pull_of-pull-requires-clause-fits c =
    let is : state_of c.self.inside.tiles.tiles c.self.inside.scouts.scouts ≡ c.args.self.now.state = ap (λ (b : BoxedCore). b.state) c.self.view_is in
    let holds : CoreInvariant c.args.sys.now (state_of c.self.inside.tiles.tiles c.self.inside.scouts.scouts) = rw is c.requires.invariant in
    let fits = seen_fits c.args.sys.now c.self.inside.tiles.tiles c.self.inside.scouts.scouts holds c.args.who c.in-Some.scout.now.scout c.in-Some.ensures.some in
    subst (Fits c.args.sys.now) (sym c.seen.ensures.tiles) fits

pub returns-then-pull-tau-clause-step : goal.returns-then-pull-tau-clause-step
returns-then-pull-tau-clause-step c =
    let is : state_of c.self.inside.tiles.tiles c.self.inside.scouts.scouts ≡ c.args.self.now.state = ap (λ (b : BoxedCore). b.state) c.self.view_is in
    let holds : CoreInvariant c.args.sys.now (state_of c.self.inside.tiles.tiles c.self.inside.scouts.scouts) = rw is c.requires.invariant in
    let inside : InBox c.args.sys.now.area c.args.site = rw (← c.area-area.ensures.area) (c.if-not-holds.ensures.0 refl) in
    let v = c.in-Some.scout.now.scout in
    let pull : c.pull_of-pull.result ≡ model.pull c.args.sys.now v.seen c.args.site c.args.tile =
    c.pull_of-pull.ensures ∙ ap (λ l. model.pull c.args.sys.now l c.args.site c.args.tile) c.seen.ensures.tiles in
    let tau = c.tau.ensures.tau in
    let less = c.if-pull-tau.true in
    let weak : model.pull c.args.sys.now v.seen c.args.site c.args.tile < c.args.sys.now.tau = omega (arith, pull, tau, less) in
    rw (← is, pull) (unsupported c.args.who c.args.site c.args.tile v c.in-Some.ensures.some inside weak)

pub see-requires-clause-small : goal.see-requires-clause-small
see-requires-clause-small c =
    let is : state_of c.self.inside.tiles.tiles c.self.inside.scouts.scouts ≡ c.args.self.now.state = ap (λ (b : BoxedCore). b.state) c.self.view_is in
    let holds : CoreInvariant c.args.sys.now (state_of c.self.inside.tiles.tiles c.self.inside.scouts.scouts) = rw is c.requires.invariant in
    small_type c.args.sys.now c.self.inside.tiles.tiles c.self.inside.scouts.scouts holds c.area-area.ensures.valid c.args.site c.in-Some-at.there (sym c.at.ensures ∙ c.in-Some-at.is)

pub see-requires-clause-agrees : goal.see-requires-clause-agrees
see-requires-clause-agrees c v t here seen =
    let is : state_of c.self.inside.tiles.tiles c.self.inside.scouts.scouts ≡ c.args.self.now.state = ap (λ (b : BoxedCore). b.state) c.self.view_is in
    let holds : CoreInvariant c.args.sys.now (state_of c.self.inside.tiles.tiles c.self.inside.scouts.scouts) = rw is c.requires.invariant in
    seen_agrees c.args.sys.now c.self.inside.tiles.tiles c.self.inside.scouts.scouts holds c.args.who v c.args.site c.in-Some-at.there t here (sym c.at.ensures ∙ c.in-Some-at.is) seen

pub returns-in-Some-at-clause-step : goal.returns-in-Some-at-clause-step
returns-in-Some-at-clause-step c =
    let is : state_of c.self.inside.tiles.tiles c.self.inside.scouts.scouts ≡ c.args.self.now.state = ap (λ (b : BoxedCore). b.state) c.self.view_is in
    let holds : CoreInvariant c.args.sys.now (state_of c.self.inside.tiles.tiles c.self.inside.scouts.scouts) = rw is c.requires.invariant in
    let inside : InBox c.args.sys.now.area c.args.site = rw (← c.area-area.ensures.area) (c.if-not-holds.ensures.0 refl) in
    let v = c.in-Some.scout.now.scout in
    let here = c.in-Some.ensures.some in
    let supported : Supports c.args.sys.now v c.args.site c.args.tile = let pull = c.pull_of-pull.ensures in let tau = c.tau.ensures.tau in let strong = c.if-pull-tau.false in
    rw (← c.seen.ensures.tiles) (omega (arith, pull, tau, strong)) in
    rw (← is) (held_step c.args.sys.now c.self.inside.tiles.tiles c.self.inside.scouts.scouts holds c.see.new.self.scouts c.args.who c.args.site c.args.tile c.in-Some-at.there v here inside supported
    (sym c.at.ensures ∙ c.in-Some-at.is) (c.see.ensures.sees v here))

pub put-requires-clause-small : goal.put-requires-clause-small
put-requires-clause-small c =
    let v = c.in-Some.scout.now.scout in
    let here = c.in-Some.ensures.some in
    let supported : Supports c.args.sys.now v c.args.site c.args.tile = let pull = c.pull_of-pull.ensures in let tau = c.tau.ensures.tau in let strong = c.if-pull-tau.false in
    rw (← c.seen.ensures.tiles) (omega (arith, pull, tau, strong)) in
    let kind = supported_type c.args.sys.now v.seen c.args.site c.args.tile c.area-area.ensures.valid.some_tau supported in
    let most = c.area-area.ensures.valid.type_count in
    omega (arith, kind, most)

pub put-requires-clause-placer : goal.put-requires-clause-placer
put-requires-clause-placer c =
    let is : state_of c.self.inside.tiles.tiles c.self.inside.scouts.scouts ≡ c.args.self.now.state = ap (λ (b : BoxedCore). b.state) c.self.view_is in
    let holds : CoreInvariant c.args.sys.now (state_of c.self.inside.tiles.tiles c.self.inside.scouts.scouts) = rw is c.requires.invariant in
    let within = name_within c.self.inside.scouts.scouts c.args.who c.in-Some.scout.now.scout c.in-Some.ensures.some in
    let names = holds.named.names in
    omega (arith, within, names)

pub win-requires-clause-small : goal.win-requires-clause-small
win-requires-clause-small c =
    let v = c.in-Some.scout.now.scout in
    let here = c.in-Some.ensures.some in
    let supported : Supports c.args.sys.now v c.args.site c.args.tile = let pull = c.pull_of-pull.ensures in let tau = c.tau.ensures.tau in let strong = c.if-pull-tau.false in
    rw (← c.seen.ensures.tiles) (omega (arith, pull, tau, strong)) in
    let kind = supported_type c.args.sys.now v.seen c.args.site c.args.tile c.area-area.ensures.valid.some_tau supported in
    let most = c.area-area.ensures.valid.type_count in
    omega (arith, kind, most)

pub win-requires-clause-empty : goal.win-requires-clause-empty
win-requires-clause-empty c v here =
    let is : state_of c.self.inside.tiles.tiles c.self.inside.scouts.scouts ≡ c.args.self.now.state = ap (λ (b : BoxedCore). b.state) c.self.view_is in
    let holds : CoreInvariant c.args.sys.now (state_of c.self.inside.tiles.tiles c.self.inside.scouts.scouts) = rw is c.requires.invariant in
    let empty : tile_at (places c.self.inside.tiles.tiles) c.args.site ≡ None = sym c.at.ensures ∙ c.in_default-at.is in
    seen_empty c.args.sys.now c.self.inside.tiles.tiles c.self.inside.scouts.scouts holds c.args.who v c.args.site here empty

pub win-requires-clause-room : goal.win-requires-clause-room
win-requires-clause-room c v here =
    let is : state_of c.self.inside.tiles.tiles c.self.inside.scouts.scouts ≡ c.args.self.now.state = ap (λ (b : BoxedCore). b.state) c.self.view_is in
    let holds : CoreInvariant c.args.sys.now (state_of c.self.inside.tiles.tiles c.self.inside.scouts.scouts) = rw is c.requires.invariant in
    let inside : InBox c.args.sys.now.area c.args.site = rw (← c.area-area.ensures.area) (c.if-not-holds.ensures.0 refl) in
    let empty : tile_at (places c.self.inside.tiles.tiles) c.args.site ≡ None = sym c.at.ensures ∙ c.in_default-at.is in
    let area : c.self.inside.scouts.area ≡ c.args.sys.now.area = c.self.invariant ∙ (ap (λ (b : BoxedCore). b.area) c.self.view_is ∙ c.requires.area) in
    rw area (room_for c.args.sys.now c.self.inside.tiles.tiles c.self.inside.scouts.scouts holds c.args.who v (record { site = c.args.site; tile = c.args.tile }) here inside empty)

pub returns-clause-step : goal.returns-clause-step
returns-clause-step c =
    let is : state_of c.self.inside.tiles.tiles c.self.inside.scouts.scouts ≡ c.args.self.now.state = ap (λ (b : BoxedCore). b.state) c.self.view_is in
    let holds : CoreInvariant c.args.sys.now (state_of c.self.inside.tiles.tiles c.self.inside.scouts.scouts) = rw is c.requires.invariant in
    let inside : InBox c.args.sys.now.area c.args.site = rw (← c.area-area.ensures.area) (c.if-not-holds.ensures.0 refl) in
    let empty : tile_at (places c.self.inside.tiles.tiles) c.args.site ≡ None = sym c.at.ensures ∙ c.in_default-at.is in
    let v = c.in-Some.scout.now.scout in
    let here = c.in-Some.ensures.some in
    let supported : Supports c.args.sys.now v c.args.site c.args.tile = let pull = c.pull_of-pull.ensures in let tau = c.tau.ensures.tau in let strong = c.if-pull-tau.false in
    rw (← c.seen.ensures.tiles) (omega (arith, pull, tau, strong)) in
    rw (← is) (won_step c.args.sys.now c.self.inside.tiles.tiles c.self.inside.scouts.scouts holds c.put.new.self.tiles c.win.new.self.scouts c.args.who c.args.site c.args.tile v here inside supported
    empty c.put.ensures.tiles (c.win.ensures.wins v here))
