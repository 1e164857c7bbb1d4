use Rattle.std.proofs.Common.{rules, ◌≡◌, ◌≤◌, ◌-◌, ◌*◌, ◌∙◌, ℕ, arith, List, length, Option, ap, sym, subst}
use Rattle.atam.specs.declared.site.Site.{Site}
use Rattle.atam.specs.declared.area.BoxArea.{BoxArea}
use Rattle.atam.specs.declared.place.Place.{Place}
use Rattle.atam.specs.Sites.{IsBox, width_of, height_of}
use Rattle.atam.specs.TileSystem.{TileSystem}
use Rattle.atam.specs.Assembly.{Fits}
use Rattle.assembly.specs.Cells.{cell_count}
use Rattle.replay_order.specs.Inner.Replays.{Waiting, IsLeastLeft}
use Rattle.replay_order.specs.Inner.Spans.{IsSpanListed}
use Rattle.replay_order.specs.ReplayAnswers.{HoldsSeeds, IsWholeOrder, LacksSeed}
use Rattle.replay_order.proofs.Begun.{lacks_no_seed}
use Rattle.replay_order.proofs.Rests.{least_left-found}
use Rattle.replay_order.proofs.Ended.{IsListedWhole, span_whole, listed_count, none_left, some_left, whole_order, stuck_at}
use Rattle.replay_order.proofs.canonical.replay.Goals as goal

-- what is listed of all sites, by the system's own data
listed_whole : (sys own : TileSystem) (tiles old new : List Place) (waiting : Waiting) (area : BoxArea) (width height : ℕ) → Fits sys tiles → HoldsSeeds sys tiles → own ≡ sys → area ≡ sys.area →
    width ≡ width_of area → height ≡ height_of area → old ≡ sys.seeds → IsSpanListed own tiles 0 (width * height) old new waiting → IsListedWhole sys tiles new waiting
listed_whole sys own tiles old new waiting area width height fits held same is_area is_width is_height seeds listed =
    let Listed : TileSystem → ℕ → List Place → Type 0 = λ s n l. IsSpanListed s tiles 0 n l new waiting in
    let cells : width * height ≡ cell_count area = λ k. is_width k * is_height k in
    let all : width * height ≡ cell_count sys.area = cells ∙ ap cell_count is_area in
    span_whole sys tiles new waiting fits held (subst (Listed sys (cell_count sys.area)) seeds (subst (λ n. Listed sys n old) all (subst (λ s. Listed s (width * height) old) same listed)))

pub returns-then-not-holds_seeds-clause-producible : goal.returns-then-not-holds_seeds-clause-producible
returns-then-not-holds_seeds-clause-producible c =
    let sys = c.args.sys.now in
    let tiles = c.args.grid.now.tiles in
    let lacks : LacksSeed sys tiles = search rules in
    λ _. (λ ok. absurd (search rules), λ producible. absurd (lacks_no_seed sys tiles c.holds_seeds.ensures.distinct c.area-area.ensures.distinct producible lacks))

pub order_in_turn-requires-clause-can : goal.order_in_turn-requires-clause-can
order_in_turn-requires-clause-can c = record {
  valid = c.recall_valid.ensures.valid;
  area = c.requires.area;
  fits = c.requires.fits;
  distinct = c.area-area.ensures.distinct;
  seeded = c.if-not-holds_seeds.ensures.held;
}

pub list_span-requires-clause-room : goal.list_span-requires-clause-room
list_span-requires-clause-room c =
    let cells : c.width.result * c.height.result ≡ cell_count c.area-area.result = λ k. c.width.ensures k * c.height.ensures k in
    let sites = cells ∙ ap cell_count (c.area-area.ensures.area ∙ c.requires.area) in
    omega (arith, sites, ap length c.in_ok-log.ensures.seeds, c.in_ok-log.ensures.room)

pub overflow_cast-left : goal.overflow_cast-left
overflow_cast-left c =
    let sys = c.args.sys.now in
    let tiles = c.args.grid.now.tiles in
    let s = c.list_span.new.log.places in
    let listed = listed_whole sys c.in_ok-bonds.bonds tiles c.in_ok-log.log.places s c.in_ok-waiting.waiting c.area-area.result c.width.result c.height.result c.requires.fits
    c.if-not-holds_seeds.ensures.held c.in_ok-bonds.ensures (c.area-area.ensures.area ∙ c.requires.area) c.width.ensures c.height.ensures c.in_ok-log.ensures.seeds c.in_ok-waiting.ensures
    in
    let few = listed_count sys tiles s c.requires.fits c.area-area.ensures.distinct c.holds_seeds.ensures.distinct listed.canonical in
    omega (arith, few, c.len.ensures ∙ ap length c.into_sequence-order.ensures, c.count.ensures, c.count.type_inv)

pub overflow_sub-left : goal.overflow_sub-left
overflow_sub-left c =
    let sys = c.args.sys.now in
    let tiles = c.args.grid.now.tiles in
    let s = c.list_span.new.log.places in
    let listed = listed_whole sys c.in_ok-bonds.bonds tiles c.in_ok-log.log.places s c.in_ok-waiting.waiting c.area-area.result c.width.result c.height.result c.requires.fits
    c.if-not-holds_seeds.ensures.held c.in_ok-bonds.ensures (c.area-area.ensures.area ∙ c.requires.area) c.width.ensures c.height.ensures c.in_ok-log.ensures.seeds c.in_ok-waiting.ensures
    in
    let few = listed_count sys tiles s c.requires.fits c.area-area.ensures.distinct c.holds_seeds.ensures.distinct listed.canonical in
    omega (arith, few, c.len.ensures ∙ ap length c.into_sequence-order.ensures, c.count.ensures)

pub returns-then-left-eq0-clause-answer : goal.returns-then-left-eq0-clause-answer
returns-then-left-eq0-clause-answer c =
    let sys = c.args.sys.now in
    let tiles = c.args.grid.now.tiles in
    let s = c.list_span.new.log.places in
    let listed = listed_whole sys c.in_ok-bonds.bonds tiles c.in_ok-log.log.places s c.in_ok-waiting.waiting c.area-area.result c.width.result c.height.result c.requires.fits
    c.if-not-holds_seeds.ensures.held c.in_ok-bonds.ensures (c.area-area.ensures.area ∙ c.requires.area) c.width.ensures c.height.ensures c.in_ok-log.ensures.seeds c.in_ok-waiting.ensures
    in
    let all : length tiles ≤ length s = omega (arith, c.len.ensures ∙ ap length c.into_sequence-order.ensures, c.count.ensures, c.if-left-eq0.true) in
    subst (IsWholeOrder sys tiles) (sym c.into_sequence-order.ensures) (
    whole_order sys tiles s c.requires.fits c.area-area.ensures.distinct c.holds_seeds.ensures.distinct listed.canonical
    (none_left sys tiles s c.requires.fits c.area-area.ensures.distinct c.holds_seeds.ensures.distinct listed.canonical all)
    )

pub returns-then-left-eq0-clause-producible : goal.returns-then-left-eq0-clause-producible
returns-then-left-eq0-clause-producible c = λ _. (λ _. (returns-then-left-eq0-clause-answer c).producible, λ _. search rules)

pub unwrap-least-requires : goal.unwrap-least-requires
unwrap-least-requires c =
    let sys = c.args.sys.now in
    let tiles = c.args.grid.now.tiles in
    let s = c.list_span.new.log.places in
    let listed = listed_whole sys c.in_ok-bonds.bonds tiles c.in_ok-log.log.places s c.in_ok-waiting.waiting c.area-area.result c.width.result c.height.result c.requires.fits
    c.if-not-holds_seeds.ensures.held c.in_ok-bonds.ensures (c.area-area.ensures.area ∙ c.requires.area) c.width.ensures c.height.ensures c.in_ok-log.ensures.seeds c.in_ok-waiting.ensures
    in
    let few = listed_count sys tiles s c.requires.fits c.area-area.ensures.distinct c.holds_seeds.ensures.distinct listed.canonical in
    let limits = subst IsBox (c.area-area.ensures.area ∙ c.requires.area) c.area-area.ensures.box_limits in
    let found = least_left-found sys tiles s c.in_ok-waiting.waiting listed.canonical listed.lacks listed.from_first listed.to_last limits c.least_left.result c.least_left.ensures.least c.least_left.ensures.none in
    some_left sys tiles s c.requires.fits c.area-area.ensures.distinct c.holds_seeds.ensures.distinct listed.canonical (c.count.result - c.len.result) c.least_left.result
    (omega (arith, few, c.len.ensures ∙ ap length c.into_sequence-order.ensures, c.count.ensures)) c.if-left-eq0.false found

pub returns-clause-answer : goal.returns-clause-answer
returns-clause-answer c =
    let sys = c.args.sys.now in
    let tiles = c.args.grid.now.tiles in
    let s = c.list_span.new.log.places in
    let listed = listed_whole sys c.in_ok-bonds.bonds tiles c.in_ok-log.log.places s c.in_ok-waiting.waiting c.area-area.result c.width.result c.height.result c.requires.fits
    c.if-not-holds_seeds.ensures.held c.in_ok-bonds.ensures (c.area-area.ensures.area ∙ c.requires.area) c.width.ensures c.height.ensures c.in_ok-log.ensures.seeds c.in_ok-waiting.ensures
    in
    let few = listed_count sys tiles s c.requires.fits c.area-area.ensures.distinct c.holds_seeds.ensures.distinct listed.canonical in
    let limits = subst IsBox (c.area-area.ensures.area ∙ c.requires.area) c.area-area.ensures.box_limits in
    let found = least_left-found sys tiles s c.in_ok-waiting.waiting listed.canonical listed.lacks listed.from_first listed.to_last limits c.least_left.result c.least_left.ensures.least c.least_left.ensures.none in
    let Left : Option Site → Type 0 = λ o. IsLeastLeft sys.area tiles s o in
    stuck_at sys tiles s c.requires.fits c.area-area.ensures.distinct c.holds_seeds.ensures.distinct listed.canonical c.unwrap-least.result (subst Left c.unwrap-least.ensures found)
    (c.count.result - c.len.result) (omega (arith, few, c.len.ensures ∙ ap length c.into_sequence-order.ensures, c.count.ensures))

pub returns-clause-producible : goal.returns-clause-producible
returns-clause-producible c =
    λ _. (λ ok. absurd (search rules), λ producible. absurd ((returns-clause-answer c).unproducible producible))
