use Rattle.std.proofs.Common.{◌≡◌, ◌<◌, ◌++◌, ◌∙◌, ℕ, List, length, take, get_or, Option, IsSome, Some, refl, ap, sym, subst, arith}
use Rattle.std.proofs.lemmas.List.{length-append, length-take-le, take_all}
use Rattle.std.proofs.lemmas.Option.{same_Some}
use Rattle.atam.specs.declared.area.BoxArea.{BoxArea}
use Rattle.atam.specs.declared.place.TypeId.{TypeId}
use Rattle.atam.specs.declared.place.Place.{Place}
use Rattle.atam.specs.Placements.{tile_at}
use Rattle.atam.specs.Canonical.{IsCanonical}
use Rattle.atam.proofs.Boxes.{near_inside}
use Rattle.assembly.specs.Cells.{site_at}
use Rattle.frontier_seat.proofs.Logged.{claimed, listed_more, many_claims}
use Rattle.frontier_seat.proofs.claim_log.ClaimLog.sequence_of.Goals as goal

-- the numbers that are gone through are those of the log
same_numbers : (items inside own : List ℕ) → items ≡ inside → inside ≡ own → items ≡ own
same_numbers items inside own one other = one ∙ other

pub unwrap-tile-requires : goal.unwrap-tile-requires
unwrap-tile-requires c =
    let items = c.deref-number-items.result.now in
    let numbers = c.args.self.now.numbers in
    let same : items ≡ numbers = same_numbers items _ numbers c.deref-number-items.ensures.value (λ k. (c.self.view_is k).numbers) in
    let i = c.loop-number.number-index in
    let n = get_or items i 0 in
    let within : i < length numbers = subst (λ (l : List ℕ). i < length l) same c.loop-number-test.true in
    let claim = claimed c.args.sys.now c.args.grid.now.tiles numbers i n c.requires.order c.recall_sites.ensures.distinct within (ap (λ (l : List ℕ). get_or l i 0) (sym same)) in
    let found : c.tile.result ≡ Some claim.0 = c.tile.ensures ∙ (ap (λ (a : BoxArea). tile_at c.args.grid.now.tiles (site_at a n)) c.requires.area ∙ claim.1) in
    subst (λ (o : Option TypeId). IsSome o) (sym found) refl

pub push-requires-clause-near : goal.push-requires-clause-near
push-requires-clause-near c = near_inside c.area-area.result c.site-site.result c.area-area.ensures.box_limits c.site-site.ensures.inside

pub push-requires-clause-small : goal.push-requires-clause-small
push-requires-clause-small c =
    let items = c.deref-number-items.result.now in
    let numbers = c.args.self.now.numbers in
    let same : items ≡ numbers = same_numbers items _ numbers c.deref-number-items.ensures.value (λ k. (c.self.view_is k).numbers) in
    let i = c.loop-number.number-index in
    let n = get_or items i 0 in
    let within : i < length numbers = subst (λ (l : List ℕ). i < length l) same c.loop-number-test.true in
    let claim = claimed c.args.sys.now c.args.grid.now.tiles numbers i n c.requires.order c.recall_sites.ensures.distinct within (ap (λ (l : List ℕ). get_or l i 0) (sym same)) in
    let found : Some c.unwrap-tile.result ≡ Some claim.0 = sym c.unwrap-tile.ensures ∙ (c.tile.ensures ∙ (ap (λ (a : BoxArea). tile_at c.args.grid.now.tiles (site_at a n)) c.requires.area ∙ claim.1)) in
    let kind : c.unwrap-tile.result.0 ≡ claim.0.0 = ap (λ (t : TypeId). t.0) (same_Some c.unwrap-tile.result claim.0 found) in
    let few = c.area-area.ensures.valid.type_count in
    let is = claim.2 in
    omega (arith, kind, few, is)

pub push-requires-clause-room : goal.push-requires-clause-room
push-requires-clause-room c =
    let items = c.deref-number-items.result.now in
    let numbers = c.args.self.now.numbers in
    let same : items ≡ numbers = same_numbers items _ numbers c.deref-number-items.ensures.value (λ k. (c.self.view_is k).numbers) in
    let i = c.loop-number.number-index in
    let order = c.requires.order in
    let within : i < length numbers = subst (λ (l : List ℕ). i < length l) same c.loop-number-test.true in
    let listed = ap length (c.loop-number.invariant.places order.claims order.sites order.stand) in
    let both = length-append c.args.sys.now.seeds (take i order.claims) in
    let part = length-take-le i order.claims (let many = many_claims c.args.sys.now order.claims numbers order.sites in omega (arith, within, many)) in
    let few = order.few in
    let room = c.loop-number.invariant.room in
    omega (arith, listed, both, part, few, within, room)

pub loop-number-preserved : goal.loop-number-preserved
loop-number-preserved c =
    let sys = c.args.sys.now in
    let tiles = c.args.grid.now.tiles in
    let items = c.deref-number-items.result.now in
    let numbers = c.args.self.now.numbers in
    let same : items ≡ numbers = same_numbers items _ numbers c.deref-number-items.ensures.value (λ k. (c.self.view_is k).numbers) in
    let i = c.loop-number.number-index in
    let n = get_or items i 0 in
    let within : i < length numbers = subst (λ (l : List ℕ). i < length l) same c.loop-number-test.true in
    let here = c.site-site.ensures.site ∙ ap (λ (a : BoxArea). site_at a n) c.area-area.ensures.area in
    let found : tile_at tiles (site_at sys.area n) ≡ Some c.unwrap-tile.result =
    ap (λ (a : BoxArea). tile_at tiles (site_at a n)) (sym c.requires.area) ∙ (sym c.tile.ensures ∙ c.unwrap-tile.ensures) in
    let room = c.loop-number.invariant.room in
    let kept = c.push.ensures.room in
    record {
      row = c.site-site.ensures.row;
      room = omega (arith, room, kept);
      places = λ claims sites stand. listed_more sys tiles claims c.loop-number.log.places c.push.new.self.places numbers i n c.site-site.result c.unwrap-tile.result sites stand c.recall_sites.ensures.distinct within
          (ap (λ (l : List ℕ). get_or l i 0) (sym same)) here found c.push.ensures.places (c.loop-number.invariant.places claims sites stand);
    }

pub returns : goal.returns
returns c =
    let sys = c.args.sys.now in
    let items = c.deref-number-items.result.now in
    let numbers = c.args.self.now.numbers in
    let same : items ≡ numbers = same_numbers items _ numbers c.deref-number-items.ensures.value (λ k. (c.self.view_is k).numbers) in
    let order = c.requires.order in
    let i = c.loop-number.number-index in
    let many = many_claims sys order.claims numbers order.sites in
    let long = ap length same in
    let over = c.loop-number-test.false in
    let all : take i order.claims ≡ order.claims = take_all i order.claims (omega (arith, many, long, over)) in
    let listed : c.into_sequence.result ≡ sys.seeds ++ order.claims =
    c.into_sequence.ensures ∙ (c.loop-number.invariant.places order.claims order.sites order.stand ∙ ap (λ (l : List Place). sys.seeds ++ l) all) in
    subst (IsCanonical sys c.args.grid.now.tiles) (sym listed) order.canonical
