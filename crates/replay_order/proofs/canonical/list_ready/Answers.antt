use Rattle.std.proofs.Common.{rules, ◌≡◌, ◌<◌, ◌+◌, ◌-◌, ℕ, List, ◌∷◌, ◌++◌, [], length, length-append, Some, refl, ◌∙◌, ap, sym, arith}
use Rattle.atam.specs.declared.area.BoxArea.{BoxArea}
use Rattle.atam.specs.declared.site.Site.{Site}
use Rattle.atam.specs.declared.place.TypeId.{TypeId}
use Rattle.atam.specs.declared.place.Place.{Place}
use Rattle.atam.specs.Placements.{tile_at}
use Rattle.atam.proofs.Boxes.{near_inside}
use Rattle.assembly.specs.Cells.{site_at}
use Rattle.replay_order.proofs.ReadySites.{Fits-tile}
use Rattle.replay_order.proofs.SpanSteps.{span_unlisted, span_listed, begun_more, fewer_begun, shorter_begun}
use Rattle.replay_order.proofs.canonical.list_ready.Goals as goal

-- the site with the number that is taken
site_here : (own area : BoxArea) (number : ℕ) (m : Site) → area ≡ own → m ≡ site_at area number → m ≡ site_at own number
site_here own area number m same is = is ∙ ap (λ a. site_at a number) same

-- and its tile
placed_at : (tiles : List Place) (m : Site) (t : TypeId) (own area : BoxArea) (number : ℕ) → area ≡ own → m ≡ site_at own number → tile_at tiles (site_at area number) ≡ Some t → tile_at tiles m ≡ Some t
placed_at tiles m t own area number same here found = ap (tile_at tiles) (here ∙ ap (λ a. site_at a number) (sym same)) ∙ found

pub loop-number-init : goal.loop-number-init
loop-number-init c = record {
  begun = span_unlisted c.args.bonds.now c.args.grid.now.tiles c.args.waiting.now.first c.args.waiting.now.end c.args.log.now.places c.args.waiting.now c.requires.valid.distinct_seeds c.requires.seeded
      refl refl c.requires.lacks c.requires.ready;
  room = c.requires.room;
  row = search rules;
}

pub push-requires-clause-near : goal.push-requires-clause-near
push-requires-clause-near c =
    let there = site_here c.args.bonds.now.area _ c.in-Some.number _ (c.area-area.ensures.area ∙ c.requires.area) c.site-site.ensures.site in
    let placed = placed_at c.args.grid.now.tiles _ _ c.args.bonds.now.area _ c.in-Some.number c.requires.area there (sym c.tile.ensures ∙ c.unwrap-tile.ensures) in
    near_inside c.args.bonds.now.area c.site-site.result c.requires.valid.box (Fits-tile c.args.bonds.now c.args.grid.now.tiles c.site-site.result c.unwrap-tile.result c.requires.fits placed).1

pub push-requires-clause-small : goal.push-requires-clause-small
push-requires-clause-small c =
    let kind = (Fits-tile c.args.bonds.now c.args.grid.now.tiles _ c.unwrap-tile.result c.requires.fits (sym c.tile.ensures ∙ c.unwrap-tile.ensures)).0 in
    omega (arith, kind, c.requires.valid.type_count)

pub push-requires-clause-room : goal.push-requires-clause-room
push-requires-clause-room c =
    let p : Place = record { site = c.site-site.result; tile = c.unwrap-tile.result } in
    let sys = c.args.bonds.now in
    let tiles = c.args.grid.now.tiles in
    let w = c.args.waiting.now in
    let there = site_here sys.area _ c.in-Some.number _ (c.area-area.ensures.area ∙ c.requires.area) c.site-site.ensures.site in
    let placed = placed_at tiles p.site p.tile sys.area _ c.in-Some.number c.requires.area there (sym c.tile.ensures ∙ c.unwrap-tile.ensures) in
    let begun = c.loop-number.invariant.begun in
    let shorter = shorter_begun sys tiles w.first w.end c.args.log.now.places c.loop-number.log.places c.loop-number.waiting c.take_least.new.self c.in-Some.number p c.requires.valid.box c.requires.distinct c.requires.fits begun
    c.in-Some.ensures.least there placed
    in
    omega (arith, shorter, ap length begun.listed, length-append c.args.log.now.places begun.part, c.loop-number.invariant.room)

pub lower_beside-requires-clause-kind : goal.lower_beside-requires-clause-kind
lower_beside-requires-clause-kind c =
    (Fits-tile c.args.bonds.now c.args.grid.now.tiles _ c.unwrap-tile.result c.requires.fits (sym c.tile.ensures ∙ c.unwrap-tile.ensures)).0

pub loop-number-smaller : goal.loop-number-smaller
loop-number-smaller c =
    let p : Place = record { site = c.site-site.result; tile = c.unwrap-tile.result } in
    let sys = c.args.bonds.now in
    let tiles = c.args.grid.now.tiles in
    let w = c.args.waiting.now in
    let there = site_here sys.area _ c.in-Some.number _ (c.area-area.ensures.area ∙ c.requires.area) c.site-site.ensures.site in
    let placed = placed_at tiles p.site p.tile sys.area _ c.in-Some.number c.requires.area there (sym c.tile.ensures ∙ c.unwrap-tile.ensures) in
    let begun = c.loop-number.invariant.begun in
    let few = fewer_begun sys tiles w.first w.end c.args.log.now.places c.loop-number.log.places c.loop-number.waiting c.take_least.new.self c.in-Some.number p c.requires.valid.box c.requires.distinct c.requires.fits begun
    c.in-Some.ensures.least there placed
    in
    let before = length c.args.log.now.places + length tiles in
    let longer : length c.push.new.self.places ≡ length (c.loop-number.log.places ++ p ∷ []) = ap length c.push.ensures.places in
    let smaller : before - length c.push.new.self.places < before - length c.loop-number.log.places =
    omega (arith, few, longer, length-append c.loop-number.log.places (p ∷ []), ap length begun.listed, length-append c.args.log.now.places begun.part)
    in
    smaller

pub loop-number-preserved : goal.loop-number-preserved
loop-number-preserved c =
    let p : Place = record { site = c.site-site.result; tile = c.unwrap-tile.result } in
    let sys = c.args.bonds.now in
    let tiles = c.args.grid.now.tiles in
    let w = c.args.waiting.now in
    let a = c.loop-number.waiting in
    let b = c.take_least.new.self in
    let taken = c.in-Some.ensures in
    let there = site_here sys.area _ c.in-Some.number _ (c.area-area.ensures.area ∙ c.requires.area) c.site-site.ensures.site in
    let placed = placed_at tiles p.site p.tile sys.area _ c.in-Some.number c.requires.area there (sym c.tile.ensures ∙ c.unwrap-tile.ensures) in
    record {
      begun = begun_more sys tiles w.first w.end c.args.log.now.places c.loop-number.log.places a b c.in-Some.number p c.requires.valid.box c.requires.distinct c.requires.fits c.loop-number.invariant.begun
          taken.least there placed taken.span.0 taken.span.1 taken.area taken.lacks c.push.new.self.places c.lower_beside.new.self b.area c.push.ensures.places refl c.lower_beside.ensures;
      room = omega (arith, c.loop-number.invariant.room, c.push.ensures.room);
      row = c.site-site.ensures.row;
    }

pub returns : goal.returns
returns c =
    let none = c.in_default.ensures in
    span_listed c.args.bonds.now c.args.grid.now.tiles c.args.waiting.now.first c.args.waiting.now.end c.args.log.now.places c.loop-number.log.places c.loop-number.waiting c.take_least.new.self
    c.requires.distinct c.requires.fits c.loop-number.invariant.begun none.none none.span.0 none.span.1 none.area none.lacks
