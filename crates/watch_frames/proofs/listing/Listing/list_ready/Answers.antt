use Rattle.std.proofs.Common.{◌≡◌, ◌<◌, ◌≤◌, ◌-◌, List, [], ◌∷◌, ◌++◌, length, length-append, Some, sym, ◌∙◌, ap, subst, arith}
use Rattle.atam.specs.declared.place.Place.{Place}
use Rattle.atam.specs.Placements.{tile_at}
use Rattle.atam.proofs.Count.{count_in_box}
use Rattle.assembly.specs.Cells.{cell_count, site_at}
use Rattle.watch_frames.specs.Inner.Listing.{ListingValue, IsGoingOn, AtRest}
use Rattle.watch_frames.proofs.ReadySites.{fits_tile, tile_here}
use Rattle.watch_frames.proofs.Steps.{wide, ends, more_room, more_going, pushed_fits}
use Rattle.watch_frames.proofs.listing.Listing.list_ready.Goals as goal

pub list-requires : goal.list-requires
list-requires c =
    let sys = c.args.sys.now in
    let tiles = c.args.seen.now.tiles in
    let s = c.loop-number.frames.places in
    let n = c.in-Some.number in
    let p : Place = record { site = c.site-site.result; tile = c.unwrap-tile.result } in
    let distinct = c.area-area.ensures.distinct in
    let going : IsGoingOn sys c.args.frames.now.places tiles s (record { listed = c.self.inside.listed; ready = c.self.inside.ready }) = subst (λ (l : ListingValue). IsGoingOn sys c.args.frames.now.places tiles s l) (sym c.self.view_is) c.loop-number.invariant.going in
    let here : site_at sys.area n ≡ p.site = ap (λ a. site_at a n) (sym (c.area-area.ensures.area ∙ c.requires.can.area)) ∙ sym c.site-site.ensures.site in
    let placed : tile_at tiles p.site ≡ Some p.tile = sym (tile_here sys.area _ tiles n p.site c.requires.can.area here) ∙ sym c.tile.ensures ∙ c.unwrap-tile.ensures in
    let within : n < cell_count sys.area = omega (arith, c.in-Some.ensures.below, going.fit.bound) in
    let fewer = more_room sys c.args.frames.now.places tiles s (record { listed = c.self.inside.listed; ready = c.self.inside.ready }) distinct c.requires.can.distinct c.requires.can.fits going n p within here c.in-Some.ensures.least placed (wide sys.area c.recall_valid.ensures.valid.box) in
    let most : length tiles ≤ cell_count sys.area = count_in_box sys.area tiles distinct c.requires.can.fits.sites in
    omega (arith, fewer, most, c.requires.room, c.loop-number.invariant.room)

pub put_at-requires-clause-small : goal.put_at-requires-clause-small
put_at-requires-clause-small c =
    let kind = (fits_tile c.args.sys.now c.args.seen.now.tiles _ c.unwrap-tile.result c.requires.can.fits (sym c.tile.ensures ∙ c.unwrap-tile.ensures)).0 in
    omega (arith, kind, c.recall_valid.ensures.valid.type_count)

pub offer_beside-requires-clause-listed_fits : goal.offer_beside-requires-clause-listed_fits
offer_beside-requires-clause-listed_fits c =
    let sys = c.args.sys.now in
    let tiles = c.args.seen.now.tiles in
    let s = c.loop-number.frames.places in
    let n = c.in-Some.number in
    let p : Place = record { site = c.site-site.result; tile = c.unwrap-tile.result } in
    let going : IsGoingOn sys c.args.frames.now.places tiles s (record { listed = c.self.inside.listed; ready = c.self.inside.ready }) = subst (λ (l : ListingValue). IsGoingOn sys c.args.frames.now.places tiles s l) (sym c.self.view_is) c.loop-number.invariant.going in
    let here : site_at sys.area n ≡ p.site = ap (λ a. site_at a n) (sym (c.area-area.ensures.area ∙ c.requires.can.area)) ∙ sym c.site-site.ensures.site in
    let placed : tile_at tiles p.site ≡ Some p.tile = sym (tile_here sys.area _ tiles n p.site c.requires.can.area here) ∙ sym c.tile.ensures ∙ c.unwrap-tile.ensures in
    pushed_fits sys c.args.frames.now.places tiles s (record { listed = c.self.inside.listed; ready = c.self.inside.ready }) c.area-area.ensures.distinct c.requires.can.distinct c.requires.can.fits going p placed c.put_at.new.self.tiles c.put_at.ensures.placements

pub loop-number-smaller : goal.loop-number-smaller
loop-number-smaller c =
    let sys = c.args.sys.now in
    let tiles = c.args.seen.now.tiles in
    let s = c.loop-number.frames.places in
    let n = c.in-Some.number in
    let p : Place = record { site = c.site-site.result; tile = c.unwrap-tile.result } in
    let distinct = c.area-area.ensures.distinct in
    let going : IsGoingOn sys c.args.frames.now.places tiles s (record { listed = c.self.inside.listed; ready = c.self.inside.ready }) = subst (λ (l : ListingValue). IsGoingOn sys c.args.frames.now.places tiles s l) (sym c.self.view_is) c.loop-number.invariant.going in
    let here : site_at sys.area n ≡ p.site = ap (λ a. site_at a n) (sym (c.area-area.ensures.area ∙ c.requires.can.area)) ∙ sym c.site-site.ensures.site in
    let placed : tile_at tiles p.site ≡ Some p.tile = sym (tile_here sys.area _ tiles n p.site c.requires.can.area here) ∙ sym c.tile.ensures ∙ c.unwrap-tile.ensures in
    let within : n < cell_count sys.area = omega (arith, c.in-Some.ensures.below, going.fit.bound) in
    let fewer = more_room sys c.args.frames.now.places tiles s (record { listed = c.self.inside.listed; ready = c.self.inside.ready }) distinct c.requires.can.distinct c.requires.can.fits going n p within here c.in-Some.ensures.least placed (wide sys.area c.recall_valid.ensures.valid.box) in
    let longer : length c.list.new.self.places ≡ length (s ++ p ∷ []) = ap length c.list.ensures.places in
    let smaller : length tiles - length c.list.new.self.places < length tiles - length s = omega (arith, fewer, longer, length-append s (p ∷ [])) in
    smaller

pub loop-number-preserved : goal.loop-number-preserved
loop-number-preserved c =
    let sys = c.args.sys.now in
    let tiles = c.args.seen.now.tiles in
    let s = c.loop-number.frames.places in
    let n = c.in-Some.number in
    let p : Place = record { site = c.site-site.result; tile = c.unwrap-tile.result } in
    let distinct = c.area-area.ensures.distinct in
    let going : IsGoingOn sys c.args.frames.now.places tiles s (record { listed = c.self.inside.listed; ready = c.self.inside.ready }) = subst (λ (l : ListingValue). IsGoingOn sys c.args.frames.now.places tiles s l) (sym c.self.view_is) c.loop-number.invariant.going in
    let here : site_at sys.area n ≡ p.site = ap (λ a. site_at a n) (sym (c.area-area.ensures.area ∙ c.requires.can.area)) ∙ sym c.site-site.ensures.site in
    let placed : tile_at tiles p.site ≡ Some p.tile = sym (tile_here sys.area _ tiles n p.site c.requires.can.area here) ∙ sym c.tile.ensures ∙ c.unwrap-tile.ensures in
    let within : n < cell_count sys.area = omega (arith, c.in-Some.ensures.below, going.fit.bound) in
    let put : ListingValue = record { listed = c.put_at.new.self; ready = c.remove.new.self } in
    let more = more_going sys c.args.frames.now.places tiles s (record { listed = c.self.inside.listed; ready = c.self.inside.ready }) distinct c.requires.can.distinct c.requires.can.fits going n p within here c.in-Some.ensures.least placed
    put c.offer_beside.new.self c.remove.ensures.removes c.remove.ensures.bound c.put_at.ensures.area c.put_at.ensures.placements c.put_at.ensures.distinct c.put_at.ensures.here c.put_at.ensures.others
    c.offer_beside.ensures.adds c.offer_beside.ensures.has (wide sys.area c.recall_valid.ensures.valid.box)
    in
    record {
      going = subst (λ (l : List Place). IsGoingOn sys c.args.frames.now.places tiles l c.offer_beside.new.self) (sym c.list.ensures.places) more;
      room = c.list.ensures.room ∙ c.loop-number.invariant.room;
      counts = c.list.ensures.counts ∙ c.loop-number.invariant.counts;
      most = c.list.ensures.most ∙ c.loop-number.invariant.most;
      row = c.site-site.ensures.row;
    }

pub returns-clause-goes_on : goal.returns-clause-goes_on
returns-clause-goes_on c =
    let sys = c.args.sys.now in
    let tiles = c.args.seen.now.tiles in
    let s = c.loop-number.frames.places in
    let going : IsGoingOn sys c.args.frames.now.places tiles s (record { listed = c.self.inside.listed; ready = c.self.inside.ready }) = subst (λ (l : ListingValue). IsGoingOn sys c.args.frames.now.places tiles s l) (sym c.self.view_is) c.loop-number.invariant.going in
    ends sys c.args.frames.now.places tiles s (record { listed = c.self.inside.listed; ready = c.self.inside.ready }) c.area-area.ensures.distinct c.requires.can.distinct c.requires.can.fits going c.in_default.ensures.none

pub returns-clause-rest : goal.returns-clause-rest
returns-clause-rest c =
    let sys = c.args.sys.now in
    let tiles = c.args.seen.now.tiles in
    let s = c.loop-number.frames.places in
    let going : IsGoingOn sys c.args.frames.now.places tiles s (record { listed = c.self.inside.listed; ready = c.self.inside.ready }) = subst (λ (l : ListingValue). IsGoingOn sys c.args.frames.now.places tiles s l) (sym c.self.view_is) c.loop-number.invariant.going in
    let rest : AtRest sys s (record { listed = c.self.inside.listed; ready = c.self.inside.ready }) = record { fit = going.fit; same = going.same; none = c.in_default.ensures.none } in
    subst (λ (l : ListingValue). AtRest sys s l) c.self.view_is rest
