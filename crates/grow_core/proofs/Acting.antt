-- What the machine knows of a holds state, and the steps by which scouts look and claim.
use Rattle.std.proofs.Common.{◌≡◌, ◌≢◌, ◌<◌, ◌≤◌, ◌+◌, ℕ, List, [], ◌∷◌, ◌++◌, get_or, length, Option, Some, None, Ok, sym, ◌∙◌, ap, subst, inl, inr, arith, length-append}
use Rattle.std.proofs.lemmas.Option.{same_Some}
use Rattle.std.proofs.lemmas.List.{length-map, get_or-map}
use Rattle.std.proofs.lemmas.List.Elements.{All-contains, All-map, All-push, Contains-append_cases}
use Rattle.atam.specs.declared.site.Site.{Site}
use Rattle.atam.specs.declared.place.TypeId.{TypeId}
use Rattle.atam.specs.declared.place.Place.{Place}
use Rattle.atam.specs.Sites.{InBox}
use Rattle.atam.specs.TileSystem.{TileSystem, IsType, IsValid}
use Rattle.atam.specs.Placements.{HasDistinctSites, IsPartOf, tile_at}
use Rattle.atam.specs.Assembly.{Fits}
use Rattle.atam.proofs.Count.{count_in_box}
use Rattle.atam.proofs.Placements.{Extends, Extends-IsPartOf, HasDistinctSites-push, tile_at-Contains, empty_in_part}
use Rattle.assembly.specs.Cells.{cell_count}
use Rattle.atam.proofs.Opening.{Fits-part}
use Rattle.grow_core.specs.declared.placed_tile.PlacedTile.{PlacedTile}
use Rattle.atam.specs.declared.event.Event.TheVariants.{Look, Claim}
use Rattle.atam.specs.declared.event.Seen.TheVariants.{Saw, Won, Held}
use Rattle.grow_core.specs.Core.{ScoutState, scout_at, places, HasDistinctTiles, ScoutInvariant, CoreInvariant}
use Rattle.grow_core.specs.Steps.{CoreStep, Supports, place, tile_of, won_tile, with_scout, saw_tile, won, held}
use Rattle.grow_core.specs.Core.{state_of}
use Rattle.grow_core.specs.Inner.Entries.{Becomes}
use Rattle.grow_core.proofs.Lists.{map-part}
use Rattle.grow_core.proofs.Own.{mine_tile}
use Rattle.grow_core.proofs.Kept.{extends}
use Rattle.grow_core.proofs.Parted.{both_distinct}

-- tiles with distinct sites, as places
distinct_places : (tiles : List PlacedTile) → HasDistinctTiles tiles → HasDistinctSites (places tiles)
distinct_places tiles distinct i j d before within =
    let e : PlacedTile = tile_of d 0 in
    let in_j : j < length tiles = subst (λ n. j < n) (length-map tiles (λ (t : PlacedTile). t.place)) within in
    let in_i : i < length tiles = omega (arith, before, in_j) in
    let at_i : get_or (places tiles) i d ≡ (get_or tiles i e).place = get_or-map (λ (t : PlacedTile). t.place) tiles i e d in_i in
    let at_j : get_or (places tiles) j d ≡ (get_or tiles j e).place = get_or-map (λ (t : PlacedTile). t.place) tiles j e d in_j in
    λ same. distinct i j e before in_j (sym (ap (λ (p : Place). p.site) at_i) ∙ (same ∙ ap (λ (p : Place). p.site) at_j))

module _ (sys : TileSystem) (tiles : List PlacedTile) (old : List (Option ScoutState)) (holds : CoreInvariant sys (state_of tiles old)) where
  knows : (a : ℕ) (v : ScoutState) → scout_at old a ≡ Some v → ScoutInvariant sys tiles v
  knows = holds.growth.each

  pub whole_fits : Fits sys (places tiles)
  whole_fits = record { types = holds.growth.history.legal.types; sites = All-map (λ (p : Place). InBox sys.area p.site) (λ (t : PlacedTile). t.place) tiles holds.growth.history.inside }

  pub seen_fits : (a : ℕ) (v : ScoutState) → scout_at old a ≡ Some v → Fits sys v.seen
  seen_fits a v here = Fits-part sys v.seen (places tiles) (knows a v here).part whole_fits

  pub small_type : IsValid sys → (m : Site) (t : TypeId) → tile_at (places tiles) m ≡ Some t → t.0 < 16384
  small_type valid m t there =
      let kind : t.0 < length sys.types = All-contains (λ (p : Place). IsType sys p.tile) (places tiles) (place m t) whole_fits.types (tile_at-Contains (places tiles) m t there) in
      let most = valid.type_count in
      omega (arith, kind, most)

  seen_extends : (a : ℕ) (v : ScoutState) → scout_at old a ≡ Some v → Extends v.seen (places tiles)
  seen_extends a v here = extends sys tiles v holds.growth.history (knows a v here)

  -- what a scout has seen stands there, and is the same for two of them
  pub seen_agrees : (a : ℕ) (v : ScoutState) (m : Site) (t u : TypeId) → scout_at old a ≡ Some v → tile_at (places tiles) m ≡ Some t → tile_at v.seen m ≡ Some u → u ≡ t
  seen_agrees a v m t u here there seen = same_Some u t (sym (seen_extends a v here m u seen) ∙ there)

  pub two_agree : (a b : ℕ) (v w : ScoutState) (m : Site) (t u : TypeId) → scout_at old a ≡ Some v → scout_at old b ≡ Some w → tile_at v.seen m ≡ Some t → tile_at w.seen m ≡ Some u → t ≡ u
  two_agree a b v w m t u at_a at_b seen_v seen_w = seen_agrees a v m u t at_a (seen_extends b w at_b m u seen_w) seen_v

  pub seen_empty : (a : ℕ) (v : ScoutState) (m : Site) → scout_at old a ≡ Some v → tile_at (places tiles) m ≡ None → tile_at v.seen m ≡ None
  seen_empty a v m here empty = empty_in_part v.seen (places tiles) m (seen_extends a v here) empty

  -- own tiles are some of the tiles
  mine_part : (a : ℕ) (v : ScoutState) → scout_at old a ≡ Some v → IsPartOf (places v.mine) (places tiles)
  mine_part a v here = map-part (λ (t : PlacedTile). t.place) v.mine tiles (mine_tile sys tiles v (knows a v here))

  few : (ps : List Place) → HasDistinctSites ps → IsPartOf ps (places tiles) → length ps ≤ cell_count sys.area
  few ps distinct part = count_in_box sys.area ps distinct (Fits-part sys ps (places tiles) part whole_fits).sites

  pub few_mine : (a : ℕ) (v : ScoutState) → scout_at old a ≡ Some v → length v.mine ≤ cell_count sys.area
  few_mine a v here = subst (λ n. n ≤ cell_count sys.area) (length-map v.mine (λ (t : PlacedTile). t.place))
      (few (places v.mine) (distinct_places v.mine (knows a v here).mine_distinct) (mine_part a v here))

  -- so there is room for one more, while a site is empty
  pub room_for : (a : ℕ) (v : ScoutState) (p : Place) → scout_at old a ≡ Some v → InBox sys.area p.site → tile_at (places tiles) p.site ≡ None → length v.mine < cell_count sys.area
  room_for a v p here inside empty =
      let own_empty = empty_in_part (places v.mine) (places tiles) p.site (Extends-IsPartOf (places v.mine) (places tiles) holds.growth.history.distinct (mine_part a v here)) empty in
      let distinct = HasDistinctSites-push (places v.mine) p (distinct_places v.mine (knows a v here).mine_distinct) own_empty in
      let fits = Fits-part sys (places v.mine) (places tiles) (mine_part a v here) whole_fits in
      let most = count_in_box sys.area (places v.mine ++ p ∷ []) distinct (All-push (λ (q : Place). InBox sys.area q.site) (places v.mine) p fits.sites inside) in
      let count : length (places v.mine ++ p ∷ []) ≡ length v.mine + 1 = length-append (places v.mine) (p ∷ []) ∙ ap (λ n. n + 1) (length-map v.mine (λ (t : PlacedTile). t.place)) in
      omega (arith, most, count)

  pub room_for_both : (a b : ℕ) (v w : ScoutState) → scout_at old a ≡ Some v → scout_at old b ≡ Some w → a ≢ b → length v.mine + length w.mine ≤ cell_count sys.area
  room_for_both a b v w at_a at_b differ =
      let both = both_distinct sys tiles old a b v w v holds.growth at_a at_b differ in
      let part : IsPartOf (places (v.mine ++ w.mine)) (places tiles) = map-part (λ (t : PlacedTile). t.place) (v.mine ++ w.mine) tiles (λ t c. elim (Contains-append_cases v.mine w.mine t c) [
        | inl one ↦ mine_tile sys tiles v (knows a v at_a) t one
        | inr other ↦ mine_tile sys tiles w (knows b w at_b) t other
      ]) in
      let most = few (places (v.mine ++ w.mine)) (distinct_places (v.mine ++ w.mine) both) part in
      let count : length (places (v.mine ++ w.mine)) ≡ length v.mine + length w.mine = length-map (v.mine ++ w.mine) (λ (t : PlacedTile). t.place) ∙ length-append v.mine w.mine in
      omega (arith, most, count)

  pub saw_step : (new : List (Option ScoutState)) (who : ℕ) (site : Site) (t : TypeId) (v : ScoutState) → scout_at old who ≡ Some v → InBox sys.area site → tile_at (places tiles) site ≡ Some t →
      Becomes old new who v.owned (v.seen ++ place site t ∷ []) v.mine → CoreStep sys (state_of tiles old) (Look who site) (Ok (Saw (Some t))) (state_of tiles new)
  saw_step new who site t v here inside there becomes =
      subst (λ l. CoreStep sys (state_of tiles old) (Look who site) (Ok (Saw (Some t))) (state_of tiles l)) (sym becomes.others)
      (saw_tile who site t v becomes.scout here inside there becomes.is)

  pub held_step : (new : List (Option ScoutState)) (who : ℕ) (site : Site) (tile t : TypeId) (v : ScoutState) → scout_at old who ≡ Some v → InBox sys.area site → Supports sys v site tile →
      tile_at (places tiles) site ≡ Some t → Becomes old new who v.owned (v.seen ++ place site t ∷ []) v.mine →
      CoreStep sys (state_of tiles old) (Claim who site tile) (Ok (Held t)) (state_of tiles new)
  held_step new who site tile t v here inside supported there becomes =
      subst (λ l. CoreStep sys (state_of tiles old) (Claim who site tile) (Ok (Held t)) (state_of tiles l)) (sym becomes.others)
      (held who site tile t v becomes.scout here inside supported there becomes.is)

  pub won_step : (later : List PlacedTile) (new : List (Option ScoutState)) (who : ℕ) (site : Site) (tile : TypeId) (v : ScoutState) → scout_at old who ≡ Some v → InBox sys.area site → Supports sys v site tile →
      tile_at (places tiles) site ≡ None → later ≡ tiles ++ tile_of (place site tile) who ∷ [] →
      Becomes old new who v.owned (v.seen ++ place site tile ∷ []) (v.mine ++ won_tile v site tile ∷ []) →
      CoreStep sys (state_of tiles old) (Claim who site tile) (Ok Won) (state_of later new)
  won_step later new who site tile v here inside supported empty is_later becomes =
      let named : tiles ++ won_tile v site tile ∷ [] ≡ later = ap (λ n. tiles ++ tile_of (place site tile) n ∷ []) (holds.named.own_name who v here) ∙ sym is_later in
      subst (λ l. CoreStep sys (state_of tiles old) (Claim who site tile) (Ok Won) (state_of later l)) (sym becomes.others)
      (subst (λ k. CoreStep sys (state_of tiles old) (Claim who site tile) (Ok Won) (with_scout (state_of k old) who becomes.scout)) named
      (won who site tile v becomes.scout here inside supported empty becomes.is))
