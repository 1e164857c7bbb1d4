-- Tiles at the least open site, in their order.
use Rattle.std.proofs.Common.{◌≡◌, ◌<◌, ◌≤◌, ◌+◌, ◌++◌, Bool, true, length, length-append, List, [], ◌∷◌, map, take, All, Contains, append-nil, append_assoc, sym, ◌∙◌, ap, subst, inl, inr, arith}
use Rattle.std.proofs.lemmas.Int.{ints}
use Rattle.std.proofs.lemmas.List.{length-map, map_push}
use Rattle.std.proofs.lemmas.Option.{slice_get_within}
use Rattle.std.proofs.lemmas.List.Elements.{All-nil, All-push, Contains-append_right}
use Rattle.atam.specs.declared.site.Site.{Site}
use Rattle.atam.specs.declared.place.TypeId.{TypeId}
use Rattle.atam.specs.declared.place.Place.{Place}
use Rattle.atam.specs.Sites.{InBox, IsBefore, IsBox, width_of}
use Rattle.atam.specs.Placements.{SamePlacements, HasDistinctSites}
use Rattle.atam.specs.TileSystem.{TileSystem, IsValid}
use Rattle.atam.specs.Assembly.{Fits, pull}
use Rattle.atam.specs.Canonical.{IsCanonical}
use Rattle.atam.specs.Growth.{IsCandidate, IsClosedInBox, IsFullGrowth}
use Rattle.atam.specs.LeastFirst.{FillsLeast}
use Rattle.atam.specs.Growth.{IsLegal}
use Rattle.atam.proofs.Canon.{canonical_too, canonical_unique}
use Rattle.atam.proofs.Count.{count_in_box}
use Rattle.atam.proofs.Lists.{push_cases}
use Rattle.atam.proofs.LeastFirst.{FillsLeast-push, FillsLeast-seeds, canonical_of}
use Rattle.atam.proofs.Opening.{Fits-part, IsCandidate-same}
use Rattle.atam.proofs.Sequences.{IsLegal-distinct, IsLegal-seeds, IsLegal-push}
use Rattle.atam.proofs.Tiles.{SameTiles, SameTiles-from, SamePlacements-push, SamePlacements-trans, same_back}
use Rattle.assembly.specs.Cells.{cell_count, site_at}
use Rattle.assembly.specs.Grids.{TileGrid}
use Rattle.assembly.proofs.Cells.{index_of, not_before}
use Rattle.grow_core.specs.Steps.{place}
use Rattle.number_set.specs.Numbers.{Numbers, IsIn, IsLeastOf}
use Rattle.type_cache.specs.Clean.{CameExact, ComesClean, ComesExact, GrewExact}
use Rattle.type_cache.proofs.Settling.{exact_same}
use Rattle.frontier_seat.specs.declared.growing.Growing.{Growing}
use Rattle.frontier_seat.specs.declared.work_list.Spot.{Spot}
use Rattle.frontier_seat.specs.Growths.{IsGrowing}
use Rattle.frontier_seat.specs.Orders.{AreCanonicalClaims, LoggedClaims}
use Rattle.frontier_seat.specs.Inner.Fillings.{Fills, GrewByLog, GrewInOrder, GrewSeen, IsFilling}
use Rattle.frontier_seat.specs.Inner.Logs.{LoggedTiles}
use Rattle.frontier_seat.specs.Inner.Listings.{IsSpot}
use Rattle.frontier_seat.specs.Inner.Looks.{IsClosedBut, KeepsClean, LogsClaim}

-- the seeds alone
pub order_start : (sys : TileSystem) (tiles order : List Place) → IsValid sys → SamePlacements sys.seeds tiles → order ≡ sys.seeds → GrewInOrder sys tiles order
order_start sys tiles order valid same alone = record {
  legal = subst (IsLegal sys) (sym alone) (IsLegal-seeds sys valid.seed_types);
  least = subst (FillsLeast sys) (sym alone) (FillsLeast-seeds sys);
  same = subst (λ (l : List Place). SamePlacements l tiles) (sym alone) same;
}

-- the least site that is listed is the least open one
pub least_listed : (sys : TileSystem) (tiles : List Place) (numbers : Numbers) (spot : Spot) → IsBox sys.area → IsSpot sys.area spot → IsClosedBut sys tiles (IsIn numbers) → IsLeastOf numbers spot.number →
    (n : Site) (u : TypeId) → InBox sys.area n → IsCandidate sys tiles n u → ¬ IsBefore n spot.site
least_listed sys tiles numbers spot limits is closed least n u inside grows =
    let at = index_of sys.area n inside in
    let listed = closed at.0 u at.1 (subst (λ (m : Site). IsCandidate sys tiles m u) (sym at.2) grows) in
    let columns = limits.corners.columns in
    let wide : 0 < width_of sys.area = omega (arith, ints, columns) in
    let never : ¬ IsBefore (site_at sys.area at.0) (site_at sys.area spot.number) = not_before sys.area spot.number at.0 (least.least at.0 listed) wide in
    subst (λ (m : Site). ¬ IsBefore n m) is.site (subst (λ (m : Site). ¬ IsBefore m (site_at sys.area spot.number)) at.2 never)

-- one tile more
pub order_more : (sys : TileSystem) (tiles after : List Place) (site : Site) (old new : List Place) → HasDistinctSites tiles →
    ((n : Site) (u : TypeId) → InBox sys.area n → IsCandidate sys tiles n u → ¬ IsBefore n site) →
    Fills sys site tiles after old new → GrewInOrder sys tiles old → GrewInOrder sys after new
order_more sys tiles after site old new distinct least fills order =
    let p : Place = place site fills.tile in
    let to : SameTiles tiles old = SameTiles-from tiles old distinct (same_back old tiles order.same) in
    let back : SameTiles old tiles = λ m. sym (to m) in
    let grows : IsCandidate sys old site fills.tile = IsCandidate-same sys tiles old site fills.tile to fills.grows in
    let longer : old ++ p ∷ [] ≡ new = sym fills.logged in
    record {
      legal = subst (IsLegal sys) longer (IsLegal-push sys old p order.legal grows.kind grows.attaches);
      least = subst (FillsLeast sys) longer (FillsLeast-push sys old p order.least (λ n u inside opens. least n u inside (IsCandidate-same sys old tiles n u back opens)));
      same = subst (λ (l : List Place). SamePlacements l after) longer
          (SamePlacements-trans (old ++ p ∷ []) (tiles ++ p ∷ []) after (SamePlacements-push old tiles p order.same) fills.placements);
    }

-- the seeds alone came clean, of which nothing is asked
came_seeds : (sys : TileSystem) (s : List Place) → s ≡ sys.seeds → CameExact sys s
came_seeds sys s alone = subst (CameExact sys) (sym alone) (record {
  clean = λ i p later there. let within = slice_get_within sys.seeds i p there in absurd (omega (arith, later, within));
  exact = λ i p later there. let within = slice_get_within sys.seeds i p there in absurd (omega (arith, later, within));
})

-- one place more that comes clean
came_more : (sys : TileSystem) (s : List Place) (p : Place) → CameExact sys s → ComesExact sys s p.site p.tile → CameExact sys (s ++ p ∷ [])
came_more sys s p came comes = record {
  clean = λ i q later there. elim (push_cases s p i q there) [
    | inl h ↦ subst (λ (l : List Place). ComesClean sys l q.site q.tile) (sym h.1) (came.clean i q later h.0)
    | inr h ↦
        subst (λ (r : Place). ComesClean sys (take i (s ++ p ∷ [])) r.site r.tile) h.0 (subst (λ (l : List Place). ComesClean sys l p.site p.tile) (sym h.1) comes.clean)
  ];
  exact = λ i q later there. elim (push_cases s p i q there) [
    | inl h ↦ subst (λ (l : List Place). pull sys l q.site q.tile ≡ sys.tau) (sym h.1) (came.exact i q later h.0)
    | inr h ↦
        subst (λ (r : Place). pull sys (take i (s ++ p ∷ [])) r.site r.tile ≡ sys.tau) h.0 (subst (λ (l : List Place). pull sys l p.site p.tile ≡ sys.tau) (sym h.1) comes.exact)
  ];
}

-- the seeds alone, with what is said of them
pub seen_start : (sys : TileSystem) (tiles order : List Place) (clean : Bool) → IsValid sys → SamePlacements sys.seeds tiles → order ≡ sys.seeds → GrewSeen sys tiles order clean
seen_start sys tiles order clean valid same alone = record { grew = order_start sys tiles order valid same alone; exact = λ said. came_seeds sys order alone }

-- one tile more
pub seen_more : (sys : TileSystem) (tiles after : List Place) (site : Site) (old new : List Place) (was is : Bool) → HasDistinctSites tiles →
    ((n : Site) (u : TypeId) → InBox sys.area n → IsCandidate sys tiles n u → ¬ IsBefore n site) →
    Fills sys site tiles after old new → KeepsClean sys tiles site was is → GrewSeen sys tiles old was → GrewSeen sys after new is
seen_more sys tiles after site old new was is distinct least fills keeps seen = record {
  grew = order_more sys tiles after site old new distinct least fills seen.grew;
  exact = λ said.
      let clear = keeps said in
      let same : SameTiles tiles old = SameTiles-from tiles old distinct (same_back old tiles seen.grew.same) in
      let comes = exact_same sys tiles old site fills.tile same (clear.1 fills.tile fills.grows) in
      subst (CameExact sys) (sym fills.logged) (came_more sys old (place site fills.tile) (seen.exact clear.0) comes);
}

-- or none
pub seen_stays : (sys : TileSystem) (tiles after : List Place) (old new : LoggedTiles) → after ≡ tiles → new ≡ old → GrewSeen sys tiles old.places old.clean → GrewSeen sys after new.places new.clean
seen_stays sys tiles after old new same_tiles same seen =
    subst (λ (l : List Place). GrewSeen sys l new.places new.clean) (sym same_tiles) (subst (λ (l : LoggedTiles). GrewSeen sys tiles l.places l.clean) (sym same) seen)

-- no claim yet
pub claims_start : (sys : TileSystem) (tiles : List Place) (log : LoggedClaims) → IsValid sys → SamePlacements sys.seeds tiles → log.numbers ≡ [] → GrewByLog sys tiles log
claims_start sys tiles log valid same none = record {
  claims = [];
  sites = ap (map (site_at sys.area)) (sym none);
  within = subst (All (λ n. n < cell_count sys.area)) (sym none) (All-nil (λ n. n < cell_count sys.area));
  seen = seen_start sys tiles (sys.seeds ++ []) log.clean valid same (append-nil sys.seeds);
}

-- one claim more, of a type that attached
pub claims_more : (sys : TileSystem) (before after : Growing) (spot : Spot) (old new : LoggedClaims) → IsGrowing sys before → IsSpot sys.area spot →
    ((n : Site) (u : TypeId) → InBox sys.area n → IsCandidate sys before.grid.tiles n u → ¬ IsBefore n spot.site) →
    (logs : LogsClaim sys spot before after old new) → IsCandidate sys before.grid.tiles spot.site logs.claim.tile → GrewByLog sys before.grid.tiles old → GrewByLog sys after.grid.tiles new
claims_more sys before after spot old new growing is least logs grows order =
    let claim = logs.claim in
    let longer = logs.numbers in
    let p : Place = place spot.site claim.tile in
    let claims = order.claims in
    let fills : Fills sys spot.site before.grid.tiles after.grid.tiles (sys.seeds ++ claims) (sys.seeds ++ (claims ++ p ∷ [])) =
    record { tile = claim.tile; grows = grows; placements = claim.placements; logged = sym (append_assoc sys.seeds claims (p ∷ [])) } in
    record {
      claims = claims ++ p ∷ [];
      sites = map_push (λ (q : Place). q.site) claims p ∙ ap (λ (l : List Site). l ++ spot.site ∷ []) order.sites
          ∙ ap (λ (m : Site). map (site_at sys.area) old.numbers ++ m ∷ []) (sym is.site) ∙ sym (map_push (site_at sys.area) old.numbers spot.number) ∙ ap (map (site_at sys.area)) (sym longer);
      within = subst (All (λ n. n < cell_count sys.area)) (sym longer) (All-push (λ n. n < cell_count sys.area) old.numbers spot.number order.within is.within);
      seen = seen_more sys before.grid.tiles after.grid.tiles spot.site (sys.seeds ++ claims) (sys.seeds ++ (claims ++ p ∷ [])) old.clean new.clean growing.distinct least fills logs.clean order.seen;
    }

-- or none
pub claims_stay : (sys : TileSystem) (before after : Growing) (old new : LoggedClaims) → after ≡ before → new ≡ old → GrewByLog sys before.grid.tiles old → GrewByLog sys after.grid.tiles new
claims_stay sys before after old new same_growing same order =
    subst (λ (g : Growing). GrewByLog sys g.grid.tiles new) (sym same_growing) (subst (λ (l : LoggedClaims). GrewByLog sys before.grid.tiles l) (sym same) order)

-- at most as many tiles as the box has sites
pub few_logged : (sys : TileSystem) (tiles order : List Place) → IsValid sys → Fits sys tiles → GrewInOrder sys tiles order → length order ≤ cell_count sys.area
few_logged sys tiles order valid fits grew =
    count_in_box sys.area order (IsLegal-distinct sys order valid.distinct_seeds grew.legal) (Fits-part sys order tiles grew.same.part fits).sites

-- and as many claims, beside the seeds
pub few_claims : (sys : TileSystem) (tiles : List Place) (log : LoggedClaims) → IsValid sys → Fits sys tiles → GrewByLog sys tiles log → length log.numbers + length sys.seeds ≤ cell_count sys.area
few_claims sys tiles log valid fits order =
    let few = few_logged sys tiles (sys.seeds ++ order.claims) valid fits order.seen.grew in
    let both = length-append sys.seeds order.claims in
    let many : length order.claims ≡ length log.numbers = sym (length-map order.claims (λ (p : Place). p.site)) ∙ (ap length order.sites ∙ length-map log.numbers (site_at sys.area)) in
    omega (arith, few, both, many)

-- growth in order has its canonical sequence
pub canonical_order : (sys : TileSystem) (tiles order : List Place) → IsValid sys → Fits sys tiles → GrewInOrder sys tiles order → IsCanonical sys tiles order
canonical_order sys tiles order valid fits grew =
    let order_fits : Fits sys order = Fits-part sys order tiles grew.same.part fits in
    canonical_too sys order tiles grew.same order (canonical_of sys order valid.distinct_seeds order_fits grew.legal grew.least)

-- by the numbers of its sites, too
pub canonical_claims : (sys : TileSystem) (tiles : List Place) (log : LoggedClaims) → IsValid sys → Fits sys tiles → GrewByLog sys tiles log → AreCanonicalClaims sys tiles log.numbers
canonical_claims sys tiles log valid fits order =
    let few = few_claims sys tiles log valid fits order in
    let stand = λ (p : Place) (c : Contains order.claims p). order.seen.grew.same.part p (Contains-append_right sys.seeds order.claims p c) in
    record {
      claims = order.claims;
      sites = order.sites;
      within = order.within;
      few = omega (arith, few);
      fits = Fits-part sys order.claims tiles stand fits;
      stand = stand;
      canonical = canonical_order sys tiles (sys.seeds ++ order.claims) valid fits order.seen.grew;
    }

-- each place of which came clean, if it is said so
pub grew_exact : (sys : TileSystem) (tiles : List Place) (log : LoggedClaims) → IsValid sys → HasDistinctSites tiles → Fits sys tiles → GrewByLog sys tiles log → log.clean ≡ true → GrewExact sys tiles
grew_exact sys tiles log valid distinct fits order said s canonical =
    let own = canonical_order sys tiles (sys.seeds ++ order.claims) valid fits order.seen.grew in
    subst (CameExact sys) (canonical_unique sys tiles distinct (sys.seeds ++ order.claims) s own canonical) (order.seen.exact said)

-- growth in order is a full one once the box is closed
pub full_growth : (sys : TileSystem) (grid : TileGrid) (order : List Place) → IsFilling sys grid → IsClosedInBox sys grid.tiles → GrewInOrder sys grid.tiles order → IsFullGrowth sys grid.tiles
full_growth sys grid order filling closed grew = record {
  distinct = filling.distinct;
  inside = filling.fits.sites;
  producible = record { sequence = order; legal = grew.legal; same = grew.same };
  closed = closed;
}
