-- The places of claims, by the numbers of their sites and the tiles that stand there.
use Rattle.std.proofs.Common.{◌≡◌, ◌<◌, ◌+◌, ◌++◌, ℕ, List, [], ◌∷◌, length, take, map, Some, get_or, sym, ◌∙◌, ap, subst, append_assoc, arith}
use Rattle.std.proofs.lemmas.List.{get_or-map, length-map, take_more}
use Rattle.std.proofs.lemmas.List.Elements.{All-get_or, Contains-get_or}
use Rattle.std.proofs.lemmas.Option.{same_Some}
use Rattle.atam.specs.declared.site.Site.{Site}
use Rattle.atam.specs.declared.place.TypeId.{TypeId}
use Rattle.atam.specs.declared.place.Place.{Place}
use Rattle.atam.specs.Placements.{HasDistinctSites, IsPartOf, tile_at}
use Rattle.atam.specs.TileSystem.{TileSystem, IsType}
use Rattle.atam.proofs.Placements.{Contains-tile_at}
use Rattle.assembly.specs.Cells.{cell_count, site_at}
use Rattle.grow_core.specs.Steps.{place}
use Rattle.frontier_seat.specs.Orders.{AreCanonicalClaims}

-- as many claims as numbers
pub many_claims : (sys : TileSystem) (claims : List Place) (numbers : List ℕ) → map (λ (p : Place). p.site) claims ≡ map (site_at sys.area) numbers → length claims ≡ length numbers
many_claims sys claims numbers sites = sym (length-map claims (λ (p : Place). p.site)) ∙ (ap length sites ∙ length-map numbers (site_at sys.area))

-- the site of a claim
claim_site : (sys : TileSystem) (claims : List Place) (numbers : List ℕ) (i n : ℕ) (d : Place) → map (λ (p : Place). p.site) claims ≡ map (site_at sys.area) numbers → i < length numbers → get_or numbers i 0 ≡ n → (get_or claims i d).site ≡ site_at sys.area n
claim_site sys claims numbers i n d sites within is =
    let many = many_claims sys claims numbers sites in
    sym (get_or-map (λ (p : Place). p.site) claims i d d.site (omega (arith, within, many)))
    ∙ (ap (λ (l : List Site). get_or l i d.site) sites ∙ (get_or-map (site_at sys.area) numbers i 0 d.site within ∙ ap (site_at sys.area) is))

-- and its tile
claim_tile : (sys : TileSystem) (tiles claims : List Place) (numbers : List ℕ) (i n : ℕ) (d : Place) → map (λ (p : Place). p.site) claims ≡ map (site_at sys.area) numbers → IsPartOf claims tiles → HasDistinctSites tiles → i < length numbers → get_or numbers i 0 ≡ n →
    tile_at tiles (site_at sys.area n) ≡ Some (get_or claims i d).tile
claim_tile sys tiles claims numbers i n d sites stand distinct within is =
    let many = many_claims sys claims numbers sites in
    let p = get_or claims i d in
    ap (tile_at tiles) (sym (claim_site sys claims numbers i n d sites within is)) ∙ Contains-tile_at tiles p distinct (stand p (Contains-get_or claims i d (omega (arith, within, many))))

-- a tile of the system stands at the site of a claim
pub claimed : (sys : TileSystem) (tiles : List Place) (numbers : List ℕ) (i n : ℕ) → AreCanonicalClaims sys tiles numbers → HasDistinctSites tiles → i < length numbers → get_or numbers i 0 ≡ n →
    (t : TypeId) × (tile_at tiles (site_at sys.area n) ≡ Some t) × IsType sys t × (n < cell_count sys.area)
claimed sys tiles numbers i n order distinct within is =
    let claims = order.claims in
    let many = many_claims sys claims numbers order.sites in
    let d : Place = place (site_at sys.area n) (record { 0 = 0 }) in (
      (get_or claims i d).tile,
      claim_tile sys tiles claims numbers i n d order.sites order.stand distinct within is,
      All-get_or (λ (p : Place). IsType sys p.tile) claims i d (omega (arith, within, many)) order.fits.types,
      subst (λ k. k < cell_count sys.area) is (All-get_or (λ k. k < cell_count sys.area) numbers i 0 within order.within),
    )

-- one place more is listed
pub listed_more : (sys : TileSystem) (tiles claims old new : List Place) (numbers : List ℕ) (i n : ℕ) (m : Site) (t : TypeId) → map (λ (p : Place). p.site) claims ≡ map (site_at sys.area) numbers → IsPartOf claims tiles → HasDistinctSites tiles → i < length numbers →
    get_or numbers i 0 ≡ n → m ≡ site_at sys.area n → tile_at tiles (site_at sys.area n) ≡ Some t → new ≡ old ++ place m t ∷ [] → old ≡ sys.seeds ++ take i claims → new ≡ sys.seeds ++ take (i + 1) claims
listed_more sys tiles claims old new numbers i n m t sites stand distinct within is here found longer listed =
    let many = many_claims sys claims numbers sites in
    let p : Place = place m t in
    let q = get_or claims i p in
    let same_site : q.site ≡ m = claim_site sys claims numbers i n p sites within is ∙ sym here in
    let same_tile : q.tile ≡ t = same_Some q.tile t (sym (claim_tile sys tiles claims numbers i n p sites stand distinct within is) ∙ found) in
    let same : q ≡ p = λ k. record { site = same_site k; tile = same_tile k } in
    longer ∙ (ap (λ (l : List Place). l ++ p ∷ []) listed ∙ (append_assoc sys.seeds (take i claims) (p ∷ [])
    ∙ ap (λ (l : List Place). sys.seeds ++ l) (ap (λ (r : Place). take i claims ++ r ∷ []) (sym same) ∙ sym (take_more claims i p (omega (arith, within, many))))))
