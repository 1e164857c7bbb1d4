-- A box that is full: nothing is open in it.
use Rattle.std.proofs.Common.{◌≡◌, ◌≢◌, ◌*◌, List, [], ◌∷◌, ◌++◌, All, length, length-append, Option, Some, None, arith}
use Rattle.std.proofs.lemmas.List.Elements.{All-push}
use Rattle.atam.specs.declared.site.Site.{Site}
use Rattle.atam.specs.declared.place.TypeId.{TypeId}
use Rattle.atam.specs.declared.place.Place.{Place}
use Rattle.atam.specs.declared.area.BoxArea.{BoxArea}
use Rattle.atam.specs.Sites.{InBox, width_of, height_of}
use Rattle.atam.specs.Placements.{HasDistinctSites, tile_at}
use Rattle.atam.specs.TileSystem.{TileSystem}
use Rattle.atam.specs.Growth.{IsClosedInBox, IsLeastOpen, IsLeastOpenOutside}
use Rattle.atam.proofs.Count.{count_in_box}
use Rattle.atam.proofs.Placements.{HasDistinctSites-push}
use Rattle.attach_rule.proofs.LeastOfBoth.{least_inside, least_outside}

-- as many tiles as the box has sites leave none empty
full_box : (area : BoxArea) (tiles : List Place) → HasDistinctSites tiles → All (λ p. InBox area p.site) tiles → length tiles ≡ width_of area * height_of area →
    (m : Site) → InBox area m → tile_at tiles m ≢ None
full_box area tiles distinct inside full m within empty =
    let p : Place = record { site = m; tile = record { 0 = 0 } } in
    let few = count_in_box area (tiles ++ p ∷ []) (HasDistinctSites-push tiles p distinct empty) (All-push (λ (q : Place). InBox area q.site) tiles p inside within) in
    let never : ⊥ = omega (arith, few, full, length-append tiles (p ∷ [])) in
    never

-- where nothing is open in the box the least open site is the least one outside
pub least_open-closed : (sys : TileSystem) (tiles : List Place) → IsClosedInBox sys tiles → (found : Option (Site × TypeId)) → IsLeastOpenOutside sys tiles found → IsLeastOpen sys tiles found
least_open-closed sys tiles closed None outside = least_inside sys tiles None None (λ m t within grows. closed m t within grows) outside (λ first. first)
least_open-closed sys tiles closed (Some found) outside = least_outside sys tiles None (Some found) (λ m t within grows. closed m t within grows) outside tt

-- so also in a full box
pub least_open-full : (sys : TileSystem) (tiles : List Place) → HasDistinctSites tiles → All (λ p. InBox sys.area p.site) tiles → length tiles ≡ width_of sys.area * height_of sys.area →
    (found : Option (Site × TypeId)) → IsLeastOpenOutside sys tiles found → IsLeastOpen sys tiles found
least_open-full sys tiles distinct inside full found outside =
    least_open-closed sys tiles (λ m t within grows. full_box sys.area tiles distinct inside full m within grows.attaches.empty) found outside
