-- A sequence whose places are put into a grid one by one, from the seeds on.
use Rattle.std.proofs.Common.{◌≡◌, ◌≢◌, ◌<◌, ◌+◌, ◌++◌, ℕ, List, [], ◌∷◌, length, take, get_or, Some, None, slice_get, refl, sym, ◌∙◌, ap, subst, inl, inr, arith, add-one}
use Rattle.std.proofs.lemmas.Option.{slice_get-get_or}
use Rattle.std.proofs.lemmas.List.{length-take}
use Rattle.std.proofs.lemmas.List.Elements.{All-contains}
use Rattle.std.proofs.Math.Nat.{min-le_left}
use Rattle.atam.specs.declared.site.Site.{Site}
use Rattle.atam.specs.declared.place.Place.{Place}
use Rattle.atam.specs.Placements.{HasDistinctSites, IsPartOf, SamePlacements, tile_at}
use Rattle.atam.proofs.Lists.{some_or_none, take_step, slice_get-take, slice_get-Contains, Contains-slice_get}
use Rattle.atam.proofs.Placements.{none_at, tile_at-Contains, distinct-empty}
use Rattle.atam.proofs.Tiles.{SamePlacements-push, SamePlacements-trans}

-- one place more
pub take_more : (s : List Place) (n : ℕ) (p : Place) → slice_get s n ≡ Some p → take (n + 1) s ≡ take n s ++ p ∷ []
take_more s n p there = ap (λ k. take k s) (add-one n) ∙ take_step s n p there

pub part_take : (s : List Place) (n : ℕ) → IsPartOf (take n s) s
part_take s n q contains =
    let at = Contains-slice_get (take n s) q contains in
    let below : at.0 < n = omega (arith, at.1, length-take n s, min-le_left n (length s)) in
    slice_get-Contains s at.0 q (sym (slice_get-take s at.0 n below) ∙ at.2)

-- a place more stands in both
pub SamePlacements-more : (s : List Place) (n : ℕ) (p : Place) (old new : List Place) → slice_get s n ≡ Some p → SamePlacements (take n s) old →
    SamePlacements (old ++ p ∷ []) new → SamePlacements (take (n + 1) s) new
SamePlacements-more s n p old new there same put =
    subst (λ l. SamePlacements l new) (sym (take_more s n p there))
    (SamePlacements-trans (take n s ++ p ∷ []) (old ++ p ∷ []) new (SamePlacements-push (take n s) old p same) put)

-- an empty site is empty in both
pub same_empty : (a b : List Place) → SamePlacements a b → (m : Site) → tile_at a m ≡ None → tile_at b m ≡ None
same_empty a b same m empty = elim (some_or_none (tile_at b m)) [
  | inl none ↦ none
  | inr some ↦
      let q : Place = record { site = m; tile = some.0 } in
      absurd (All-contains (λ p. p.site ≢ m) a q (none_at a m empty) (same.whole q (tile_at-Contains b m some.0 some.1)) refl)
]

-- the seed that follows others has an empty site
pub seed_empty : (seeds tiles : List Place) (k : ℕ) (e : Place) → HasDistinctSites seeds → k < length seeds → SamePlacements (take k seeds) tiles →
    tile_at tiles (get_or seeds k e).site ≡ None
seed_empty seeds tiles k e distinct within same =
    let p = get_or seeds k e in
    same_empty (take k seeds) tiles same p.site (distinct-empty seeds k p distinct (slice_get-get_or seeds k e within))
