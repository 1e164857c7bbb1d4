-- What the tiles below a span do to it: those in the row below it alone are beside its sites.
use Rattle.std.proofs.Common.{◌≡◌, ◌≢◌, ◌<◌, ◌≤◌, ◌+◌, ◌*◌, ◌/◌, ◌%◌, ◌++◌, ℕ, suc, List, [], ◌∷◌, Option, Some, None, All, append-nil, add-one, refl, sym, ◌∙◌, ap, subst, inl, inr, arith}
use Rattle.std.proofs.lemmas.Int.{ints}
use Rattle.std.proofs.lemmas.Bool.{cases_lt}
use Rattle.std.proofs.lemmas.Nat.{div-add-mod'}
use Rattle.std.proofs.lemmas.Option.{none-some, same_Some}
use Rattle.std.proofs.lemmas.List.Elements.{All-contains}
use Rattle.atam.specs.declared.site.Side.{Side}
use Rattle.atam.specs.declared.site.Side.TheVariants.{North, East, South, West}
use Rattle.atam.specs.declared.site.Site.{Site}
use Rattle.atam.specs.declared.place.TypeId.{TypeId}
use Rattle.atam.specs.declared.place.Place.{Place}
use Rattle.atam.specs.declared.area.BoxArea.{BoxArea}
use Rattle.atam.specs.Sites.{InBox, neighbor, width_of}
use Rattle.atam.specs.Placements.{HasDistinctSites, tile_at}
use Rattle.atam.specs.TileSystem.{TileSystem}
use Rattle.atam.proofs.Lists.{some_or_none}
use Rattle.atam.proofs.Placements.{none_at, tile_at-Contains}
use Rattle.assembly.specs.Cells.{site_at}
use Rattle.assembly.proofs.Cells.{index_of, site_at-injective}
use Rattle.replay_order.specs.Inner.Replays.{Waiting, IsInSpan, Lowers, given_beside, AreLacks, AreReadySites}
use Rattle.replay_order.specs.Inner.Spans.{place_unless, listed_below, standing, AreSeedsFrom, HaveStood}
use Rattle.replay_order.specs.ReplayAnswers.{HoldsSeeds}
use Rattle.replay_order.proofs.Standing.{standing_from, standing_begun, standing_tile}
use Rattle.replay_order.proofs.ReadySites.{AreAlikeBeside, lacks_after, lacks_alike, ready_after, ready_alike, outside_held, outside_but}
use Rattle.replay_order.proofs.SeedsFrom.{part_empty, part_tile}

-- the number of a site beside another is at most a row's numbers less
beside_near : (area : BoxArea) (i k : ℕ) (d : Side) → 0 < width_of area → site_at area k ≡ neighbor (site_at area i) d → i ≤ k + width_of area
beside_near area i k d wide beside =
    near d (ap (λ m. m.y) beside) (ap (λ m. m.x) beside)
  where
    near : (d : Side) → (site_at area k).y ≡ (neighbor (site_at area i) d).y → (site_at area k).x ≡ (neighbor (site_at area i) d).x → i ≤ k + width_of area
    near North rows columns =
        let w = width_of area in
        let row : k / w ≡ suc (i / w) = omega (arith, ints, rows) in
        let column : k % w ≡ i % w = omega (arith, ints, columns) in
        omega (arith, div-add-mod' i w, div-add-mod' k w, column, ap (λ r. r * w) row)
    near East rows columns =
        let w = width_of area in
        let row : k / w ≡ i / w = omega (arith, ints, rows) in
        let column : k % w ≡ suc (i % w) = omega (arith, ints, columns) in
        omega (arith, div-add-mod' i w, div-add-mod' k w, column, ap (λ r. r * w) row)
    near South rows columns =
        let w = width_of area in
        let row : suc (k / w) ≡ i / w = omega (arith, ints, rows) in
        let column : k % w ≡ i % w = omega (arith, ints, columns) in
        omega (arith, div-add-mod' i w, div-add-mod' k w, column, ap (λ r. r * w) row)
    near West rows columns =
        let w = width_of area in
        let row : k / w ≡ i / w = omega (arith, ints, rows) in
        let column : suc (k % w) ≡ i % w = omega (arith, ints, columns) in
        omega (arith, wide, div-add-mod' i w, div-add-mod' k w, column, ap (λ r. r * w) row)

module _ (sys : TileSystem) (tiles begun : List Place) where
  -- where no number is that of a tile below, the beginning alone stands
  begun_alone : (n : ℕ) (m : Site) → ((k : ℕ) → k < n → site_at sys.area k ≢ m) → tile_at begun m ≡ tile_at (listed_below sys.area tiles begun n) m
  begun_alone n m apart = elim (some_or_none (tile_at begun m)) [
    | inr some ↦ some.1 ∙ sym (standing_begun sys.area tiles begun n m some.0 some.1)
    | inl none ↦ elim (some_or_none (tile_at (listed_below sys.area tiles begun n) m)) [
      | inl empty ↦ none ∙ sym empty
      | inr found ↦ elim (standing_from sys.area tiles begun n m found.0 found.1) [
        | inl never ↦ absurd (none-some found.0 (sym none ∙ never))
        | inr other ↦ absurd (apart other.1.number other.1.before other.1.site)
      ]
    ]
  ]

  -- what stands more than a row below the span isn't beside it
  far_alike : (waiting : Waiting) (n : ℕ) → 0 < width_of sys.area → ((k : ℕ) → k < n → k + width_of sys.area < waiting.first) → AreAlikeBeside sys waiting begun (listed_below sys.area tiles begun n)
  far_alike waiting n wide far = record {
    here = λ i below within. begun_alone n (site_at sys.area i) (λ k lower same.
        let one : k ≡ i = site_at-injective sys.area k i same in
        let never : ⊥ = omega (arith, one, far k lower, within.from) in
        never);
    beside = λ i d below within. begun_alone n (neighbor (site_at sys.area i) d) (λ k lower same.
        let never : ⊥ = omega (arith, beside_near sys.area i k d wide same, far k lower, within.from) in
        never);
  }

  -- all seeds stand, where those from n on began
  module _ (n : ℕ) (distinct : HasDistinctSites sys.seeds) (inside : All (λ p. InBox sys.area p.site) sys.seeds) (held : HoldsSeeds sys tiles) (from : AreSeedsFrom sys.area n sys.seeds begun) where
    held_at : (m : Site) (t : TypeId) → tile_at sys.seeds m ≡ Some t → tile_at tiles m ≡ Some t
    held_at m t seed = All-contains (λ p. tile_at tiles p.site ≡ Some p.tile) sys.seeds (record { site = m; tile = t }) held (tile_at-Contains sys.seeds m t seed)

    -- the beginning has none below
    pub none_below : (k : ℕ) → k < n → tile_at begun (site_at sys.area k) ≡ None
    none_below k below = elim (some_or_none (tile_at begun (site_at sys.area k))) [
      | inl none ↦ none
      | inr some ↦
          let at = from.from (record { site = site_at sys.area k; tile = some.0 }) (tile_at-Contains begun (site_at sys.area k) some.0 some.1) in
          let never : ⊥ = omega (arith, site_at-injective sys.area at.0 k at.2, at.1, below) in
          absurd never
    ]

    stands_too : (m : Site) (t : TypeId) → tile_at (listed_below sys.area tiles begun n) m ≡ Some t → tile_at (standing sys tiles n) m ≡ Some t
    stands_too m t found = elim (standing_from sys.area tiles begun n m t found) [
      | inl began ↦ standing_begun sys.area tiles sys.seeds n m t (part_tile begun sys.seeds m t from.part distinct began)
      | inr other ↦ elim (some_or_none (tile_at sys.seeds m)) [
        | inl none ↦ standing_tile sys.area tiles sys.seeds n m t none other.1 other.2
        | inr seed ↦
            let same : seed.0 ≡ t = same_Some seed.0 t (sym (held_at m seed.0 seed.1) ∙ other.2) in
            standing_begun sys.area tiles sys.seeds n m seed.0 seed.1 ∙ ap (λ u. Some u) same
      ]
    ]

    seed_stood : (m : Site) (t : TypeId) → tile_at sys.seeds m ≡ Some t → tile_at (listed_below sys.area tiles begun n) m ≡ Some t
    seed_stood m t seed =
        let p : Place = record { site = m; tile = t } in
        let contains = tile_at-Contains sys.seeds m t seed in
        let at = index_of sys.area m (All-contains (λ (q : Place). InBox sys.area q.site) sys.seeds p inside contains) in
        elim (some_or_none (tile_at begun m)) [
          | inr some ↦
              let same : some.0 ≡ t = same_Some some.0 t (sym (part_tile begun sys.seeds m some.0 from.part distinct some.1) ∙ seed) in
              standing_begun sys.area tiles begun n m some.0 some.1 ∙ ap (λ u. Some u) same
          | inl none ↦ elim (cases_lt at.0 n) [
            | inl lower ↦ standing_tile sys.area tiles begun n m t none (record { number = at.0; from = omega arith; before = lower; site = at.2 }) (held_at m t seed)
            | inr later ↦ absurd (All-contains (λ (q : Place). q.site ≢ m) begun p (none_at begun m none) (from.whole p at.0 contains at.2 (omega (arith, later))) refl)
          ]
        ]

    stood : (m : Site) (t : TypeId) → tile_at (standing sys tiles n) m ≡ Some t → tile_at (listed_below sys.area tiles begun n) m ≡ Some t
    stood m t found = elim (standing_from sys.area tiles sys.seeds n m t found) [
      | inl seed ↦ seed_stood m t seed
      | inr other ↦ standing_tile sys.area tiles begun n m t (part_empty begun sys.seeds m from.part other.0) other.1 other.2
    ]

    same_stands : (m : Site) → tile_at (listed_below sys.area tiles begun n) m ≡ tile_at (standing sys tiles n) m
    same_stands m = elim (some_or_none (tile_at (listed_below sys.area tiles begun n) m)) [
      | inr some ↦ some.1 ∙ sym (stands_too m some.0 some.1)
      | inl none ↦ elim (some_or_none (tile_at (standing sys tiles n) m)) [
        | inl empty ↦ none ∙ sym empty
        | inr some ↦ absurd (none-some some.0 (sym none ∙ stood m some.0 some.1))
      ]
    ]

    pub seeds_alike : (waiting : Waiting) → AreAlikeBeside sys waiting (listed_below sys.area tiles begun n) (standing sys tiles n)
    seeds_alike waiting = record {
      here = λ i below within. same_stands (site_at sys.area i);
      beside = λ i d below within. same_stands (neighbor (site_at sys.area i) d);
    }

  -- one number more, where the beginning has none
  module _ (n : ℕ) (unbegun : tile_at begun (site_at sys.area n) ≡ None) (found : Option TypeId) (at : found ≡ tile_at tiles (site_at sys.area n)) where
    listed_more : listed_below sys.area tiles begun n ++ place_unless None found (site_at sys.area n) ≡ listed_below sys.area tiles begun (n + 1)
    listed_more =
        let old = listed_below sys.area tiles begun n in
        let m = site_at sys.area n in
        let more : (old ++ place_unless None found m) ≡ listed_below sys.area tiles begun (suc n) = λ k. old ++ place_unless (sym unbegun k) (at k) m in
        more ∙ ap (listed_below sys.area tiles begun) (sym (add-one n))

    below_more : (t : TypeId) (m : Site) → found ≡ Some t → m ≡ site_at sys.area n → listed_below sys.area tiles begun n ++ record { site = m; tile = t } ∷ [] ≡ listed_below sys.area tiles begun (n + 1)
    below_more t m some here =
        let old = listed_below sys.area tiles begun n in
        let one : (old ++ record { site = m; tile = t } ∷ []) ≡ (old ++ record { site = site_at sys.area n; tile = t } ∷ []) = ap (λ (x : Site). old ++ record { site = x; tile = t } ∷ []) here in
        let more : (old ++ record { site = site_at sys.area n; tile = t } ∷ []) ≡ (old ++ place_unless None found (site_at sys.area n)) = ap (λ o. old ++ place_unless None o (site_at sys.area n)) (sym some) in
        one ∙ more ∙ listed_more

    below_same : found ≡ None → listed_below sys.area tiles begun n ≡ listed_below sys.area tiles begun (n + 1)
    below_same none =
        let old = listed_below sys.area tiles begun n in
        let same : (old ++ []) ≡ (old ++ place_unless None found (site_at sys.area n)) = ap (λ o. old ++ place_unless None o (site_at sys.area n)) (sym none) in
        sym (append-nil old) ∙ same ∙ listed_more

    -- without a tile nothing changes
    row_none : (P : List Place → Type 0) → found ≡ None → P (listed_below sys.area tiles begun n) → P (listed_below sys.area tiles begun (n + 1))
    row_none P none before = subst P (below_same none) before

    -- and a tile at a site that doesn't wait stands from then on
    module _ (old new : Waiting) (p : Place) (some : found ≡ Some p.tile) (here : p.site ≡ site_at sys.area n) (earlier : n < old.first)
        (area : BoxArea) (same : area ≡ sys.area) (lowers : Lowers area (given_beside sys tiles p) old new) (lacks : AreLacks sys tiles (listed_below sys.area tiles begun n) old) where
      s : List Place
      s = listed_below sys.area tiles begun n

      placed : tile_at tiles p.site ≡ Some p.tile
      placed = ap (tile_at tiles) here ∙ sym at ∙ some

      empty : tile_at s p.site ≡ None
      unfolding s
      empty =
          subst (λ m. tile_at (listed_below sys.area tiles begun n) m ≡ None) (sym here) (
          sym (begun_alone n (site_at sys.area n) (λ k lower one.
          let is : k ≡ n = site_at-injective sys.area k n one in
          let never : ⊥ = omega (arith, is, lower) in
          never)) ∙ unbegun
          )

      outside : ¬ IsInSpan old n
      outside within = let never : ⊥ = omega (arith, within.from, earlier) in never

      lowers_here : Lowers sys.area (given_beside sys tiles p) old new
      lowers_here = subst (λ a. Lowers a (given_beside sys tiles p) old new) same lowers

      row_lacks : AreLacks sys tiles (listed_below sys.area tiles begun (n + 1)) new
      unfolding s
      row_lacks =
          subst (λ l. AreLacks sys tiles l new) (below_more p.tile p.site some here) (
          lacks_after sys tiles s p old new empty placed (outside_held sys p n old (sym here) outside s) lowers_here lacks
          )

      row_ready : AreReadySites sys tiles (listed_below sys.area tiles begun n) old → AreReadySites sys tiles (listed_below sys.area tiles begun (n + 1)) new
      unfolding s
      row_ready ready =
          subst (λ l. AreReadySites sys tiles l new) (below_more p.tile p.site some here) (
          ready_after sys tiles s p old new empty placed (outside_held sys p n old (sym here) outside s) lowers_here lacks
          (outside_but sys p n old (sym here) outside tiles s ready)
          )

-- what has stood, from the seeds to all tiles below
module _ (sys : TileSystem) (tiles : List Place) (first : ℕ) (distinct : HasDistinctSites sys.seeds) (inside : All (λ p. InBox sys.area p.site) sys.seeds) (held : HoldsSeeds sys tiles) where
  pub stood_far : (waiting : Waiting) (n : ℕ) → 0 < width_of sys.area → ((k : ℕ) → k < n → k + width_of sys.area < waiting.first) → HaveStood sys tiles first sys.seeds 0 waiting → HaveStood sys tiles first sys.seeds n waiting
  stood_far waiting n wide far stood =
      let alike = far_alike sys tiles stood.begun waiting n wide far in
      record {
        begun = stood.begun;
        seeds_from = stood.seeds_from;
        lacks = lacks_alike sys tiles stood.begun (listed_below sys.area tiles stood.begun n) waiting alike stood.lacks;
        ready = ready_alike sys tiles stood.begun (listed_below sys.area tiles stood.begun n) waiting alike stood.ready;
      }

  module _ (n : ℕ) (below : n < first) (found : Option TypeId) (at : found ≡ tile_at tiles (site_at sys.area n)) where
    pub stood_none : (waiting : Waiting) → found ≡ None → HaveStood sys tiles first sys.seeds n waiting → HaveStood sys tiles first sys.seeds (n + 1) waiting
    stood_none waiting none stood =
        let unbegun = none_below sys tiles stood.begun first distinct inside held stood.seeds_from n below in
        record {
          begun = stood.begun;
          seeds_from = stood.seeds_from;
          lacks = row_none sys tiles stood.begun n unbegun found at (λ l. AreLacks sys tiles l waiting) none stood.lacks;
          ready = row_none sys tiles stood.begun n unbegun found at (λ l. AreReadySites sys tiles l waiting) none stood.ready;
        }

    pub stood_tile : (old new : Waiting) (p : Place) → found ≡ Some p.tile → p.site ≡ site_at sys.area n → n < old.first → (area : BoxArea) → area ≡ sys.area → Lowers area (given_beside sys tiles p) old new →
        HaveStood sys tiles first sys.seeds n old → HaveStood sys tiles first sys.seeds (n + 1) new
    stood_tile old new p some here earlier area same lowers stood =
        let unbegun = none_below sys tiles stood.begun first distinct inside held stood.seeds_from n below in
        record {
          begun = stood.begun;
          seeds_from = stood.seeds_from;
          lacks = row_lacks sys tiles stood.begun n unbegun found at old new p some here earlier area same lowers stood.lacks;
          ready = row_ready sys tiles stood.begun n unbegun found at old new p some here earlier area same lowers stood.lacks stood.ready;
        }

  pub stood_lacks : (waiting : Waiting) → HaveStood sys tiles first sys.seeds first waiting → AreLacks sys tiles (standing sys tiles first) waiting
  stood_lacks waiting stood =
      lacks_alike sys tiles (listed_below sys.area tiles stood.begun first) (standing sys tiles first) waiting (seeds_alike sys tiles stood.begun first distinct inside held stood.seeds_from waiting) stood.lacks

  pub stood_ready : (waiting : Waiting) → HaveStood sys tiles first sys.seeds first waiting → AreReadySites sys tiles (standing sys tiles first) waiting
  stood_ready waiting stood =
      ready_alike sys tiles (listed_below sys.area tiles stood.begun first) (standing sys tiles first) waiting (seeds_alike sys tiles stood.begun first distinct inside held stood.seeds_from waiting) stood.ready
