-- Parts of the canonical order: one that goes on by what is ready, two behind each other, and a whole one.
use Rattle.std.proofs.Common.{◌≡◌, ◌≢◌, ◌⊎◌, ◌≤◌, ◌+◌, ◌++◌, ℕ, zero, suc, List, [], ◌∷◌, length, length-append, take, get_or, Some, None, slice_get, Contains, append_assoc, append-nil, refl, sym, ◌∙◌, ap, subst, inl, inr, arith}
use Rattle.std.proofs.Math.Seq.{take-length}
use Rattle.std.proofs.lemmas.Bool.{cases_lt}
use Rattle.std.proofs.lemmas.Option.{none-some, same_Some, slice_get_within, get_or_from_slice_get}
use Rattle.std.proofs.lemmas.List.{take-append-le, get_or_append_left, get_or-append-add}
use Rattle.std.proofs.lemmas.List.Elements.{All-append, All-contains, Contains-get_or, Contains-append_cases, Contains-append_left, Contains-append_right}
use Rattle.std.proofs.lemmas.List.Kept.{AllPairs-cons}
use Rattle.atam.specs.declared.site.Site.{Site}
use Rattle.atam.specs.declared.site.Side.{Side}
use Rattle.atam.specs.declared.place.TypeId.{TypeId}
use Rattle.atam.specs.declared.place.Place.{Place}
use Rattle.atam.specs.declared.area.BoxArea.{BoxArea}
use Rattle.atam.specs.Sites.{neighbor}
use Rattle.atam.specs.Placements.{HasDistinctSites, IsPartOf, SamePlacements, tile_at}
use Rattle.atam.specs.TileSystem.{TileSystem, IsValid}
use Rattle.atam.specs.Assembly.{Fits}
use Rattle.atam.specs.Canonical.{IsReady, BeginsCanonical, IsCanonical}
use Rattle.atam.proofs.Lists.{some_or_none, take_step, take_end, Contains-slice_get, Contains-here, Contains-there, Contains-push}
use Rattle.atam.proofs.Placements.{Extends, none_at, tile_at-append, tile_at-append_past, tile_at-Contains, Contains-tile_at, Extends-IsPartOf, same_place, HasDistinctSites-push}
use Rattle.atam.proofs.Tiles.{SameTiles, SamePlacements-from_tiles}
use Rattle.atam.proofs.Opening.{pull-beside, Fits-part}
use Rattle.atam.proofs.Count.{count_in_part}
use Rattle.atam.proofs.Canon.{canonical_IsLegal, producible_exactly}
use Rattle.assembly.specs.Cells.{cell_count}
use Rattle.assembly.proofs.Cells.{site_at-injective}
use Rattle.replay_order.specs.ReplayAnswers.{HoldsSeeds, IsWholeOrder}
use Rattle.assembly.specs.Grids.{TileGrid}
use Rattle.replay_order.specs.Inner.Replays.{Waiting}
use Rattle.replay_order.specs.Inner.Spans.{standing, IsSiteBetween, GoesOn, IsPartOfOrder, IsSpanListed, IsSpanFull, FollowsIfFull, IsListedBehind, CanList}
use Rattle.replay_order.proofs.Begun.{seeds_part}
use Rattle.replay_order.proofs.Standing.{standing_from, standing_begun, standing_tile, standing_distinct, standing_part}

-- a place of two lists one behind the other is of the first, or it is of the second
append_cases : {A : Type 0} (a b : List A) (i : ℕ) (p : A) → slice_get (a ++ b) i ≡ Some p →
    ((slice_get a i ≡ Some p) × (take i (a ++ b) ≡ take i a)) ⊎
    ((j : ℕ) × (i ≡ length a + j) × (slice_get b j ≡ Some p) × (take i (a ++ b) ≡ a ++ take j b))
append_cases [] b i p there = inr (i, omega arith, there, refl)
append_cases (x ∷ a) b zero p there = inl (there, refl)
append_cases (x ∷ a) b (suc i) p there = elim (append_cases a b i p there) [
  | inl one ↦ inl (one.0, ap (λ l. x ∷ l) one.1)
  | inr other ↦ inr (other.0, omega (arith, other.1), other.2, ap (λ l. x ∷ l) other.3)
]

-- distinct sites of two lists
distinct_append : (a b : List Place) → HasDistinctSites a → HasDistinctSites b → ((p q : Place) → Contains a p → Contains b q → p.site ≢ q.site) → HasDistinctSites (a ++ b)
distinct_append [] b one other apart = other
distinct_append (x ∷ a) b one other apart =
    AllPairs-cons (λ (p q : Place). p.site ≢ q.site) x (a ++ b)
    (All-append (λ (q : Place). x.site ≢ q.site) a b (λ k d within. one 0 (suc k) d (omega arith) (omega (arith, within)))
    (λ k d within. apart x (get_or b k d) (Contains-here x a) (Contains-get_or b k d within)))
    (distinct_append a b (λ i j d before within. one (suc i) (suc j) d (omega (arith, before)) (omega (arith, within))) other
    (λ p q in_a in_b. apart p q (Contains-there x p a in_a) in_b))

-- the other way round: of the second list alone
distinct_after : (a b : List Place) → HasDistinctSites (a ++ b) → HasDistinctSites b
distinct_after [] b distinct = distinct
distinct_after (x ∷ a) b distinct = distinct_after a b (λ i j d before within. distinct (suc i) (suc j) d (omega (arith, before)) (omega (arith, within)))

-- and no site of the second is one of the first
distinct_apart : (a b : List Place) (p q : Place) → HasDistinctSites (a ++ b) → Contains a p → Contains b q → p.site ≢ q.site
distinct_apart a b p q distinct in_a in_b same =
    let at = Contains-slice_get a p in_a in
    let later = Contains-slice_get b q in_b in
    let here : get_or (a ++ b) at.0 p ≡ p = get_or_append_left a b p at.0 at.1 ∙ get_or_from_slice_get a at.0 p p at.2 in
    let there : get_or (a ++ b) (length a + later.0) p ≡ q = get_or-append-add a b later.0 p ∙ get_or_from_slice_get b later.0 q p later.2 in
    distinct at.0 (length a + later.0) p (omega (arith, at.1)) (omega (arith, later.1, length-append a b)) (ap (λ r. r.site) here ∙ same ∙ sym (ap (λ r. r.site) there))

-- one tile is a part
part_one : (tiles : List Place) (p : Place) → Contains tiles p → IsPartOf (p ∷ []) tiles
part_one tiles p placed q contains = elim (Contains-push [] p q contains) [
  | inl never ↦ let in_none = never.1 in let no_place : ⊥ = omega (arith, in_none) in absurd no_place
  | inr same ↦ subst (Contains tiles) same placed
]

-- what both lists are a part of
part_both : (a b tiles : List Place) → IsPartOf a tiles → IsPartOf b tiles → IsPartOf (a ++ b) tiles
part_both a b tiles one other p contains = elim (Contains-append_cases a b p contains) [ inl in_a ↦ one p in_a | inr in_b ↦ other p in_b ]

-- the same tiles, and then the same list, are the same tiles
same_append : (a b more : List Place) → SameTiles a b → SameTiles (a ++ more) (b ++ more)
same_append a b more same m = elim (some_or_none (tile_at a m)) [
  | inl empty ↦ tile_at-append_past a more m empty ∙ sym (tile_at-append_past b more m (sym (same m) ∙ empty))
  | inr some ↦ tile_at-append a more m some.0 some.1 ∙ sym (tile_at-append b more m some.0 (sym (same m) ∙ some.1))
]

-- what stands in the one stands in the other, and the other way round
same_both : (a b : List Place) → Extends a b → Extends b a → SameTiles a b
same_both a b one other m = elim (some_or_none (tile_at a m)) [
  | inr some ↦ some.1 ∙ sym (one m some.0 some.1)
  | inl empty ↦ elim (some_or_none (tile_at b m)) [
    | inl none ↦ empty ∙ sym none
    | inr some ↦ absurd (none-some some.0 (sym empty ∙ other m some.0 some.1))
  ]
]

-- and a part, with the same behind it, is a part
contains_append : (a b more : List Place) → IsPartOf a b → IsPartOf (a ++ more) (b ++ more)
contains_append a b more part p contains = elim (Contains-append_cases a more p contains) [
  | inl in_a ↦ Contains-append_left b more p (part p in_a)
  | inr in_more ↦ Contains-append_right b more p in_more
]

-- what is ready behind one list is ready behind one with the same placements
ready_same : (sys : TileSystem) (tiles a b : List Place) (p : Place) → SameTiles a b → IsPartOf b a → IsReady sys tiles a p → IsReady sys tiles b p
ready_same sys tiles a b p same part ready =
    let Held : ℕ → Type 0 = λ n. sys.tau ≤ n in
    record {
      placed = ready.placed;
      unlisted = λ listed. ready.unlisted (part p listed);
      held = subst Held (pull-beside sys a b p.site p.tile (λ (d : Side). same (neighbor p.site d))) ready.held;
    }

-- a site is of one span alone
spans_apart : (area : BoxArea) (first middle end : ℕ) (m : Site) → IsSiteBetween area first middle m → IsSiteBetween area middle end m → ⊥
spans_apart area first middle end m one other =
    let same : one.number ≡ other.number = site_at-injective area one.number other.number (one.site ∙ sym other.site) in
    let never : ⊥ = omega (arith, same, one.before, other.from) in
    never

pub wider : (area : BoxArea) (first end low high : ℕ) (m : Site) → low ≤ first → end ≤ high → IsSiteBetween area first end m → IsSiteBetween area low high m
wider area first end low high m below above between = record {
  number = between.number;
  from = omega (arith, below, between.from);
  before = omega (arith, above, between.before);
  site = between.site;
}

module _ (sys : TileSystem) (tiles : List Place) (distinct : HasDistinctSites tiles) where
  -- places that go on are tiles, each once
  module _ (before part : List Place) (before_part : IsPartOf before tiles) (before_distinct : HasDistinctSites before) (goes_on : GoesOn sys tiles before part) where
    on_placed : IsPartOf part tiles
    on_placed p contains = let at = Contains-slice_get part p contains in (goes_on.ready at.0 p at.2).placed

    on_distinct_to : (n : ℕ) → HasDistinctSites (before ++ take n part) × IsPartOf (before ++ take n part) tiles
    on_distinct_to zero = (subst (λ (l : List Place). HasDistinctSites l) (sym (append-nil before)) before_distinct, subst (λ (l : List Place). IsPartOf l tiles) (sym (append-nil before)) before_part)
    on_distinct_to (suc n) =
        let old = on_distinct_to n in
        let Both : List Place → Type 0 = λ l. HasDistinctSites (before ++ l) × IsPartOf (before ++ l) tiles in
        elim (some_or_none (slice_get part n)) [
          | inl none ↦ let ends = take_end part n none in subst Both (ends.1 ∙ sym ends.0) old
          | inr some ↦
              let p = some.0 in
              let ready = goes_on.ready n p some.1 in
              let listed = before ++ take n part in
              let empty : tile_at listed p.site ≡ None = elim (some_or_none (tile_at listed p.site)) [
                | inl none ↦ none
                | inr other ↦
                    let q : Place = record { site = p.site; tile = other.0 } in
                    let in_listed : Contains listed q = tile_at-Contains listed p.site other.0 other.1 in
                    absurd (ready.unlisted (subst (Contains listed) (same_place tiles q p distinct (old.1 q in_listed) ready.placed refl) in_listed))
              ]
              in
              let pushed : (before ++ take (suc n) part) ≡ (listed ++ p ∷ []) = ap (λ l. before ++ l) (take_step part n p some.1) ∙ sym (append_assoc before (take n part) (p ∷ [])) in (
                subst (λ (l : List Place). HasDistinctSites l) (sym pushed) (HasDistinctSites-push listed p old.0 empty),
                subst (λ (l : List Place). IsPartOf l tiles) (sym pushed) (part_both listed (p ∷ []) tiles old.1 (part_one tiles p ready.placed)),
              )
        ]

    on_distinct : HasDistinctSites (before ++ part)
    on_distinct = subst (λ (l : List Place). HasDistinctSites (before ++ l)) (take-length part) (on_distinct_to (length part)).0

  module _ (seeds_distinct : HasDistinctSites sys.seeds) (seeded : IsPartOf sys.seeds tiles) where
    -- what goes on within the span follows
    pub follows_on : (first end : ℕ) (part : List Place) → GoesOn sys tiles (standing sys tiles first) part → ((p : Place) → Contains part p → IsSiteBetween sys.area first end p.site) → FollowsIfFull sys tiles first end part
    follows_on first end part goes_on between =
        let before = standing sys tiles first in
        let before_part = standing_part sys.area tiles sys.seeds seeded first in
        let before_distinct = standing_distinct sys.area tiles sys.seeds seeds_distinct first in
        record {
          placed = on_placed before part before_part before_distinct goes_on;
          between = between;
          distinct = on_distinct before part before_part before_distinct goes_on;
          goes_on = λ _. goes_on;
        }

    -- so a part of the order does
    pub follows_alone : (first end : ℕ) (part : List Place) → IsPartOfOrder sys tiles first end part → FollowsIfFull sys tiles first end part
    follows_alone first end part is_part = follows_on first end part is_part.goes_on is_part.between

    -- two parts one behind the other
    module _ (first middle end : ℕ) (one other : List Place) (below : first ≤ middle) (above : middle ≤ end)
        (follows_one : FollowsIfFull sys tiles first middle one) (follows_other : FollowsIfFull sys tiles middle end other) where
      abbrev low : List Place
      low = standing sys tiles first

      abbrev high : List Place
      high = standing sys tiles middle

      low_distinct : HasDistinctSites low
      low_distinct = standing_distinct sys.area tiles sys.seeds seeds_distinct first

      high_distinct : HasDistinctSites high
      high_distinct = standing_distinct sys.area tiles sys.seeds seeds_distinct middle

      -- what stands below the one stands below the other
      low_in_high : Extends low high
      low_in_high m t found = elim (standing_from sys.area tiles sys.seeds first m t found) [
        | inl begun ↦ standing_begun sys.area tiles sys.seeds middle m t begun
        | inr tile ↦ standing_tile sys.area tiles sys.seeds middle m t tile.0 (wider sys.area 0 first 0 middle m (omega arith) below tile.1) tile.2
      ]

      of_one : (m : Site) (t : TypeId) → tile_at one m ≡ Some t → IsSiteBetween sys.area first middle m
      of_one m t found = follows_one.between (record { site = m; tile = t }) (tile_at-Contains one m t found)

      of_other : (m : Site) (t : TypeId) → tile_at other m ≡ Some t → IsSiteBetween sys.area middle end m
      of_other m t found = follows_other.between (record { site = m; tile = t }) (tile_at-Contains other m t found)

      other_apart : (p q : Place) → Contains (low ++ one) p → Contains other q → p.site ≢ q.site
      other_apart p q in_first in_other same = elim (Contains-append_cases low one p in_first) [
        | inl in_low ↦
            let in_high : Contains high p = tile_at-Contains high p.site p.tile (low_in_high p.site p.tile (Contains-tile_at low p low_distinct in_low)) in
            distinct_apart high other p q follows_other.distinct in_high in_other same
        | inr in_one ↦
            let Between : Site → Type 0 = λ m. IsSiteBetween sys.area first middle m in
            spans_apart sys.area first middle end q.site (subst Between same (follows_one.between p in_one)) (follows_other.between q in_other)
      ]

      both_distinct : HasDistinctSites (low ++ (one ++ other))
      both_distinct =
          subst (λ (l : List Place). HasDistinctSites l) (append_assoc low one other)
          (distinct_append (low ++ one) other follows_one.distinct (distinct_after high other follows_other.distinct) other_apart)

      both_between : (p : Place) → Contains (one ++ other) p → IsSiteBetween sys.area first end p.site
      both_between p contains = elim (Contains-append_cases one other p contains) [
        | inl in_one ↦ wider sys.area first middle first end p.site (omega arith) above (follows_one.between p in_one)
        | inr in_other ↦ wider sys.area middle end first end p.site below (omega arith) (follows_other.between p in_other)
      ]

      first_part : IsPartOf (low ++ one) tiles
      first_part = part_both low one tiles (standing_part sys.area tiles sys.seeds seeded first) follows_one.placed

      -- where all is full, each of both is
      module _ (full : IsSpanFull sys tiles first end (low ++ (one ++ other))) where
        one_full : IsSpanFull sys tiles first middle (low ++ one)
        one_full m between some empty =
            let none : tile_at other m ≡ None = elim (some_or_none (tile_at other m)) [
              | inl no_tile ↦ no_tile
              | inr tile ↦ absurd (spans_apart sys.area first middle end m between (of_other m tile.0 tile.1))
            ]
            in
            full m (wider sys.area first middle first end m (omega arith) above between) some
            (ap (λ (l : List Place). tile_at l m) (sym (append_assoc low one other)) ∙ tile_at-append_past (low ++ one) other m empty ∙ none)

        other_full : IsSpanFull sys tiles middle end (high ++ other)
        other_full m between some empty = elim (some_or_none (tile_at (low ++ (one ++ other)) m)) [
          | inl none ↦ full m (wider sys.area middle end first end m below (omega arith) between) some none
          | inr tile ↦
              let q : Place = record { site = m; tile = tile.0 } in
              elim (Contains-append_cases low (one ++ other) q (tile_at-Contains (low ++ (one ++ other)) m tile.0 tile.1)) [
                | inl in_low ↦ none-some tile.0 (sym empty ∙ tile_at-append high other m tile.0 (low_in_high m tile.0 (Contains-tile_at low q low_distinct in_low)))
                | inr in_both ↦ elim (Contains-append_cases one other q in_both) [
                  | inl in_one ↦ spans_apart sys.area first middle end m (follows_one.between q in_one) between
                  | inr in_other ↦ none-some tile.0 (sym empty ∙ Contains-tile_at (high ++ other) q follows_other.distinct (Contains-append_right high other q in_other))
                ]
              ]
        ]

        high_in_first : Extends high (low ++ one)
        high_in_first m t found = elim (standing_from sys.area tiles sys.seeds middle m t found) [
          | inl begun ↦ tile_at-append low one m t (standing_begun sys.area tiles sys.seeds first m t begun)
          | inr tile ↦ elim (cases_lt tile.1.number first) [
            | inl lower ↦
                let under : IsSiteBetween sys.area 0 first m = record { number = tile.1.number; from = tile.1.from; before = lower; site = tile.1.site } in
                tile_at-append low one m t (standing_tile sys.area tiles sys.seeds first m t tile.0 under tile.2)
            | inr later ↦
                let within : IsSiteBetween sys.area first middle m = record { number = tile.1.number; from = later; before = tile.1.before; site = tile.1.site } in
                elim (some_or_none (tile_at (low ++ one) m)) [
                  | inl none ↦ absurd (one_full m within (λ empty. none-some t (sym empty ∙ tile.2)) none)
                  | inr some ↦
                      let same : some.0 ≡ t = same_Some some.0 t (sym (Extends-IsPartOf (low ++ one) tiles distinct first_part m some.0 some.1) ∙ tile.2) in
                      some.1 ∙ ap (λ u. Some u) same
                ]
          ]
        ]

        first_in_high : Extends (low ++ one) high
        first_in_high m t found = elim (some_or_none (tile_at low m)) [
          | inr some ↦
              let same : some.0 ≡ t = same_Some some.0 t (sym (tile_at-append low one m some.0 some.1) ∙ found) in
              low_in_high m t (some.1 ∙ ap (λ u. Some u) same)
          | inl empty ↦
              let in_one : tile_at one m ≡ Some t = sym (tile_at-append_past low one m empty) ∙ found in
              let no_seed : tile_at sys.seeds m ≡ None = elim (some_or_none (tile_at sys.seeds m)) [
                | inl none ↦ none
                | inr seed ↦ absurd (none-some seed.0 (sym empty ∙ standing_begun sys.area tiles sys.seeds first m seed.0 seed.1))
              ]
              in
              standing_tile sys.area tiles sys.seeds middle m t no_seed (wider sys.area first middle 0 middle m (omega arith) (omega arith) (of_one m t in_one))
              (Extends-IsPartOf one tiles distinct follows_one.placed m t in_one)
        ]

        -- so the other one goes on where the one ends
        stands_alike : SameTiles high (low ++ one)
        stands_alike = same_both high (low ++ one) high_in_first first_in_high

        placed_alike : SamePlacements high (low ++ one)
        placed_alike = SamePlacements-from_tiles high (low ++ one) high_distinct follows_one.distinct stands_alike

        behind : (i j : ℕ) → take i (one ++ other) ≡ one ++ take j other → (low ++ take i (one ++ other)) ≡ ((low ++ one) ++ take j other)
        behind i j taken = ap (λ (l : List Place). low ++ l) taken ∙ sym (append_assoc low one (take j other))

        to_first : (more : List Place) (p : Place) → IsReady sys tiles (high ++ more) p → IsReady sys tiles ((low ++ one) ++ more) p
        to_first more p ready =
            ready_same sys tiles (high ++ more) ((low ++ one) ++ more) p (same_append high (low ++ one) more stands_alike) (contains_append (low ++ one) high more placed_alike.whole) ready

        to_high : (more : List Place) (p : Place) → IsReady sys tiles ((low ++ one) ++ more) p → IsReady sys tiles (high ++ more) p
        to_high more p ready =
            ready_same sys tiles ((low ++ one) ++ more) (high ++ more) p (λ m. sym (same_append high (low ++ one) more stands_alike m)) (contains_append high (low ++ one) more placed_alike.part) ready

        both_go_on : GoesOn sys tiles low (one ++ other)
        both_go_on =
            let first_goes = follows_one.goes_on one_full in
            let then_goes = follows_other.goes_on other_full in
            record {
              ready = λ i p there. elim (append_cases one other i p there) [
                | inl early ↦ subst (λ (l : List Place). IsReady sys tiles (low ++ l) p) (sym early.1) (first_goes.ready i p early.0)
                | inr late ↦ subst (λ (l : List Place). IsReady sys tiles l p) (sym (behind i late.0 late.3)) (to_first (take late.0 other) p (then_goes.ready late.0 p late.2))
              ];
              least = λ i p q there ready_q. elim (append_cases one other i p there) [
                | inl early ↦ first_goes.least i p q early.0 (subst (λ (l : List Place). IsReady sys tiles (low ++ l) q) early.1 ready_q)
                | inr late ↦ then_goes.least late.0 p q late.2 (to_high (take late.0 other) q (subst (λ (l : List Place). IsReady sys tiles l q) (behind i late.0 late.3) ready_q))
              ];
            }

      pub follows_both : FollowsIfFull sys tiles first end (one ++ other)
      follows_both = record {
        placed = part_both one other tiles follows_one.placed follows_other.placed;
        between = both_between;
        distinct = both_distinct;
        goes_on = both_go_on;
      }

    -- as many places as there are tiles are the whole order
    module _ (fits : Fits sys tiles) (part : List Place) (follows : FollowsIfFull sys tiles 0 (cell_count sys.area) part) (all : length tiles ≤ length (sys.seeds ++ part)) where
      abbrev order : List Place
      order = sys.seeds ++ part

      order_part : IsPartOf order tiles
      order_part = part_both sys.seeds part tiles seeded follows.placed

      all_listed : IsPartOf tiles order
      all_listed q placed = elim (some_or_none (tile_at order q.site)) [
        | inl empty ↦
            let few = count_in_part (order ++ q ∷ []) tiles (HasDistinctSites-push order q follows.distinct empty) distinct (part_both order (q ∷ []) tiles order_part (part_one tiles q placed)) in
            let never : ⊥ = omega (arith, few, all, length-append order (q ∷ [])) in
            absurd never
        | inr some ↦
            let r : Place = record { site = q.site; tile = some.0 } in
            let listed : Contains order r = tile_at-Contains order q.site some.0 some.1 in
            subst (Contains order) (same_place tiles r q distinct (order_part r listed) placed refl) listed
      ]

      all_full : IsSpanFull sys tiles 0 (cell_count sys.area) order
      all_full m between some empty = elim (some_or_none (tile_at tiles m)) [
        | inl none ↦ some none
        | inr tile ↦
            let q : Place = record { site = m; tile = tile.0 } in
            All-contains (λ p. p.site ≢ m) order q (none_at order m empty) (all_listed q (tile_at-Contains tiles m tile.0 tile.1)) refl
      ]

      begins : BeginsCanonical sys tiles order
      begins =
          let goes = follows.goes_on all_full in
          let no_seed : (i : ℕ) (p : Place) → length sys.seeds ≤ i → slice_get sys.seeds i ≡ Some p → ⊥ = λ i p later there.
          let within = slice_get_within sys.seeds i p there in
          let never : ⊥ = omega (arith, later, within) in
          never
          in
          record {
            seeded = seeded;
            seeds = take-append-le (length sys.seeds) sys.seeds part (omega arith) ∙ take-length sys.seeds;
            ready = λ i p later there. elim (append_cases sys.seeds part i p there) [
              | inl seed ↦ absurd (no_seed i p later seed.0)
              | inr late ↦ subst (λ (l : List Place). IsReady sys tiles l p) (sym late.3) (goes.ready late.0 p late.2)
            ];
            least = λ i p q later there ready_q. elim (append_cases sys.seeds part i p there) [
              | inl seed ↦ absurd (no_seed i p later seed.0)
              | inr late ↦ goes.least late.0 p q late.2 (subst (λ (l : List Place). IsReady sys tiles l q) late.3 ready_q)
            ];
          }

      order_canonical : IsCanonical sys tiles order
      order_canonical = record { begins = begins; whole = λ q ready. ready.unlisted (all_listed q ready.placed) }

      pub follows_whole : IsWholeOrder sys tiles (sys.seeds ++ part)
      follows_whole = record {
        canonical = order_canonical;
        legal = canonical_IsLegal sys tiles order distinct fits.types seeds_distinct order_canonical;
        same = record { part = order_part; whole = all_listed };
        fits = Fits-part sys order tiles order_part fits;
        producible = (producible_exactly sys tiles order distinct fits.types seeds_distinct order_canonical).1 all_listed;
      }

module _ (sys : TileSystem) (grid : TileGrid) (can : CanList sys grid) where
  -- what was listed of two spans, one behind the other, is that of both
  pub listed_both : (first middle end : ℕ) → first ≤ middle → middle ≤ end → (old one other new : List Place) → IsListedBehind sys grid.tiles first middle old one →
      IsListedBehind sys grid.tiles middle end [] other → new ≡ one ++ other → IsListedBehind sys grid.tiles first end old new
  listed_both first middle end from within old one other new before behind both = record {
    part = before.part ++ behind.part;
    listed = both ∙ ap (λ (l : List Place). l ++ other) before.listed ∙ ap (λ (l : List Place). (old ++ before.part) ++ l) behind.listed ∙ append_assoc old before.part behind.part;
    follows =
        follows_both sys grid.tiles can.distinct can.valid.distinct_seeds (seeds_part sys grid.tiles can.seeded) first middle end before.part behind.part from within before.follows behind.follows;
  }

  -- the same behind each other in one list
  pub listed_on : (first middle end : ℕ) → first ≤ middle → middle ≤ end → (old one new : List Place) → IsListedBehind sys grid.tiles first middle old one → IsListedBehind sys grid.tiles middle end one new →
      IsListedBehind sys grid.tiles first end old new
  listed_on first middle end from within old one new before behind =
      listed_both first middle end from within old one behind.part new before (record { part = behind.part; listed = refl; follows = behind.follows }) behind.listed

  -- what was listed of a span is that of a wider one
  pub listed_wider : (first middle end : ℕ) → middle ≤ end → (old new : List Place) → IsListedBehind sys grid.tiles first middle old new → IsListedBehind sys grid.tiles first end old new
  listed_wider first middle end within old new listed =
      let follows = listed.follows in
      record {
        part = listed.part;
        listed = listed.listed;
        follows = record {
          placed = follows.placed;
          between = λ p contains. wider sys.area first middle first end p.site (omega arith) within (follows.between p contains);
          distinct = follows.distinct;
          goes_on = λ full. follows.goes_on (λ m between some. full m (wider sys.area first middle first end m (omega arith) within between) some);
        };
      }

  -- what was listed of a span follows
  pub listed_alone : (first end : ℕ) (old new : List Place) (waiting : Waiting) → IsSpanListed sys grid.tiles first end old new waiting → IsListedBehind sys grid.tiles first end old new
  listed_alone first end old new waiting listed = record {
    part = listed.part;
    listed = listed.listed;
    follows = follows_alone sys grid.tiles can.distinct can.valid.distinct_seeds (seeds_part sys grid.tiles can.seeded) first end listed.part listed.is_part;
  }

-- as many places as there are tiles, behind the seeds, are the whole order
pub listed_whole : (sys : TileSystem) (grid : TileGrid) (sites : ℕ) (seeds listed : List Place) → sites ≡ cell_count sys.area → seeds ≡ sys.seeds →
    IsValid sys → Fits sys grid.tiles → HasDistinctSites grid.tiles → HoldsSeeds sys grid.tiles → IsListedBehind sys grid.tiles 0 sites seeds listed →
    length grid.tiles ≤ length listed → IsWholeOrder sys grid.tiles listed
listed_whole sys grid sites seeds listed all_sites all_seeds valid fits distinct seeded behind all =
    let At : ℕ → Type 0 = λ count. IsListedBehind sys grid.tiles 0 count seeds listed in
    let found : IsListedBehind sys grid.tiles 0 (cell_count sys.area) seeds listed = subst At all_sites behind in
    let is : listed ≡ sys.seeds ++ found.part = found.listed ∙ ap (λ (l : List Place). l ++ found.part) all_seeds in
    subst (λ (l : List Place). IsWholeOrder sys grid.tiles l) (sym is) (
    follows_whole sys grid.tiles distinct valid.distinct_seeds (seeds_part sys grid.tiles seeded) fits found.part found.follows
    (subst (λ (l : List Place). length grid.tiles ≤ length l) is all)
    )
