-- The scouts of the views, and what a scout sees.
use Rattle.std.proofs.Common.{◌≡◌, ◌≢◌, ◌⊎◌, ◌==◌, ℕ, zero, suc, Bool, true, false, not, List, [], ◌∷◌, ◌++◌, set, filter, Option, Some, None, Contains, eq-eqb, ne_eqb, refl, sym, ◌∙◌, ap, subst, inl, inr, arith}
use Rattle.std.proofs.lemmas.Option.{same_Some, none-some}
use Rattle.std.proofs.lemmas.Bool.{false≢true}
use Rattle.std.proofs.lemmas.List.{map-set}
use Rattle.std.proofs.lemmas.List.Kept.{AllPairs-filter}
use Rattle.std.proofs.lemmas.List.Elements.{Contains-push, Contains-push_cases, Contains-append_left, Contains-append_cases, Contains-append_right}
use Rattle.std.specs.Option.{option_map_or}
use mathlib.Core.Option.{some, some-injective, some-ne-none}
use mathlib.Core.List.{map-append}
use mathlib.Core.Logic.{dite}
use native.Mathlib.Decide.{ℕ_discrete}
use lib.ListN.{get_elem?}
use Rattle.atam.specs.declared.site.Site.{Site}
use Rattle.atam.specs.declared.place.TypeId.{TypeId}
use Rattle.atam.specs.declared.place.Place.{Place}
use Rattle.atam.specs.Placements.{HasDistinctSites, IsPartOf, SamePlacements, tile_at}
use Rattle.atam.proofs.Lists.{some_or_none}
use Rattle.atam.proofs.Placements.{tile_at-Contains, Contains-tile_at, HasDistinctSites-push, same_place}
use Rattle.grow_core.specs.declared.placed_tile.PlacedTile.{PlacedTile}
use Rattle.grow_core.specs.Core.{ScoutState, scout_at}
use Rattle.grow_core.specs.Steps.{place, IsScoutOf}
use Rattle.grow_core.proofs.Lists.{filter-from, filter-passed, filter-has, all_pairs_append}
use Rattle.grow_core.proofs.Assembled.{same_seen}
use Rattle.site_table.specs.declared.view.SeatView.{SeatView}
use Rattle.site_table.specs.Views.{scout_of, IsLive, live_scout, scouts_of, has_place, seen_together, spent_view}

pub live-is : (v : SeatView) → IsLive v → live_scout v ≡ Some (scout_of v)
live-is v live = rw (ne_eqb v.owned 0 (λ e. omega (arith, e, live))) refl

pub scouts-at : (views : List SeatView) (j : ℕ) (v : SeatView) → get_elem? views j ≡ some v → IsLive v → scout_at (scouts_of views) j ≡ Some (scout_of v)
scouts-at [] j v here live = absurd (some-ne-none v (sym here))
scouts-at (x ∷ views) zero v here live = ap live_scout (some-injective x v here) ∙ live-is v live
scouts-at (x ∷ views) (suc j) v here live = scouts-at views j v here live

-- the scouts after one view has changed
pub scouts-set : (views : List SeatView) (j : ℕ) (w : SeatView) → IsLive w → scouts_of (set views j w) ≡ set (scouts_of views) j (Some (scout_of w))
scouts-set views j w live = map-set live_scout views j w ∙ ap (λ o. set (scouts_of views) j o) (live-is w live)

pub scouts-last : (views : List SeatView) (w : SeatView) → IsLive w → scouts_of (views ++ w ∷ []) ≡ scouts_of views ++ Some (scout_of w) ∷ []
scouts-last views w live = map-append live_scout views (w ∷ []) ∙ ap (λ o. scouts_of views ++ o ∷ []) (live-is w live)

pub scouts-spent : (views : List SeatView) (j k : ℕ) (w : SeatView) → IsLive w → scouts_of (set (set views j w) k spent_view) ≡ set (set (scouts_of views) j (Some (scout_of w))) k None
scouts-spent views j k w live = map-set live_scout (set views j w) k spent_view ∙ ap (λ l. set l k None) (scouts-set views j w live)

-- some list is what was seen with a tile that stands where the whole has it
pub record Noted (seen : List Place) (p : Place) : Type 0 where
  pub list : List Place
  pub same : SamePlacements (seen ++ p ∷ []) list
  pub distinct : HasDistinctSites list

pub noted : (whole seen : List Place) (p : Place) → HasDistinctSites whole → HasDistinctSites seen → IsPartOf seen whole → Contains whole p → Noted seen p
noted whole seen p distinct_whole distinct part there = elim (some_or_none (tile_at seen p.site)) [
  | inl none ↦ record { list = seen ++ p ∷ []; same = same_seen (seen ++ p ∷ []); distinct = HasDistinctSites-push seen p distinct none }
  | inr found ↦
      let listed : Contains seen (place p.site found.0) = tile_at-Contains seen p.site found.0 found.1 in
      let is : place p.site found.0 ≡ p = same_place whole (place p.site found.0) p distinct_whole (part (place p.site found.0) listed) there refl in
      let in_seen : Contains seen p = subst (Contains seen) is listed in
      record {
        list = seen;
        same = record {
          part = λ q c. elim (Contains-push_cases seen p q c) [ inl old ↦ old | inr new ↦ subst (Contains seen) new in_seen ];
          whole = λ q c. Contains-append_left seen (p ∷ []) q c;
        };
        distinct = distinct;
      }
]

-- the place was seen, or it was not
has_place-cases : (seen : List Place) (p : Place) → ((has_place seen p ≡ true) × (tile_at seen p.site ≡ Some p.tile)) ⊎ ((has_place seen p ≡ false) × (tile_at seen p.site ≢ Some p.tile))
has_place-cases seen p = elim (some_or_none (tile_at seen p.site)) [
  | inl none ↦ inr (ap (λ (o : Option TypeId). option_map_or (λ u. u.0 == p.tile.0) o false) none, (λ e. none-some p.tile (sym none ∙ e)))
  | inr found ↦ let e : has_place seen p ≡ (found.0.0 == p.tile.0) = ap (λ (o : Option TypeId). option_map_or (λ u. u.0 == p.tile.0) o false) found.1 in
      dite (ℕ_discrete found.0.0 p.tile.0)
      (λ same. inl (e ∙ eq-eqb found.0.0 p.tile.0 same, found.1 ∙ (λ i. Some (record { 0 = same i }))))
      (λ other. inr (e ∙ ne_eqb found.0.0 p.tile.0 other, (λ f. other (ap (λ (u : TypeId). u.0) (same_Some found.0 p.tile (sym found.1 ∙ f))))))
]

not_false : (b : Bool) → b ≡ false → not b ≡ true
not_false true e = absurd (false≢true (sym e))
not_false false e = refl

not_from : (b : Bool) → not b ≡ true → b ≡ false
not_from true e = absurd (false≢true e)
not_from false e = refl

-- what both have seen is one assembly, where both are parts of one
pub seen_together-same : (seen other : List Place) → SamePlacements (seen ++ other) (seen_together seen other)
seen_together-same seen other = record {
  part = λ p c. elim (Contains-append_cases seen other p c) [
    | inl one ↦ Contains-append_left seen (filter (λ q. not (has_place seen q)) other) p one
    | inr two ↦ elim (has_place-cases seen p) [
      | inl there ↦ Contains-append_left seen (filter (λ q. not (has_place seen q)) other) p (tile_at-Contains seen p.site p.tile there.1)
      | inr fresh ↦ Contains-append_right seen (filter (λ q. not (has_place seen q)) other) p (filter-has (λ q. not (has_place seen q)) other p two (not_false (has_place seen p) fresh.0))
    ]
  ];
  whole = λ p c. elim (Contains-append_cases seen (filter (λ q. not (has_place seen q)) other) p c) [
    | inl one ↦ Contains-append_left seen other p one
    | inr two ↦ Contains-append_right seen other p (filter-from (λ q. not (has_place seen q)) other p two)
  ];
}

pub seen_together-distinct : (whole seen other : List Place) → HasDistinctSites whole → HasDistinctSites seen → HasDistinctSites other → IsPartOf seen whole → IsPartOf other whole → HasDistinctSites (seen_together seen other)
seen_together-distinct whole seen other distinct one two part_one part_two =
    all_pairs_append (λ (p q : Place). p.site ≢ q.site) seen (filter (λ q. not (has_place seen q)) other) one (AllPairs-filter (λ (p q : Place). p.site ≢ q.site) (λ q. not (has_place seen q)) other two)
    (λ p q in_one in_two site.
    let listed = filter-from (λ r. not (has_place seen r)) other q in_two in
    let is : p ≡ q = same_place whole p q distinct (part_one p in_one) (part_two q listed) site in
    elim (has_place-cases seen q) [
      | inl there ↦ false≢true (sym (not_from (has_place seen q) (filter-passed (λ r. not (has_place seen r)) other q in_two)) ∙ there.0)
      | inr fresh ↦ fresh.1 (Contains-tile_at seen q one (subst (Contains seen) is in_one))
    ])

-- two that have been joined agree
pub seen_together-agree : (seen other : List Place) → HasDistinctSites (seen_together seen other) → (m : Site) (t u : TypeId) → tile_at seen m ≡ Some t → tile_at other m ≡ Some u → t ≡ u
seen_together-agree seen other distinct m t u at_one at_two =
    let same = seen_together-same seen other in
    let a : Contains (seen_together seen other) (place m t) = same.part (place m t) (Contains-append_left seen other (place m t) (tile_at-Contains seen m t at_one)) in
    let b : Contains (seen_together seen other) (place m u) = same.part (place m u) (Contains-append_right seen other (place m u) (tile_at-Contains other m u at_two)) in
    ap (λ (p : Place). p.tile) (same_place (seen_together seen other) (place m t) (place m u) distinct a b refl)

-- what a scout has seen beside a place
pub sees_there : (w : ScoutState) (seen : List Place) (p : Place) (wins : List PlacedTile) (n : ℕ) → IsScoutOf n (seen ++ p ∷ []) wins w → tile_at w.seen p.site ≡ Some p.tile
sees_there w seen p wins n is = Contains-tile_at w.seen p is.distinct (is.seen.part p (Contains-push seen p))

-- a place that is seen again is the same
pub sees_same : (v w : ScoutState) (m : Site) (t u : TypeId) → IsScoutOf v.owned (v.seen ++ place m t ∷ []) v.mine w → tile_at v.seen m ≡ Some u → t ≡ u
sees_same v w m t u is found =
    let a : Contains w.seen (place m t) = is.seen.part (place m t) (Contains-push v.seen (place m t)) in
    let b : Contains w.seen (place m u) = is.seen.part (place m u) (Contains-append_left v.seen (place m t ∷ []) (place m u) (tile_at-Contains v.seen m u found)) in
    ap (λ (p : Place). p.tile) (same_place w.seen (place m t) (place m u) is.distinct a b refl)
