-- What holds a rival, by the sides that aren't output sides, and what a search finds with one place more.
use Rattle.std.proofs.Common.{◌≡◌, ◌≢◌, ◌<◌, ◌≤◌, ◌+◌, ℕ, not, List, length, take, Option, Some, None, slice_get, refl, sym, ◌∙◌, subst, inl, inr, arith}
use Rattle.std.specs.Option.{option_map, option_or}
use Rattle.std.proofs.lemmas.Bool.{cases_lt}
use Rattle.std.proofs.lemmas.Option.{same_Some, none-some, slice_get_within}
use Rattle.atam.specs.declared.site.Side.{Side}
use Rattle.atam.specs.declared.site.Site.{Site}
use Rattle.atam.specs.declared.place.TypeId.{TypeId}
use Rattle.atam.specs.declared.place.Place.{Place}
use Rattle.atam.specs.Placements.{HasDistinctSites, SamePlacements, tile_at}
use Rattle.atam.specs.TileSystem.{TileSystem}
use Rattle.atam.specs.Assembly.{pull}
use Rattle.atam.specs.Growth.{IsLegal}
use Rattle.atam.specs.Determinism.{is_output, without_outputs, IsExact, IsRival, HasExactInputs, HasNoRivals}
use Rattle.std.proofs.Math.Seq.{take-length}
use Rattle.atam.proofs.Placements.{Extends, Extends-take}
use Rattle.atam.proofs.Sequences.{IsLegal-distinct}
use Rattle.atam.proofs.Tiles.{SameTiles, SameTiles-from}
use Rattle.type_cache.specs.SideSets.{SideSet, has, glues_on}
use Rattle.attach_rule.specs.declared.facing.FacingGlues.{FacingGlues}
use Rattle.attach_rule.specs.Facing.{FacesSite, facing_pull}
use Rattle.type_index.specs.HeldTypes.{IsHeld, FirstHeldBut}
use Rattle.type_index.specs.Others.{IsFirstBut}
use Rattle.local_check.specs.Firsts.{IsLeast}
use Rattle.local_check.specs.Judgement.{FindsInexact, FindsRival}
use Rattle.local_check.specs.Inner.Ranges.{AllExactIn, NoRivalIn, FindsInexactIn, FindsRivalIn}
use Rattle.local_check.proofs.Keeping.{gone_here, pull_facing}

-- one index more
module _ (sys : TileSystem) (s : List Place) (start n : ℕ) (p : Place) (there : slice_get s n ≡ Some p) where
  pub exact_more : AllExactIn sys s start n → IsExact sys s n p → AllExactIn sys s start (n + 1)
  exact_more all last i q later from below at_i = elim (cases_lt i n) [
    | inl less ↦ all i q later from less at_i
    | inr more ↦
        let one : n ≡ i = omega (arith, below, more) in
        let At : ℕ → Type 0 = λ j. slice_get s j ≡ Some p in
        let same : p ≡ q = same_Some p q (sym (subst At one there) ∙ at_i) in
        subst (λ r. IsExact sys s i r) same (subst (λ j. IsExact sys s j p) one last)
  ]

  pub no_rival_more : NoRivalIn sys s start n → ((t : TypeId) → ¬ IsRival sys s n p t) → NoRivalIn sys s start (n + 1)
  no_rival_more none last i q t later from below at_i rival = elim (cases_lt i n) [
    | inl less ↦ none i q t later from less at_i rival
    | inr more ↦
        let one : i ≡ n = omega (arith, below, more) in
        let At : ℕ → Type 0 = λ j. slice_get s j ≡ Some q in
        let same : q ≡ p = same_Some q p (sym (subst At one at_i) ∙ there) in
        let at_n : IsRival sys s n q t = subst (λ j. IsRival sys s j q t) one rival in
        last t (subst (λ r. IsRival sys s n r t) same at_n)
  ]

-- nothing is asked of a seed
pub seed_inexact : (sys : TileSystem) (s : List Place) (start n : ℕ) (found : Option (Site × ℕ)) → n < length sys.seeds →
    FindsInexactIn sys s start n found → FindsInexactIn sys s start (n + 1) found
seed_inexact sys s start n None seed finds = λ i p later from below there. let never : ⊥ = omega (arith, seed, later, below) in absurd never
seed_inexact sys s start n (Some first) seed finds = finds

pub seed_rival : (sys : TileSystem) (s : List Place) (start n : ℕ) (found : Option (Site × TypeId)) → n < length sys.seeds →
    FindsRivalIn sys s start n found → FindsRivalIn sys s start (n + 1) found
seed_rival sys s start n None seed finds = λ i p t later from below there. let never : ⊥ = omega (arith, seed, later, below) in absurd never
seed_rival sys s start n (Some first) seed finds = finds

-- in two ranges, of which the one begins where the other ends, what is found in the first, or else in the second
module _ (sys : TileSystem) (s : List Place) (start middle end : ℕ) (meet : start ≤ middle) where
  pub inexact_joined : (left right : Option (Site × ℕ)) → FindsInexactIn sys s start middle left → FindsInexactIn sys s middle end right → FindsInexactIn sys s start end (option_or left right)
  inexact_joined (Some first) right one other = one
  inexact_joined None None one other = λ i p later from below there. elim (cases_lt i middle) [
    | inl before ↦ one i p later from before there
    | inr behind ↦ other i p later behind below there
  ]
  inexact_joined None (Some first) one other = record {
    index = other.index;
    place = other.place;
    from = omega (arith, meet, other.from);
    later = other.later;
    there = other.there;
    site = other.site;
    pull = other.pull;
    inexact = other.inexact;
    first = λ i p later from below there. elim (cases_lt i middle) [
      | inl before ↦ one i p later from before there
      | inr behind ↦ other.first i p later behind below there
    ];
  }

  pub rival_joined : (left right : Option (Site × TypeId)) → FindsRivalIn sys s start middle left → FindsRivalIn sys s middle end right → FindsRivalIn sys s start end (option_or left right)
  rival_joined (Some first) right one other = one
  rival_joined None None one other = λ i p t later from below there. elim (cases_lt i middle) [
    | inl before ↦ one i p t later from before there
    | inr behind ↦ other i p t later behind below there
  ]
  rival_joined None (Some first) one other = record {
    index = other.index;
    place = other.place;
    from = omega (arith, meet, other.from);
    later = other.later;
    there = other.there;
    site = other.site;
    rival = other.rival;
    first = λ i p t later from below there. elim (cases_lt i middle) [
      | inl before ↦ one i p t later from before there
      | inr behind ↦ other.first i p t later behind below there
    ];
  }

-- what is found from the first place on is what is found of all
pub inexact_whole : (sys : TileSystem) (s : List Place) (n : ℕ) (found : Option (Site × ℕ)) → FindsInexactIn sys s 0 n found → FindsInexact sys s n found
inexact_whole sys s n None all = λ i p later below there. all i p later (omega arith) below there
inexact_whole sys s n (Some first) finds = record {
  index = finds.index;
  item = finds.place;
  later = finds.later;
  there = finds.there;
  fails = finds.inexact;
  told = (finds.site, finds.pull);
  before = λ i p later below there. finds.first i p later (omega arith) below there;
}

pub rival_whole : (sys : TileSystem) (s : List Place) (n : ℕ) (found : Option (Site × TypeId)) → FindsRivalIn sys s 0 n found → FindsRival sys s n found
rival_whole sys s n None none = λ i p t later below there. none i p t later (omega arith) below there
rival_whole sys s n (Some first) finds = record {
  index = finds.index;
  item = finds.place;
  later = finds.later;
  there = finds.there;
  fails = λ none. none first.1 finds.rival.holds;
  told = (finds.site, finds.rival);
  before = λ i p later below there t. finds.first i p t later (omega arith) below there;
}

module _ (sys : TileSystem) (s tiles : List Place) (distinct : HasDistinctSites sys.seeds) (legal : IsLegal sys s) (same : SamePlacements s tiles) where
  pub one_map : SameTiles s tiles
  one_map = SameTiles-from s tiles (IsLegal-distinct sys s distinct legal) same

  -- what stands in a beginning stands there
  pub part_of_tiles : (i : ℕ) (part : List Place) → i ≤ length s → SameTiles (take i s) part → Extends part tiles
  part_of_tiles i part within same_part m t found =
      let In : List Place → Type 0 = λ l. tile_at l m ≡ Some t in
      sym (one_map m) ∙ subst In (take-length s) (Extends-take s i (length s) within m t (same_part m ∙ found))

  module _ (i : ℕ) (p : Place) (there : slice_get s i ≡ Some p) where
    abbrev rest : List Place
    rest = without_outputs sys s i p.site

    -- the first type that the glues on the sides that are kept hold, other than that of the place, is its first rival
    module _ (sides : SideSet) (are : (d : Side) → has sides d ≡ not (is_output sys s i d)) (glues : FacingGlues) (faces : FacesSite sys tiles p.site glues) where
      pull_rest : (t : TypeId) → pull sys rest p.site t ≡ facing_pull sys (glues_on sides glues) t
      pull_rest t = pull_facing sys s tiles one_map p.site (λ d. is_output sys s i d) sides are glues faces t

      held_rival : (t : TypeId) → t ≢ p.tile → IsHeld sys (glues_on sides glues) t → IsRival sys s i p t
      held_rival t other held =
          let same = pull_rest t in
          record {
            other = other;
            grows = record { kind = held.kind; attaches = record { empty = gone_here sys s tiles one_map p.site (λ d. is_output sys s i d); held = omega (arith, same, held.held) } };
          }

      rival_held : (t : TypeId) → IsRival sys s i p t → IsHeld sys (glues_on sides glues) t
      rival_held t rival = let same = pull_rest t in record { kind = rival.grows.kind; held = omega (arith, same, rival.grows.attaches.held) }

      no_rival : ((t : TypeId) → IsHeld sys (glues_on sides glues) t → t ≡ p.tile) → (t : TypeId) → ¬ IsRival sys s i p t
      no_rival none t rival = rival.other (none t (rival_held t rival))

      least_rival : (t : TypeId) → IsFirstBut (IsHeld sys (glues_on sides glues)) p.tile t → IsLeast (IsRival sys s i p) (λ u. u.0) t
      least_rival t first = record {
        holds = held_rival t first.other first.holds;
        least = λ u rival. first.least u (rival_held u rival) rival.other;
      }

      -- so a search finds it with one place more, if it found none before
      pub rival_more : (start : ℕ) (found : Option (Site × TypeId)) (other : Option TypeId) → start ≤ i → length sys.seeds ≤ i → FindsRivalIn sys s start i found →
          (found ≡ None → FirstHeldBut sys (glues_on sides glues) p.tile other) → FindsRivalIn sys s start (i + 1) (option_or found (option_map (λ t. (p.site, t)) other))
      rival_more start (Some found) other from later finds first = finds
      rival_more start None None from later none first = no_rival_more sys s start i p there none (no_rival (first refl))
      rival_more start None (Some t) from later none first = record {
        index = i;
        place = p;
        from = from;
        later = later;
        there = there;
        site = refl;
        rival = least_rival t (first refl);
        first = none;
      }

-- where a search of all places finds none, there is none
pub exact_all : (sys : TileSystem) (s : List Place) (found : Option (Site × ℕ)) → None ≡ found → FindsInexact sys s (length s) found → HasExactInputs sys s
exact_all sys s None none finds = λ i p later there. finds i p later (slice_get_within s i p there) there
exact_all sys s (Some first) none finds = absurd (none-some first none)

pub no_rival_all : (sys : TileSystem) (s : List Place) (found : Option (Site × TypeId)) → None ≡ found → FindsRival sys s (length s) found → HasNoRivals sys s
no_rival_all sys s None none finds = λ i p t later there. finds i p t later (slice_get_within s i p there) there
no_rival_all sys s (Some first) none finds = absurd (none-some first none)

-- where none is found with one place more, there was none before, nor one here
pub none_so_far : (m : Site) (found : Option (Site × TypeId)) (other : Option TypeId) → option_or found (option_map (λ t. (m, t)) other) ≡ None → (found ≡ None) × (other ≡ None)
none_so_far m None None none = (refl, refl)
none_so_far m None (Some t) none = absurd (none-some (m, t) (sym none))
none_so_far m (Some first) other none = absurd (none-some first (sym none))
