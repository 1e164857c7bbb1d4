-- Where each place came clean, none has a rival.
use Rattle.std.proofs.Common.{◌≡◌, ◌<◌, ◌≤◌, ◌+◌, ℕ, Bool, true, false, not, nat_lt, List, length, take, Some, slice_get, refl, sym, ◌∙◌, ap, subst, inl, inr, arith}
use Rattle.std.proofs.Math.Nat.{le_refl, le_trans}
use Rattle.std.proofs.lemmas.Bool.{cases_order, cases_lt}
use Rattle.std.proofs.lemmas.Bool.Decides.{nat_tests}
use Rattle.std.proofs.lemmas.Option.{same_Some, none-some, slice_get_within}
use Rattle.atam.specs.declared.site.Side.{Side}
use Rattle.atam.specs.declared.site.Side.TheVariants.{North, East, South, West}
use Rattle.atam.specs.declared.site.Site.{Site}
use Rattle.atam.specs.declared.place.TypeId.{TypeId}
use Rattle.atam.specs.declared.place.Place.{Place}
use Rattle.atam.specs.Sites.{neighbor, opposite}
use Rattle.atam.specs.Placements.{HasDistinctSites, tile_at}
use Rattle.atam.specs.TileSystem.{TileSystem, side_glue}
use Rattle.atam.specs.Assembly.{interaction, bond, pull}
use Rattle.atam.specs.Growth.{IsLegal}
use Rattle.atam.specs.Determinism.{is_input, is_output, without_outputs, index_at, IsRival, HasNoRivals}
use Rattle.atam.proofs.Lists.{some_or_none}
use Rattle.atam.proofs.Bonds.{neighbor-opposite, opposite-opposite, bond_is, bond-none}
use Rattle.atam.proofs.Placements.{index_at-none, index_at-some, tile_at-place}
use Rattle.atam.proofs.Sequences.{IsLegal-listed, IsLegal-tile_at, same_index}
use Rattle.atam.proofs.Confluence.{is_input-later}
use Rattle.atam.proofs.SameVerdict.{is_output-some}
use Rattle.atam.proofs.Opening.{bond-beside}
use Rattle.type_cache.specs.Clean.{IsDead, ComesClean, AllCleanBelow, HasCleanPlaces}
use Rattle.type_cache.specs.SideSets.{bond_if}
use Rattle.local_check.proofs.Keeping.{bond_kept}
use Rattle.local_check.proofs.Sides.{apart}

at_most : (on : Bool) (w : ℕ) → bond_if on w ≤ w
at_most true w = le_refl w
at_most false w = omega arith

no_more : (out : Bool) (w : ℕ) → out ≡ true → bond_if (not out) w ≡ 0
no_more true w is = refl
no_more false w is = absurd (cc is)

positive : (w : ℕ) → 0 < w → nat_lt 0 w ≡ true
positive w above = grind (arith, nat_tests, above)

-- a number below one that is nothing, below one that is the same, and one that is nothing
below_none : (x y z : ℕ) → x ≤ y → y ≡ 0 → x ≤ z
below_none x y z below none = omega (arith, below, none)

below_same : (x y z : ℕ) → x ≤ y → y ≡ z → x ≤ z
below_same x y z below same = omega (arith, below, same)

none_below : (x z : ℕ) → x ≡ 0 → x ≤ z
none_below x z none = omega (arith, none)

none_too : (x y : ℕ) → x ≤ y → y ≡ 0 → x ≡ 0
none_too x y below none = omega (arith, below, none)

as_below : (x y z : ℕ) → x ≡ y → y ≤ z → x ≤ z
as_below x y z same below = omega (arith, same, below)

module _ (sys : TileSystem) (s : List Place) (distinct : HasDistinctSites sys.seeds) (legal : IsLegal sys s) (clean : HasCleanPlaces sys s) where
  module _ (i : ℕ) (p : Place) (later : length sys.seeds ≤ i) (there : slice_get s i ≡ Some p) (d : Side) where
    -- with a place beside it
    module _ (j : ℕ) (q : Place) (at_j : slice_get s j ≡ Some q) (beside : q.site ≡ neighbor p.site d) where
      behind : p.site ≡ neighbor q.site (opposite d)
      behind = sym (ap (λ m. neighbor m (opposite d)) beside ∙ neighbor-opposite p.site d)

      other_index : ¬ (j ≡ i)
      other_index same =
          let At : ℕ → Type 0 = λ k. slice_get s k ≡ Some q in
          let one : p ≡ q = same_Some p q (sym there ∙ subst At same at_j) in
          apart p.site d (ap (λ r. r.site) one ∙ beside)

      -- one that came before stood there
      stood : (t : TypeId) → j < i → bond sys s p.site t d ≡ bond sys (take i s) p.site t d
      stood t early =
          let At : List Place → Site → Type 0 = λ tiles m. tile_at tiles m ≡ Some q.tile in
          bond-beside sys s (take i s) p.site t d
          (subst (At s) beside (IsLegal-tile_at sys s distinct legal j q at_j) ∙ sym (subst (At (take i s)) beside (IsLegal-listed sys s distinct legal j i q early at_j)))

      -- one that came later and is bound makes the side an output side
      out_of : i < j → 0 < bond sys (take j s) q.site q.tile (opposite d) → is_output sys s i d ≡ true
      out_of late bound = elim (some_or_none (index_at s (neighbor p.site d))) [
        | inl none ↦
            let At : Site → Type 0 = λ m. tile_at s m ≡ Some q.tile in
            absurd (none-some q.tile (sym (index_at-none s (neighbor p.site d) none) ∙ subst At beside (IsLegal-tile_at sys s distinct legal j q at_j)))
        | inr some ↦
            let r = index_at-some s (neighbor p.site d) some.0 p some.1 in
            let index : some.0 ≡ j = same_index sys s distinct legal some.0 j r.0 q r.1 at_j (r.2 ∙ sym beside) in
            let is_later : length sys.seeds ≤ j = omega (arith, later, late) in
            is_output-some sys s i p d some.0 there some.1
            ∙ ap (λ k. is_input sys s k (opposite d)) index
            ∙ is_input-later sys s j q (opposite d) is_later at_j
            ∙ positive (bond sys (take j s) q.site q.tile (opposite d)) bound
      ]

      -- and one whose side is dead pulls at nothing
      dead_beside : (t : TypeId) → IsDead sys q.tile (opposite d) → bond sys s p.site t d ≡ 0
      dead_beside t dead =
          let At : Site → Type 0 = λ m. tile_at s m ≡ Some q.tile in
          bond_is sys s p.site t d q.tile (subst At beside (IsLegal-tile_at sys s distinct legal j q at_j))
          ∙ ap (λ e. interaction sys (side_glue sys t e) (side_glue sys q.tile (opposite d))) (sym (opposite-opposite d))
          ∙ dead t

      came_later : (t : TypeId) → i < j → bond_if (not (is_output sys s i d)) (bond sys s p.site t d) ≡ 0
      came_later t late =
          let At : Site → Type 0 = λ m. tile_at (take j s) m ≡ Some p.tile in
          let beside_q : tile_at (take j s) (neighbor q.site (opposite d)) ≡ Some p.tile = subst At behind (IsLegal-listed sys s distinct legal i j p late there) in
          let is_later : length sys.seeds ≤ j = omega (arith, later, late) in
          elim ((clean j q is_later at_j).settled (opposite d) p.tile beside_q) [
            | inl bound ↦ no_more (is_output sys s i d) (bond sys s p.site t d) (out_of late bound)
            | inr dead ↦
                none_too (bond_if (not (is_output sys s i d)) (bond sys s p.site t d)) (bond sys s p.site t d)
                (at_most (not (is_output sys s i d)) (bond sys s p.site t d)) (dead_beside t dead)
          ]

    -- what is kept pulls no more than what stood there as the place came
    kept_side : (t : TypeId) → bond_if (not (is_output sys s i d)) (bond sys s p.site t d) ≤ bond sys (take i s) p.site t d
    kept_side t =
        let kept : ℕ = bond_if (not (is_output sys s i d)) (bond sys s p.site t d) in
        let few : kept ≤ bond sys s p.site t d = at_most (not (is_output sys s i d)) (bond sys s p.site t d) in
        elim (some_or_none (tile_at s (neighbor p.site d))) [
          | inl none ↦ below_none kept (bond sys s p.site t d) (bond sys (take i s) p.site t d) few (bond-none sys s p.site t d none)
          | inr some ↦
              let q = tile_at-place s (neighbor p.site d) some.0 some.1 in
              elim (cases_order q.0 i) [
                | inl same ↦ absurd (other_index q.0 q.1 q.2 q.3 same)
                | inr rest ↦ elim rest [
                  | inl early ↦ below_same kept (bond sys s p.site t d) (bond sys (take i s) p.site t d) few (stood q.0 q.1 q.2 q.3 t early)
                  | inr late ↦ none_below kept (bond sys (take i s) p.site t d) (came_later q.0 q.1 q.2 q.3 t late)
                ]
              ]
        ]

  module _ (i : ℕ) (p : Place) (later : length sys.seeds ≤ i) (there : slice_get s i ≡ Some p) where
    bond_rest : (t : TypeId) (d : Side) → bond sys (without_outputs sys s i p.site) p.site t d ≤ bond sys (take i s) p.site t d
    bond_rest t d =
        let kept : bond sys (without_outputs sys s i p.site) p.site t d ≡ bond_if (not (is_output sys s i d)) (bond sys s p.site t d) =
        bond_kept sys s s (λ m. refl) p.site (λ e. is_output sys s i e) t d
        in
        as_below (bond sys (without_outputs sys s i p.site) p.site t d) (bond_if (not (is_output sys s i d)) (bond sys s p.site t d)) (bond sys (take i s) p.site t d) kept (kept_side i p later there d t)

    pull_rest : (t : TypeId) → pull sys (without_outputs sys s i p.site) p.site t ≤ pull sys (take i s) p.site t
    unfolding pull
    pull_rest t = omega (arith, bond_rest t North, bond_rest t East, bond_rest t South, bond_rest t West)

    pub clean_unrivalled : (t : TypeId) → ¬ IsRival sys s i p t
    clean_unrivalled t rival =
        rival.other ((clean i p later there).sole t (record {
          kind = rival.grows.kind;
          attaches = record { empty = (legal.each i p later there).empty; held = le_trans rival.grows.attaches.held (pull_rest t) };
        }))

  pub clean_no_rivals : HasNoRivals sys s
  clean_no_rivals i p t later there = clean_unrivalled i p later there t

-- one place more that came clean
pub clean_more : (sys : TileSystem) (s : List Place) (n : ℕ) (p : Place) → slice_get s n ≡ Some p → AllCleanBelow sys s n → ComesClean sys (take n s) p.site p.tile → AllCleanBelow sys s (n + 1)
clean_more sys s n p there all last i q later below at_i = elim (cases_lt i n) [
  | inl less ↦ all i q later less at_i
  | inr more ↦
      let one : n ≡ i = omega (arith, below, more) in
      let At : ℕ → Type 0 = λ j. slice_get s j ≡ Some p in
      let same : p ≡ q = same_Some p q (sym (subst At one there) ∙ at_i) in
      subst (λ (r : Place). ComesClean sys (take i s) r.site r.tile) same (subst (λ (j : ℕ). ComesClean sys (take j s) p.site p.tile) one last)
]

pub clean_all : (sys : TileSystem) (s : List Place) → AllCleanBelow sys s (length s) → HasCleanPlaces sys s
clean_all sys s all i p later there = all i p later (slice_get_within s i p there) there
