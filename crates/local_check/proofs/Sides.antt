-- Input and output sides, by bonds.
use Rattle.std.proofs.Common.{◌≡◌, ◌≢◌, ◌⊎◌, ◌<◌, ◌≤◌, ◌+◌, ◌++◌, ℕ, zero, suc, Bool, true, false, not, ◌&&◌, nat_lt, nat_le, max, List, [], ◌∷◌, length, length-append, take, Option, Some, None, slice_get, refl, sym, ◌∙◌, ap, subst, inl, inr, arith}
use Rattle.std.proofs.lemmas.Int.{ints}
use Rattle.std.proofs.lemmas.Bool.{cases_lt}
use Rattle.std.proofs.lemmas.Bool.Decides.{nat_tests}
use Rattle.std.proofs.lemmas.Option.{same_Some, none-some}
use Rattle.atam.specs.declared.site.Side.{Side}
use Rattle.atam.specs.declared.site.Side.TheVariants.{North, East, South, West}
use Rattle.atam.specs.declared.site.Site.{Site}
use Rattle.atam.specs.declared.place.TypeId.{TypeId}
use Rattle.atam.specs.declared.place.Place.{Place}
use Rattle.atam.specs.Sites.{neighbor, opposite}
use Rattle.atam.specs.Placements.{HasDistinctSites, SamePlacements, tile_at}
use Rattle.atam.specs.TileSystem.{TileSystem, side_glue}
use Rattle.atam.specs.Assembly.{interaction, bond}
use Rattle.atam.specs.Growth.{IsLegal}
use Rattle.atam.specs.Determinism.{is_input, is_output, index_at}
use Rattle.atam.proofs.Lists.{some_or_none}
use Rattle.atam.proofs.Bonds.{neighbor-opposite, opposite-opposite, interaction-comm, bond_is, bond-none}
use Rattle.atam.proofs.Placements.{Extends-take, empty_in_part, index_at-none, index_at-some}
use Rattle.atam.proofs.Sequences.{IsLegal-empty, IsLegal-tile_at, IsLegal-listed, IsLegal-distinct}
use Rattle.atam.proofs.Confluence.{is_input-seed, is_input-later}
use Rattle.atam.proofs.SameVerdict.{is_output-some, is_output-none}
use Rattle.type_index.specs.Indexes.{TypeLists, IsIndexOf}
use Rattle.type_cache.specs.SideSets.{SideSet, has, bond_if, sum_on, bound_by, difference, complement}
use Rattle.local_check.specs.SideSets.{has_at, AreSidesOf}
use Rattle.attach_rule.specs.declared.bonding.Strengths.{Strengths}
use Rattle.attach_rule.specs.declared.facing.FacingGlues.{FacingGlues}
use Rattle.attach_rule.specs.Bonds.{AreBonds}
use Rattle.attach_rule.specs.Facing.{FacesSite}
use Rattle.local_check.specs.Judgement.{FindsInexact, FindsRival}
use Rattle.local_check.specs.Inner.Sides.{pull_on, bound_sides, AreEarlierFrom, AreOutputsFrom}
use Rattle.atam.proofs.Opening.{bond-beside}
use Rattle.atam.proofs.Tiles.{SameTiles}
use Rattle.local_check.proofs.Sites.{slice_get-some, distinct-take}

pub has-bound : (sys : TileSystem) (tiles : List Place) (m : Site) (t : TypeId) (d : Side) → has (bound_sides sys tiles m t) d ≡ nat_lt 0 (bond sys tiles m t d)
has-bound sys tiles m t North = refl
has-bound sys tiles m t East = refl
has-bound sys tiles m t South = refl
has-bound sys tiles m t West = refl

-- the sum of strengths is the pull, by some sides alone
pub sum_on-bonds : (sys : TileSystem) (tiles : List Place) (m : Site) (t : TypeId) (bonds : Strengths) (sides : SideSet) → AreBonds sys tiles m t bonds →
    sum_on sides bonds ≡ pull_on sys tiles m t sides
sum_on-bonds sys tiles m t bonds sides are =
    λ k. bond_if sides.north (are.north k) + bond_if sides.east (are.east k) + bond_if sides.south (are.south k) + bond_if sides.west (are.west k)

-- the sides with a strength are those that interact
pub bound_by-bonds : (sys : TileSystem) (tiles : List Place) (m : Site) (t : TypeId) (bonds : Strengths) → AreBonds sys tiles m t bonds → bound_by bonds ≡ bound_sides sys tiles m t
bound_by-bonds sys tiles m t bonds are =
    λ k. record { north = nat_lt 0 (are.north k); east = nat_lt 0 (are.east k); south = nat_lt 0 (are.south k); west = nat_lt 0 (are.west k) }

pub has-difference : (a b : SideSet) (d : Side) → has (difference a b) d ≡ (has a d && not (has b d))
has-difference a b North = refl
has-difference a b East = refl
has-difference a b South = refl
has-difference a b West = refl

pub has-complement : (a : SideSet) (d : Side) → has (complement a) d ≡ not (has a d)
has-complement a North = refl
has-complement a East = refl
has-complement a South = refl
has-complement a West = refl

-- glues that are those that face a site face it
pub faces_still : (sys : TileSystem) (tiles : List Place) (m : Site) (glues same : FacingGlues) → same ≡ glues → FacesSite sys tiles m glues → FacesSite sys tiles m same
faces_still sys tiles m glues same is faces = subst (λ (g : FacingGlues). FacesSite sys tiles m g) (sym is) faces

-- a site isn't beside itself
pub apart : (m : Site) (d : Side) → m ≢ neighbor m d
apart m North same = let y = ap (λ n. n.y) same in let never : ⊥ = omega (arith, ints, y) in never
apart m East same = let x = ap (λ n. n.x) same in let never : ⊥ = omega (arith, ints, x) in never
apart m South same = let y = ap (λ n. n.y) same in let never : ⊥ = omega (arith, ints, y) in never
apart m West same = let x = ap (λ n. n.x) same in let never : ⊥ = omega (arith, ints, x) in never

and_not : (b : Bool) → (b && not b) ≡ false
and_not true = refl
and_not false = refl

and_true : (b : Bool) → (b && true) ≡ b
and_true true = refl
and_true false = refl

-- whether a bond is there with the seeds or with earlier places
abbrev pub earlier_bond : TileSystem → List Place → ℕ → Place → Side → ℕ
earlier_bond sys s i p d = bond sys (take (max (length sys.seeds) i) s) p.site p.tile d

module _ (sys : TileSystem) (s : List Place) (distinct : HasDistinctSites sys.seeds) (legal : IsLegal sys s) where
  -- a site is empty before its place
  pub empty_before : (i j : ℕ) (p : Place) → slice_get s i ≡ Some p → j ≤ i → tile_at (take j s) p.site ≡ None
  empty_before i j p there before =
      empty_in_part (take j s) (take i s) p.site (Extends-take s j i before) (IsLegal-empty sys s distinct legal i p there)

  pub taken_distinct : (k : ℕ) → HasDistinctSites (take k s)
  taken_distinct k = distinct-take s k (IsLegal-distinct sys s distinct legal)

  module _ (i : ℕ) (p : Place) (there : slice_get s i ≡ Some p) (d : Side) where
    pub input_by_bond : is_input sys s i d ≡ (nat_le (length sys.seeds) i && nat_lt 0 (earlier_bond sys s i p d))
    input_by_bond = elim (cases_lt i (length sys.seeds)) [
      | inl seed ↦
          let not_later : nat_le (length sys.seeds) i ≡ false = grind (arith, nat_tests, seed) in
          rw not_later refl
      | inr later ↦
          let is_later : nat_le (length sys.seeds) i ≡ true = grind (arith, nat_tests, later) in
          let greater : max (length sys.seeds) i ≡ i = omega (arith, later) in
          rw (is_later, greater, there) refl
    ]

    -- with another place beside
    module _ (j : ℕ) (q : Place) (at_j : slice_get s j ≡ Some q) (beside : q.site ≡ neighbor p.site d) where
      strength : ℕ
      strength = interaction sys (side_glue sys p.tile d) (side_glue sys q.tile (opposite d))

      after : (k : ℕ) → j < k → bond sys (take k s) p.site p.tile d ≡ strength
      unfolding strength
      after k below =
          let At : Site → Type 0 = λ m. tile_at (take k s) m ≡ Some q.tile in
          bond_is sys (take k s) p.site p.tile d q.tile (subst At beside (IsLegal-listed sys s distinct legal j k q below at_j))

      whole : bond sys s p.site p.tile d ≡ strength
      unfolding strength
      whole =
          let At : Site → Type 0 = λ m. tile_at s m ≡ Some q.tile in
          bond_is sys s p.site p.tile d q.tile (subst At beside (IsLegal-tile_at sys s distinct legal j q at_j))

      before : (k : ℕ) → k ≤ j → bond sys (take k s) p.site p.tile d ≡ 0
      before k below =
          let Empty : Site → Type 0 = λ m. tile_at (take k s) m ≡ None in
          bond-none sys (take k s) p.site p.tile d (subst Empty beside (empty_before j k q at_j below))

      -- the bond from the other side
      behind : p.site ≡ neighbor q.site (opposite d)
      behind = sym (ap (λ m. neighbor m (opposite d)) beside ∙ neighbor-opposite p.site d)

      back_after : i < j → bond sys (take j s) q.site q.tile (opposite d) ≡ strength
      unfolding strength
      back_after below =
          let At : Site → Type 0 = λ m. tile_at (take j s) m ≡ Some p.tile in
          bond_is sys (take j s) q.site q.tile (opposite d) p.tile (subst At behind (IsLegal-listed sys s distinct legal i j p below there))
          ∙ interaction-comm sys (side_glue sys q.tile (opposite d)) (side_glue sys p.tile (opposite (opposite d)))
          ∙ ap (λ e. interaction sys (side_glue sys p.tile e) (side_glue sys q.tile (opposite d))) (opposite-opposite d)

      back_before : j ≤ i → bond sys (take j s) q.site q.tile (opposite d) ≡ 0
      back_before below =
          let Empty : Site → Type 0 = λ m. tile_at (take j s) m ≡ None in
          bond-none sys (take j s) q.site q.tile (opposite d) (subst Empty behind (empty_before i j p there below))

      other_index : i ≢ j
      other_index same =
          let At : ℕ → Type 0 = λ k. slice_get s k ≡ Some q in
          let one : p ≡ q = same_Some p q (sym there ∙ subst At (sym same) at_j) in
          apart p.site d (ap (λ r. r.site) one ∙ beside)

      input_beside : is_input sys s j (opposite d) ≡ (nat_lt 0 (bond sys s p.site p.tile d) && not (nat_lt 0 (earlier_bond sys s i p d)))
      input_beside = elim (cases_lt j (max (length sys.seeds) i)) [
        | inl early ↦
            let none : (nat_lt 0 (bond sys s p.site p.tile d) && not (nat_lt 0 (earlier_bond sys s i p d))) ≡ false =
            rw (whole, after (max (length sys.seeds) i) early) (and_not (nat_lt 0 strength))
            in
            elim (cases_lt j (length sys.seeds)) [
              | inl seed ↦ is_input-seed sys s j (opposite d) seed ∙ sym none
              | inr later ↦
                  let silent : bond sys (take j s) q.site q.tile (opposite d) ≡ 0 = back_before (omega (arith, early, later)) in
                  is_input-later sys s j q (opposite d) later at_j ∙ ap (nat_lt 0) silent ∙ sym none
            ]
        | inr late ↦
            let later : length sys.seeds ≤ j = omega (arith, late) in
            let no_less : i ≤ j = omega (arith, late) in
            let less : i < j = omega (arith, no_less, other_index) in
            is_input-later sys s j q (opposite d) later at_j
            ∙ ap (nat_lt 0) (back_after less)
            ∙ rw (whole, before (max (length sys.seeds) i) late) (sym (and_true (nat_lt 0 strength)))
      ]

    pub output_by_bond : is_output sys s i d ≡ (nat_lt 0 (bond sys s p.site p.tile d) && not (nat_lt 0 (earlier_bond sys s i p d)))
    output_by_bond = elim (some_or_none (index_at s (neighbor p.site d))) [
      | inl none ↦
          is_output-none sys s i p d there none
          ∙ sym (rw (bond-none sys s p.site p.tile d (index_at-none s (neighbor p.site d) none)) refl)
      | inr some ↦
          let q = index_at-some s (neighbor p.site d) some.0 p some.1 in
          is_output-some sys s i p d some.0 there some.1 ∙ input_beside some.0 q.0 q.1 q.2
    ]

-- sides by the tiles of one assembly are those by the tiles of another with the same places
pub bound_sides-same : (sys : TileSystem) (a b : List Place) (m : Site) (t : TypeId) → SameTiles a b → bound_sides sys a m t ≡ bound_sides sys b m t
bound_sides-same sys a b m t same =
    let at : (d : Side) → bond sys a m t d ≡ bond sys b m t d = λ d. bond-beside sys a b m t d (same (neighbor m d)) in
    λ k. record { north = nat_lt 0 (at North k); east = nat_lt 0 (at East k); south = nat_lt 0 (at South k); west = nat_lt 0 (at West k) }

-- an element of a list with one more element, by its index
push_at : {A : Type 0} (s : List A) (x : A) (k : ℕ) (y : A) → slice_get (s ++ x ∷ []) k ≡ Some y → (slice_get s k ≡ Some y) ⊎ ((x ≡ y) × (k ≡ length s))
push_at [] x zero y e = inr (same_Some x y e, refl)
push_at [] x (suc k) y e = absurd (none-some y e)
push_at (a ∷ s) x zero y e = inl e
push_at (a ∷ s) x (suc k) y e = elim (push_at s x k y e) [ inl h ↦ inl h | inr h ↦ inr (h.0, omega (arith, h.1)) ]

pub length-push : {A : Type 0} (s : List A) (x : A) → length (s ++ x ∷ []) ≡ length s + 1
length-push s x = length-append s (x ∷ [])

-- one set more is that of the sides that interact, or of the output sides
module _ (sys : TileSystem) (s : List Place) (start : ℕ) (sets : List SideSet) (x : SideSet) where
  pub earlier_more : (p : Place) → slice_get s (start + length sets) ≡ Some p → AreEarlierFrom sys s start sets →
      x ≡ bound_sides sys (take (max (length sys.seeds) (start + length sets)) s) p.site p.tile → AreEarlierFrom sys s start (sets ++ x ∷ [])
  earlier_more p there each last k q sides at_k found = elim (push_at sets x k sides found) [
    | inl old ↦ each k q sides at_k old
    | inr new ↦
        let At : ℕ → Type 0 = λ j. slice_get s (start + j) ≡ Some q in
        let one : p ≡ q = same_Some p q (sym there ∙ subst At new.1 at_k) in
        sym new.0 ∙ last ∙ (λ i. bound_sides sys (take (max (length sys.seeds) (start + sym new.1 i)) s) (one i).site (one i).tile)
  ]

  pub outputs_more : AreOutputsFrom sys s start sets → ((d : Side) → has x d ≡ is_output sys s (start + length sets) d) → AreOutputsFrom sys s start (sets ++ x ∷ [])
  outputs_more each last k sides found d = elim (push_at sets x k sides found) [
    | inl old ↦ each k sides old d
    | inr new ↦ ap (λ a. has a d) (sym new.0) ∙ last d ∙ ap (λ j. is_output sys s (start + j) d) (sym new.1)
  ]

-- an element of two lists, one behind the other
joined_at : {A : Type 0} (xs ys : List A) (k : ℕ) (y : A) → slice_get (xs ++ ys) k ≡ Some y → (slice_get xs k ≡ Some y) ⊎ ((j : ℕ) × (k ≡ length xs + j) × (slice_get ys j ≡ Some y))
joined_at [] ys k y e = inr (k, omega arith, e)
joined_at (x ∷ xs) ys zero y e = inl e
joined_at (x ∷ xs) ys (suc k) y e = elim (joined_at xs ys k y e) [ inl h ↦ inl h | inr h ↦ inr (h.0, omega (arith, h.1), h.2) ]

-- the sets of two ranges, of which the one begins where the other ends
module _ (sys : TileSystem) (s : List Place) (start middle : ℕ) (left right : List SideSet) (meet : start + length left ≡ middle) where
  pub earlier_joined : AreEarlierFrom sys s start left → AreEarlierFrom sys s middle right → AreEarlierFrom sys s start (left ++ right)
  earlier_joined one other k p sides at_k found = elim (joined_at left right k sides found) [
    | inl in_left ↦ one k p sides at_k in_left
    | inr behind ↦
        let index : start + k ≡ middle + behind.0 = omega (arith, behind.1, meet) in
        let At : ℕ → Type 0 = λ i. slice_get s i ≡ Some p in
        other behind.0 p sides (subst At index at_k) behind.2 ∙ ap (λ i. bound_sides sys (take (max (length sys.seeds) i) s) p.site p.tile) (sym index)
  ]

  pub outputs_joined : AreOutputsFrom sys s start left → AreOutputsFrom sys s middle right → AreOutputsFrom sys s start (left ++ right)
  outputs_joined one other k sides found d = elim (joined_at left right k sides found) [
    | inl in_left ↦ one k sides in_left d
    | inr behind ↦
        let index : start + k ≡ middle + behind.0 = omega (arith, behind.1, meet) in
        other behind.0 sides behind.2 d ∙ ap (λ i. is_output sys s i d) (sym index)
  ]

-- the output sides of one place
pub output_here : (sys : TileSystem) (s : List Place) (distinct : HasDistinctSites sys.seeds) (legal : IsLegal sys s) (i : ℕ) (p : Place) → slice_get s i ≡ Some p →
    (earlier bound outputs : SideSet) → earlier ≡ bound_sides sys (take (max (length sys.seeds) i) s) p.site p.tile → bound ≡ bound_sides sys s p.site p.tile →
    outputs ≡ difference bound earlier → (d : Side) → has outputs d ≡ is_output sys s i d
output_here sys s distinct legal i p there earlier bound outputs is_earlier is_bound is_difference d =
    let before = take (max (length sys.seeds) i) s in
    ap (λ a. has a d) is_difference
    ∙ has-difference bound earlier d
    ∙ (λ k. has (is_bound k) d && not (has (is_earlier k) d))
    ∙ (λ k. has-bound sys s p.site p.tile d k && not (has-bound sys before p.site p.tile d k))
    ∙ sym (output_by_bond sys s distinct legal i p there d)

has_at-some : (sets : List SideSet) (i : ℕ) (x : SideSet) (d : Side) → slice_get sets i ≡ Some x → has_at sets i d ≡ has x d
has_at-some sets i x d there = rw there refl

-- the table of a sequence
module _ (sys : TileSystem) (s tiles : List Place) (earlier outputs : List SideSet) (distinct : HasDistinctSites sys.seeds) (legal : IsLegal sys s) where
  pub table : length earlier ≡ length s → length outputs ≡ length s → AreEarlierFrom sys s 0 earlier → AreOutputsFrom sys s 0 outputs → SamePlacements s tiles → (seeds : ℕ) → seeds ≡ length sys.seeds →
      (index : TypeLists) → IsIndexOf sys index →
      (inexact : Option (Site × ℕ)) → FindsInexact sys s (length s) inexact → (rival : Option (Site × TypeId)) → FindsRival sys s (length s) rival →
      AreSidesOf sys s (record { tiles = tiles; seeds = seeds; earlier = earlier; outputs = outputs; index = index; inexact = inexact; rival = rival })
  table earlier_count output_count are_earlier are_outputs same seeds is_count index is_index inexact is_inexact rival is_rival = record {
    same = same;
    count = output_count;
    inputs = λ i d within.
        let p = slice_get-some s i within in
        let x = slice_get-some earlier i (omega (arith, within, earlier_count)) in
        let index : 0 + i ≡ i = omega arith in
        let At : ℕ → Type 0 = λ j. slice_get s j ≡ Some p.0 in
        let value : has x.0 d ≡ nat_lt 0 (earlier_bond sys s i p.0 d) =
        ap (λ a. has a d) (are_earlier i p.0 x.0 (subst At (sym index) p.1) x.1)
        ∙ ap (λ j. has (bound_sides sys (take (max (length sys.seeds) j) s) p.0.site p.0.tile) d) index
        ∙ has-bound sys (take (max (length sys.seeds) i) s) p.0.site p.0.tile d
        in
        (λ k. nat_le (is_count k) i && (has_at-some earlier i x.0 d x.1 ∙ value) k) ∙ sym (input_by_bond sys s distinct legal i p.0 p.1 d);
    outputs = λ i d within.
        let x = slice_get-some outputs i (omega (arith, within, output_count)) in
        let index : 0 + i ≡ i = omega arith in
        has_at-some outputs i x.0 d x.1 ∙ are_outputs i x.0 x.1 d ∙ ap (λ j. is_output sys s j d) index;
    index = is_index;
    inexact = is_inexact;
    rival = is_rival;
  }
