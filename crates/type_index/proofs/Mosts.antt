-- The greatest strength with which any glue interacts with each, and the kinds of glues.
use Rattle.std.proofs.Common.{◌≡◌, ℕ, zero, suc, Bool, true, false, length-set, ◌<◌, ◌≤◌, ◌⊎◌, max, List, [], ◌∷◌, ◌++◌, length, replicate, get_or, set, slice_get, sym, subst, ap, ◌∙◌, refl, inl, inr, arith, Some, get_or-set_same, get_or-set_other}
use Rattle.std.proofs.lemmas.Bool.{cases_eq}
use Rattle.std.proofs.lemmas.List.{get_or-replicate, length-replicate}
use Rattle.std.proofs.lemmas.Option.{get_or_from_slice_get, same_Some, slice_get_within}
use Rattle.atam.specs.declared.place.GlueId.{GlueId}
use Rattle.atam.specs.declared.place.GluePair.{GluePair}
use Rattle.type_index.specs.declared.glue_table.GlueKind.{GlueKind}
use Rattle.type_index.specs.declared.glue_table.GlueKind.TheVariants.{Alone, Listed}
use Rattle.atam.specs.TileSystem.{TileSystem}
use Rattle.type_index.specs.Indexes.{AreKindsOf, IsLone}
use Rattle.type_index.specs.PairLinks.{ArePaired, HasGlue}
use Rattle.type_index.proofs.Cursors.{lone_unpaired, lone_where_lacking}

abbrev pub raised : List ℕ → ℕ → ℕ → List ℕ
raised mosts g strength = set mosts g (max (get_or mosts g 0) strength)

module _ (mosts : List ℕ) (g strength : ℕ) (within : g < length mosts) where
  pub raised_there : (max (get_or mosts g 0) strength) ≡ get_or (raised mosts g strength) g 0
  raised_there = sym (get_or-set_same mosts g (max (get_or mosts g 0) strength) 0 within)

  -- no number falls
  pub raised_keeps : (k : ℕ) → get_or mosts k 0 ≤ get_or (raised mosts g strength) k 0
  raised_keeps k = elim (cases_eq k g) [
    | inl same ↦
        let Kept : ℕ → Type 0 = λ n. get_or mosts n 0 ≤ get_or (raised mosts g strength) n 0 in
        subst Kept (sym same) (omega (arith, raised_there))
    | inr apart ↦ omega (arith, get_or-set_other mosts g k (max (get_or mosts g 0) strength) 0 apart)
  ]

  pub raised_bound : (k most : ℕ) → get_or mosts k 0 ≤ most → strength ≤ most → get_or (raised mosts g strength) k 0 ≤ most
  raised_bound k most before weak = elim (cases_eq k g) [
    | inl same ↦
        let Bound : ℕ → Type 0 = λ n. get_or (raised mosts g strength) n 0 ≤ most in
        let Before : ℕ → Type 0 = λ n. get_or mosts n 0 ≤ most in
        let here = subst Before same before in
        subst Bound (sym same) (omega (arith, raised_there, here, weak))
    | inr apart ↦ omega (arith, before, get_or-set_other mosts g k (max (get_or mosts g 0) strength) 0 apart)
  ]

  pub raised_here : (k : ℕ) → g ≡ k → strength ≤ get_or (raised mosts g strength) k 0
  raised_here k same =
      let Here : ℕ → Type 0 = λ n. strength ≤ get_or (raised mosts g strength) n 0 in
      subst Here same (omega (arith, raised_there))

-- an element of a list with one more is one of the list, or the last
pub last_or_before : {X : Type 0} (xs : List X) (x y : X) (k : ℕ) → slice_get (xs ++ x ∷ []) k ≡ Some y → (slice_get xs k ≡ Some y) ⊎ ((k ≡ length xs) × (x ≡ y))
last_or_before [] x y zero at = inr (refl, same_Some x y at)
last_or_before [] x y (suc k) at = let never : ⊥ = cc in absurd never
last_or_before (z ∷ xs) x y zero at = inl at
last_or_before (z ∷ xs) x y (suc k) at = elim (last_or_before xs x y k at) [ inl before ↦ inl before | inr last ↦ inr (ap suc last.0, last.1) ]

same_kind : Alone ≡ Listed → ⊥
same_kind both = cc

-- without pairs each glue is alone
pub kinds_alone : (sys : TileSystem) (kinds : List GlueKind) → length sys.pairs ≡ 0 → kinds ≡ replicate (length sys.glues) Alone → AreKindsOf sys kinds
kinds_alone sys kinds none same =
    let Is : List GlueKind → Type 0 = λ ks. AreKindsOf sys ks in
    subst Is (sym same) (record {
      count = length-replicate (length sys.glues) Alone;
      lone = λ g is. lone_unpaired sys g none;
      unpaired = λ none g is.
          let all = replicate (length sys.glues) Alone in
          let within : g.0 < length sys.glues = omega (arith, slice_get_within all g.0 Listed is, length-replicate (length sys.glues) Alone) in
          same_kind (sym (get_or-replicate (length sys.glues) g.0 Alone Listed within) ∙ get_or_from_slice_get all g.0 Listed Listed is);
    })

-- one kind more
pub kinds_more : (sys : TileSystem) (kinds : List GlueKind) (kind : GlueKind) (n : ℕ) → length kinds ≡ n → (kind ≡ Alone → IsLone sys (record { 0 = n })) → ((g : GlueId) → slice_get kinds g.0 ≡ Some Alone → IsLone sys g) →
    (g : GlueId) → slice_get (kinds ++ kind ∷ []) g.0 ≡ Some Alone → IsLone sys g
kinds_more sys kinds kind n count here before g is = elim (last_or_before kinds kind Alone g.0 is) [
  | inl earlier ↦ before g earlier
  | inr last ↦
      let Lone : ℕ → Type 0 = λ k. IsLone sys (record { 0 = k }) in
      let at : n ≡ g.0 = omega (arith, count, last.0) in
      subst Lone at (here last.1)
]

-- a mark that is set stays
pub mark_kept : (marks : List Bool) (i j : ℕ) → slice_get marks j ≡ Some true → slice_get (set marks i true) j ≡ Some true
mark_kept [] i j there = let never : ⊥ = cc in absurd never
mark_kept (m ∷ marks) zero zero there = refl
mark_kept (m ∷ marks) zero (suc j) there = there
mark_kept (m ∷ marks) (suc i) zero there = there
mark_kept (m ∷ marks) (suc i) (suc j) there = mark_kept marks i j there

mark_new : (marks : List Bool) (i : ℕ) → i < length marks → slice_get (set marks i true) i ≡ Some true
mark_new [] i within = let never : ⊥ = omega (arith, within) in absurd never
mark_new (m ∷ marks) zero within = refl
mark_new (m ∷ marks) (suc i) within = mark_new marks i (omega (arith, within))

-- both glues of a pair are marked
pub marked_both : (marks : List Bool) (p : GluePair) (g : GlueId) → p.first.0 < length marks → p.second.0 < length marks → HasGlue g p → slice_get (set (set marks p.first.0 true) p.second.0 true) g.0 ≡ Some true
marked_both marks p g first second (inl same) =
    let At : ℕ → Type 0 = λ n. slice_get (set marks p.first.0 true) n ≡ Some true in
    mark_kept (set marks p.first.0 true) p.second.0 g.0 (subst At same (mark_new marks p.first.0 first))
marked_both marks p g first second (inr same) =
    let At : ℕ → Type 0 = λ n. slice_get (set (set marks p.first.0 true) p.second.0 true) n ≡ Some true in
    subst At same (mark_new (set marks p.first.0 true) p.second.0 (omega (arith, second, length-set marks p.first.0 true)))

-- a glue without a mark is of no pair
pub lone_unmarked : (sys : TileSystem) (marks : List Bool) (g : GlueId) → ArePaired sys marks → slice_get marks g.0 ≡ Some false → IsLone sys g
lone_unmarked sys marks g paired bare = lone_where_lacking sys g (λ k p there. ((λ same. never (paired.each g k p there (inl same))), (λ same. never (paired.each g k p there (inr same)))))
  where
    never : slice_get marks g.0 ≡ Some true → ⊥
    never marked = cc
