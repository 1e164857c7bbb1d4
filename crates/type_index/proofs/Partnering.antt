-- The partners of a glue, pair by pair.
use Rattle.std.proofs.Common.{◌≡◌, ◌≢◌, ℕ, zero, suc, ◌+◌, ◌-◌, ◌<◌, ◌≤◌, ◌⊎◌, ◌==◌, ◌&&◌, ◌||◌, Bool, true, false, List, [], ◌∷◌, ◌++◌, length, take, drop, get_or, replicate, slice_get, slice_range, sym, subst, ap, ◌∙◌, refl, inl, inr, arith, tests, Some, zero-le, length-append, length-drop}
use Rattle.std.specs.Prelude.{slice_index}
use Rattle.std.proofs.lemmas.Bool.{cases_Bool, cases_eq}
use Rattle.std.proofs.lemmas.Bool.Decides.{eqb_tells}
use Rattle.std.proofs.lemmas.List.{drop-append-le, take-append-le, get_or-replicate, length-replicate}
use Rattle.std.proofs.Math.ListN.{get_or-append}
use Rattle.std.proofs.Math.Seq.{drop-append_seam, get_or-append_seam, take-length}
use Rattle.std.proofs.lemmas.Option.{same_Some}
use Rattle.atam.specs.declared.place.GlueId.{GlueId}
use Rattle.atam.specs.declared.place.GluePair.{GluePair}
use Rattle.atam.specs.TileSystem.{Glue, TileSystem, IsPair, is_pair_of}
use Rattle.type_index.specs.declared.glue_table.GlueKind.{GlueKind}
use Rattle.type_index.specs.declared.partners.Partner.{Partner}
use Rattle.type_index.specs.PairLinks.{HasGlue, PairsWithListed, is_listed}
use Rattle.type_index.specs.Partners.{ArePartners, pairs_with_listed, partner_in, partners_of}
use Rattle.type_index.proofs.PairOrders.{other_is}

-- the test tells which pairs are of the glue and one that has lists
pub tells : (kinds : List GlueKind) (g : GlueId) (p : GluePair) → PairsWithListed kinds g p → pairs_with_listed kinds g p ≡ true
tells kinds g p pairs = by p.first.0 p.second.0 g.0 (is_listed kinds p.second) (is_listed kinds p.first) pairs
  where
    by : (a b g : ℕ) (l m : Bool) → ((a ≡ g) × (l ≡ true)) ⊎ ((b ≡ g) × (m ≡ true)) → ((a == g && l) || (b == g && m)) ≡ true
    by a b g l m is = grind (arith, tests)

pub told : (kinds : List GlueKind) (g : GlueId) (p : GluePair) → pairs_with_listed kinds g p ≡ true → PairsWithListed kinds g p
told kinds g p is = by p.first.0 p.second.0 g.0 (is_listed kinds p.second) (is_listed kinds p.first) is
  where
    by : (a b g : ℕ) (l m : Bool) → ((a == g && l) || (b == g && m)) ≡ true → ((a ≡ g) × (l ≡ true)) ⊎ ((b ≡ g) × (m ≡ true))
    by a b g l m is = grind (arith, tests)

true_false : true ≡ false → ⊥
true_false both = cc

module _ (kinds : List GlueKind) (g : GlueId) where
  -- pairs that are not of the glue and one that has lists give no partners
  pub partners_passed : (pairs : List GluePair) (from to : ℕ) → from ≤ to → to ≤ length pairs →
      ((k : ℕ) (p : GluePair) → from ≤ k → k < to → slice_get pairs k ≡ Some p → ¬ PairsWithListed kinds g p) → partners_of kinds g (drop from pairs) ≡ partners_of kinds g (drop to pairs)
  partners_passed pairs zero zero up within none = refl
  partners_passed pairs (suc from) zero up within none = let never : ⊥ = omega (arith, up) in absurd never
  partners_passed [] zero (suc to) up within none = let never : ⊥ = omega (arith, within) in absurd never
  partners_passed [] (suc from) (suc to) up within none = refl
  partners_passed (p ∷ pairs) zero (suc to) up within none =
      let rest = partners_passed pairs zero to zero-le (omega (arith, within)) (λ k q later below there. none (suc k) q zero-le (omega (arith, below)) there) in
      elim (cases_Bool (pairs_with_listed kinds g p)) [
        | inl hit ↦ absurd (none zero p zero-le (omega arith) refl (told kinds g p hit))
        | inr miss ↦ rw miss rest
      ]
  partners_passed (p ∷ pairs) (suc from) (suc to) up within none =
      partners_passed pairs from to (omega (arith, up)) (omega (arith, within)) (λ k q later below there. none (suc k) q (omega (arith, later)) (omega (arith, below)) there)

  -- one that is gives the first of those from it on
  here : (pairs : List GluePair) (n : ℕ) (p : GluePair) → slice_get pairs n ≡ Some p → PairsWithListed kinds g p → partners_of kinds g (drop n pairs) ≡ partner_in g p ∷ partners_of kinds g (drop (suc n) pairs)
  here [] n p there is = let never : ⊥ = cc in absurd never
  here (q ∷ pairs) zero p there is =
      let opened : pairs_with_listed kinds g q ≡ true → partners_of kinds g (q ∷ pairs) ≡ partner_in g q ∷ partners_of kinds g pairs = λ hit. rw hit refl in
      let With : GluePair → Type 0 = λ r. PairsWithListed kinds g r in
      let Of : GluePair → Type 0 = λ r. partners_of kinds g (q ∷ pairs) ≡ partner_in g r ∷ partners_of kinds g pairs in
      subst Of (same_Some q p there) (opened (tells kinds g q (subst With (sym (same_Some q p there)) is)))
  here (q ∷ pairs) (suc n) p there is = here pairs n p there is

  pub partner_here : (pairs : List GluePair) (n : ℕ) (p : GluePair) → slice_get pairs n ≡ Some p → PairsWithListed kinds g p → partners_of kinds g (drop n pairs) ≡ partner_in g p ∷ partners_of kinds g (drop (n + 1) pairs)
  partner_here pairs n p there is =
      let one : suc n ≡ n + 1 = omega arith in
      here pairs n p there is ∙ ap (λ k. partner_in g p ∷ partners_of kinds g (drop k pairs)) one

  -- no glue has more partners than there are pairs
  pub partners_few : (pairs : List GluePair) → length (partners_of kinds g pairs) ≤ length pairs
  partners_few [] = zero-le
  partners_few (p ∷ pairs) =
      let rest = partners_few pairs in
      elim (cases_Bool (pairs_with_listed kinds g p)) [ inl hit ↦ rw hit (omega (arith, rest)) | inr miss ↦ rw miss (omega (arith, rest)) ]

-- Of the partners that the pairs from an index on give a glue, the first is that of the next pair, and the others those of the pairs behind it.
pub record IsPartnerAt (kinds : List GlueKind) (g : GlueId) (pairs : List GluePair) (from : ℕ) (q : Partner) (rest : List Partner) : Type 0 where
  pub at : ℕ
  pub pair : GluePair
  pub there : slice_get pairs at ≡ Some pair
  pub after : from ≤ at
  pub none_between : (k : ℕ) (p : GluePair) → from ≤ k → k < at → slice_get pairs k ≡ Some p → ¬ PairsWithListed kinds g p
  pub with : PairsWithListed kinds g pair
  pub same : partner_in g pair ≡ q
  pub others : partners_of kinds g (drop (suc at) pairs) ≡ rest

module _ (kinds : List GlueKind) (g : GlueId) where
  shifted : (p : GluePair) (pairs : List GluePair) (from next : ℕ) (q : Partner) (rest : List Partner) →
      ((r : GluePair) → from ≤ 0 → slice_get (p ∷ pairs) 0 ≡ Some r → ¬ PairsWithListed kinds g r) → from ≤ next + 1 → ((k : ℕ) → from ≤ suc k → next ≤ k) → IsPartnerAt kinds g pairs next q rest → IsPartnerAt kinds g (p ∷ pairs) from q rest
  shifted p pairs from next q rest first up down is = record {
    at = suc is.at;
    pair = is.pair;
    there = is.there;
    after = omega (arith, up, is.after);
    none_between = by;
    with = is.with;
    same = is.same;
    others = is.others;
  }
    where
      by : (k : ℕ) (r : GluePair) → from ≤ k → k < suc is.at → slice_get (p ∷ pairs) k ≡ Some r → ¬ PairsWithListed kinds g r
      by zero r later below there = first r later there
      by (suc k) r later below there = is.none_between k r (down k later) (omega (arith, below)) there

  pub partner_at : (pairs : List GluePair) (from : ℕ) (q : Partner) (rest : List Partner) → partners_of kinds g (drop from pairs) ≡ q ∷ rest → IsPartnerAt kinds g pairs from q rest
  partner_at [] zero q rest is = let never : ⊥ = cc in absurd never
  partner_at [] (suc from) q rest is = let never : ⊥ = cc in absurd never
  partner_at (p ∷ pairs) (suc from) q rest is =
      shifted p pairs (suc from) from q rest (λ r later there. absurd (omega (arith, later))) (omega arith) (λ k later. omega (arith, later)) (partner_at pairs from q rest is)
  partner_at (p ∷ pairs) zero q rest is = elim (cases_Bool (pairs_with_listed kinds g p)) [
    | inl hit ↦
        let opened : partners_of kinds g (p ∷ pairs) ≡ partner_in g p ∷ partners_of kinds g pairs = rw hit refl in
        let both : partner_in g p ∷ partners_of kinds g pairs ≡ q ∷ rest = sym opened ∙ is in
        record {
          at = 0;
          pair = p;
          there = refl;
          after = zero-le;
          none_between = λ k r later below there. absurd (omega (arith, below));
          with = told kinds g p hit;
          same = head_same both;
          others = tail_same both;
        }
    | inr miss ↦
        let opened : partners_of kinds g (p ∷ pairs) ≡ partners_of kinds g pairs = rw miss refl in
        let Lacks : GluePair → Type 0 = λ r. ¬ PairsWithListed kinds g r in
        let lacks : Lacks p = λ has. true_false (sym (tells kinds g p has) ∙ miss) in
        shifted p pairs zero zero q rest (λ r later there. subst Lacks (same_Some p r there) lacks) zero-le (λ k later. zero-le) (partner_at pairs zero q rest (sym opened ∙ is))
  ]
    where
      head_same : {a b : Partner} {xs ys : List Partner} → a ∷ xs ≡ b ∷ ys → a ≡ b
      head_same both = cc

      tail_same : {a b : Partner} {xs ys : List Partner} → a ∷ xs ≡ b ∷ ys → xs ≡ ys
      tail_same both = cc

  -- where they give none, none of them is of the glue and one that has lists
  pub partners_none : (pairs : List GluePair) (from k : ℕ) (p : GluePair) → partners_of kinds g (drop from pairs) ≡ [] → from ≤ k → slice_get pairs k ≡ Some p → ¬ PairsWithListed kinds g p
  partners_none [] from k p none later there has = cc
  partners_none (q ∷ pairs) (suc from) zero p none later there has = omega (arith, later)
  partners_none (q ∷ pairs) (suc from) (suc k) p none later there has = partners_none pairs from k p none (omega (arith, later)) there has
  partners_none (q ∷ pairs) zero k p none later there has = elim (cases_Bool (pairs_with_listed kinds g q)) [
    | inl hit ↦
        let opened : partners_of kinds g (q ∷ pairs) ≡ partner_in g q ∷ partners_of kinds g pairs = rw hit refl in
        some_none (sym opened ∙ none)
    | inr miss ↦
        let opened : partners_of kinds g (q ∷ pairs) ≡ partners_of kinds g pairs = rw miss refl in
        of_rest miss (λ j at. partners_none pairs zero j p (sym opened ∙ none) zero-le at has) k there
  ]
    where
      some_none : {a : Partner} {xs : List Partner} → a ∷ xs ≡ [] → ⊥
      some_none both = cc

      of_rest : pairs_with_listed kinds g q ≡ false → ((j : ℕ) → slice_get pairs j ≡ Some p → ⊥) → (k : ℕ) → slice_get (q ∷ pairs) k ≡ Some p → ⊥
      of_rest miss rest zero there =
          let With : GluePair → Type 0 = λ r. PairsWithListed kinds g r in
          true_false (sym (tells kinds g q (subst With (sym (same_Some q p there)) has)) ∙ miss)
      of_rest miss rest (suc k) there = rest k there

module _ (sys : TileSystem) (kinds : List GlueKind) where
  -- the partners of one glue more
  pub partners_next : (n : ℕ) (starts new_starts : List ℕ) (partners new_partners : List Partner) → ArePartners sys kinds n (record { starts = starts; partners = partners }) →
      new_partners ≡ partners ++ partners_of kinds (record { 0 = n }) sys.pairs → new_starts ≡ starts ++ length new_partners ∷ [] → ArePartners sys kinds (n + 1) (record { starts = new_starts; partners = new_partners })
  partners_next n starts new_starts partners new_partners are same_partners same_starts = record {
    ranges = record {
      count = ap length same_starts ∙ length-append starts (length new_partners ∷ []) ∙ omega (arith, count);
      ordered = λ g below. elim (cases_eq g n) [
        | inl same ↦ omega (arith, at_end g same, at_last (g + 1) (omega (arith, same)), more)
        | inr apart ↦ omega (arith, kept g (omega (arith, below)), kept (g + 1) (omega (arith, below, apart)), are.ranges.ordered g (omega (arith, below, apart)))
      ];
      within = λ g below. elim (cases_eq g n) [
        | inl same ↦ omega (arith, at_last (g + 1) (omega (arith, same)))
        | inr apart ↦ omega (arith, kept (g + 1) (omega (arith, below, apart)), are.ranges.within g (omega (arith, below, apart)), more)
      ];
    };
    end = at_last (n + 1) refl;
    each = λ g below. elim (cases_eq g.0 n) [
      | inl same ↦
          let Of : ℕ → Type 0 = λ k. slice_range new_partners (slice_index new_starts k) (slice_index new_starts (k + 1)) ≡ partners_of kinds (record { 0 = k }) sys.pairs in
          subst Of (sym same) here
      | inr apart ↦ before g (omega (arith, below, apart))
    ];
  }
    where
      own : List Partner
      own = partners_of kinds (record { 0 = n }) sys.pairs

      count : length starts ≡ n + 1
      count = are.ranges.count

      more : length new_partners ≡ length partners + length own
      more = ap length same_partners ∙ length-append partners own

      kept : (k : ℕ) → k < n + 1 → slice_index new_starts k ≡ slice_index starts k
      kept k below = ap (λ s. get_or s k 0) same_starts ∙ get_or-append starts (length new_partners ∷ []) 0 k (omega (arith, below, count))

      at_end : (k : ℕ) → k ≡ n → slice_index new_starts k ≡ length partners
      at_end k same = kept k (omega (arith, same)) ∙ ap (λ j. slice_index starts j) same ∙ are.end

      at_last : (k : ℕ) → k ≡ n + 1 → slice_index new_starts k ≡ length new_partners
      at_last k same = ap (λ j. slice_index new_starts j) (same ∙ sym count) ∙ ap (λ s. get_or s (length starts) 0) same_starts ∙ get_or-append_seam starts (length new_partners) [] 0

      range_of : (a b c d : ℕ) (xs ys : List Partner) → xs ≡ ys → a ≡ c → b ≡ d → slice_range xs a b ≡ slice_range ys c d
      range_of a b c d xs ys same start end = rw (same, start, end) refl

      range_last : (xs ys : List Partner) → slice_range (xs ++ ys) (length xs) (length xs + length ys) ≡ ys
      range_last xs ys =
          let size : length xs + length ys - length xs ≡ length ys = omega arith in
          ap (λ k. take k (drop (length xs) (xs ++ ys))) size ∙ ap (λ l. take (length ys) l) (drop-append_seam xs ys) ∙ take-length ys

      range_kept : (a b : ℕ) (xs ys : List Partner) → a ≤ b → b ≤ length xs → slice_range (xs ++ ys) a b ≡ slice_range xs a b
      range_kept a b xs ys up within =
          ap (λ l. take (b - a) l) (drop-append-le a xs ys (omega (arith, up, within))) ∙ take-append-le (b - a) (drop a xs) ys (omega (arith, up, within, length-drop a xs))

      here : slice_range new_partners (slice_index new_starts n) (slice_index new_starts (n + 1)) ≡ own
      here = range_of _ _ _ _ new_partners (partners ++ own) same_partners (at_end n refl) (at_last (n + 1) refl ∙ more) ∙ range_last partners own

      before : (g : GlueId) → g.0 < n → slice_range new_partners (slice_index new_starts g.0) (slice_index new_starts (g.0 + 1)) ≡ partners_of kinds g sys.pairs
      before g below =
          range_of _ _ _ _ new_partners (partners ++ own) same_partners (kept g.0 (omega (arith, below))) (kept (g.0 + 1) (omega (arith, below)))
          ∙ range_kept _ _ partners own (are.ranges.ordered g.0 below) (are.ranges.within g.0 below) ∙ are.each g below

  -- where no glues are paired
  pub partners_unpaired : (count : ℕ) (starts : List ℕ) (partners : List Partner) → sys.pairs ≡ [] → starts ≡ replicate (count + 1) 0 → partners ≡ [] → ArePartners sys kinds count (record { starts = starts; partners = partners })
  partners_unpaired count starts partners none zeros empty = record {
    ranges = record {
      count = ap length zeros ∙ length-replicate (count + 1) 0;
      ordered = λ g below. omega (arith, zero_at g (omega (arith, below)), zero_at (g + 1) (omega (arith, below)));
      within = λ g below. omega (arith, zero_at (g + 1) (omega (arith, below)));
    };
    end = zero_at count (omega arith) ∙ sym (ap length empty);
    each = λ g below. empty_range _ _ (zero_at g.0 (omega (arith, below))) (zero_at (g.0 + 1) (omega (arith, below))) ∙ sym (ap (λ ps. partners_of kinds g ps) none);
  }
    where
      zero_at : (k : ℕ) → k < count + 1 → slice_index starts k ≡ 0
      zero_at k below = ap (λ s. get_or s k 0) zeros ∙ get_or-replicate (count + 1) k 0 0 below

      empty_range : (a b : ℕ) → a ≡ 0 → b ≡ 0 → slice_range partners a b ≡ []
      empty_range a b start end = rw (empty, start, end) refl

-- the partner that a pair gives one of its glues is the other one
pub partner_is : (g : GlueId) (p : GluePair) → HasGlue g p → p.first.0 ≢ p.second.0 → ((partner_in g p).glue.0 ≢ g.0) × (is_pair_of p g (partner_in g p).glue ≡ true)
partner_is g p has unlike =
    let Is : GlueId → Type 0 = λ h. (h.0 ≢ g.0) × (is_pair_of p g h ≡ true) in
    let other = other_is p.first.0 p.second.0 g.0 has unlike in
    elim (eqb_tells p.first.0 g.0) [
      | inl same ↦ let chosen : p.second ≡ (partner_in g p).glue = rw same.0 refl in subst Is chosen (other.0 same.1)
      | inr differ ↦ let chosen : p.first ≡ (partner_in g p).glue = rw differ.0 refl in subst Is chosen (differ.1, other.1 differ.1)
    ]

pub partner_glue : (glues : List Glue) (g : GlueId) (p : GluePair) → IsPair glues p → (partner_in g p).glue.0 < length glues
partner_glue glues g p is =
    let Known : GlueId → Type 0 = λ h. h.0 < length glues in
    elim (eqb_tells p.first.0 g.0) [
      | inl same ↦ let chosen : p.second ≡ (partner_in g p).glue = rw same.0 refl in subst Known chosen is.second
      | inr differ ↦ let chosen : p.first ≡ (partner_in g p).glue = rw differ.0 refl in subst Known chosen is.first
    ]
