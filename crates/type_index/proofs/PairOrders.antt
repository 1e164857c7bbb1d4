-- The pairs that have a glue, one behind the other.
use Rattle.std.proofs.Common.{◌≡◌, ◌≢◌, ℕ, ◌+◌, ◌<◌, ◌≤◌, ◌⊎◌, List, All, length, length-set, get_or, set, slice_get, sym, subst, ap, ◌∙◌, refl, inl, inr, arith, Some, true, false, ◌==◌, ◌&&◌, ◌||◌, tests, get_or-set_same, get_or-set_other}
use Rattle.std.specs.Prelude.{Bool, slice_index, if◌then◌else◌}
use Rattle.std.proofs.lemmas.Bool.{cases_eq}
use Rattle.std.proofs.lemmas.Option.{same_Some, slice_get-get_or, slice_get_within}
use Rattle.atam.specs.declared.place.GlueId.{GlueId}
use Rattle.atam.specs.declared.place.GluePair.{GluePair}
use Rattle.atam.specs.TileSystem.{TileSystem, IsPair, is_pair_of}
use Rattle.atam.proofs.Lists.{All-slice_get}
use Rattle.type_index.specs.declared.glue_table.GlueKind.{GlueKind}
use Rattle.type_index.specs.declared.glue_table.GlueKind.TheVariants.{Listed}
use Rattle.type_index.specs.PairLinks.{HasGlue, PairsWithListed, is_known_list_kind, is_listed, IsNextPair, PairOrder, ArePairLinks}
use Rattle.type_index.specs.Inner.Linking.{PutsPair, linked}

-- an element that is read
pub pair_there : (read all : List GluePair) (n count : ℕ) (d : GluePair) → read ≡ all → count ≡ length all → n < count → slice_get all n ≡ Some (get_or read n d)
pair_there read all n count d same counted below =
    let There : List GluePair → Type 0 = λ pairs. slice_get pairs n ≡ Some (get_or read n d) in
    subst There same (slice_get-get_or read n d (omega (arith, counted, below, ap length same)))

-- and it is a pair of glues of the system
pub pair_is : (sys : TileSystem) (read : List GluePair) (n : ℕ) (p : GluePair) → read ≡ sys.pairs → All (IsPair sys.glues) read → slice_get sys.pairs n ≡ Some p → IsPair sys.glues p
pair_is sys read n p same each there = All-slice_get (IsPair sys.glues) sys.pairs n p (subst (All (IsPair sys.glues)) same each) there

true_false : true ≡ false → ⊥
true_false both = cc

-- a pair of a glue and one that has lists has the glue
pub has_glue : (kinds : List GlueKind) (g : GlueId) (p : GluePair) → PairsWithListed kinds g p → HasGlue g p
has_glue kinds g p (inl first) = inl first.0
has_glue kinds g p (inr second) = inr second.0

-- and each pair of the two is one
pub pairs_with : (kinds : List GlueKind) (p : GluePair) (g h : GlueId) → slice_get kinds h.0 ≡ Some Listed → is_pair_of p g h ≡ true → PairsWithListed kinds g p
pairs_with kinds p g h listed of_both =
    let At : ℕ → Type 0 = λ n. is_known_list_kind (slice_get kinds n) ≡ true in
    let is : At h.0 = ap is_known_list_kind listed in
    elim (sides p.first.0 p.second.0 g.0 h.0 of_both) [
      | inl first ↦ inl (first.0, subst At (sym first.1) is)
      | inr second ↦ inr (second.0, subst At (sym second.1) is)
    ]
  where
    sides : (a b g h : ℕ) → ((a == g && b == h) || (a == h && b == g)) ≡ true → ((a ≡ g) × (b ≡ h)) ⊎ ((b ≡ g) × (a ≡ h))
    sides a b g h hit = grind (arith, tests)

-- past the last pair there is none
none_past : (pairs : List GluePair) (p : GluePair) (k : ℕ) → length pairs ≤ k → slice_get pairs k ≡ Some p → ⊥
none_past pairs p k past there = omega (arith, past, slice_get_within pairs k p there)

next_none : (pairs : List GluePair) (kinds : List GlueKind) (g : GlueId) (from found : ℕ) → from ≡ length pairs → found ≡ length pairs → IsNextPair pairs kinds g from found
next_none pairs kinds g from found all end = record {
  after = omega (arith, all, end);
  within = omega (arith, end);
  none_between = λ k p later below there. absurd (omega (arith, later, below, all, end));
  here = λ p there. absurd (none_past pairs p found (omega (arith, end)) there);
}

module _ (pairs : List GluePair) (kinds : List GlueKind) (k : ℕ) (p : GluePair) (there : slice_get pairs k ≡ Some p) where
  -- a pair that is not of the glue and one that has lists is none of its list
  next_kept : (g : GlueId) (found : ℕ) → ¬ PairsWithListed kinds g p → IsNextPair pairs kinds g (k + 1) found → IsNextPair pairs kinds g k found
  next_kept g found lacks next = record {
    after = omega (arith, next.after);
    within = next.within;
    none_between = λ j q later below at. elim (cases_eq j k) [
      | inl same ↦
          let At : ℕ → Type 0 = λ n. slice_get pairs n ≡ Some q in
          let Lacks : GluePair → Type 0 = λ r. ¬ PairsWithListed kinds g r in
          subst Lacks (same_Some p q (sym there ∙ subst At same at)) lacks
      | inr apart ↦ next.none_between j q (omega (arith, later, apart)) below at
    ];
    here = next.here;
  }

  -- one that is of them is the first of those from it on
  next_here : (g : GlueId) → PairsWithListed kinds g p → IsNextPair pairs kinds g k k
  next_here g has = record {
    after = omega arith;
    within = omega (arith, slice_get_within pairs k p there);
    none_between = λ j q later below at. absurd (omega (arith, later, below));
    here = λ q at. subst (PairsWithListed kinds g) (same_Some p q (sym there ∙ at)) has;
  }

-- what the list of first pairs has at a glue, where a pair may be put first for one glue
linked_at : (listed : Bool) (first : List ℕ) (g h k : ℕ) → g < length first →
    ((g ≡ h) × ((listed ≡ true) × (get_or (if listed then set first g k else first) h 0 ≡ k))) ⊎ (((g ≡ h) → listed ≡ false) × (get_or (if listed then set first g k else first) h 0 ≡ get_or first h 0))
linked_at true first g h k within = elim (cases_eq h g) [
  | inl same ↦
      let At : ℕ → Type 0 = λ n. get_or (set first g k) n 0 ≡ k in
      inl (sym same, (refl, subst At (sym same) (get_or-set_same first g k 0 within)))
  | inr apart ↦ inr ((λ same. absurd (apart (sym same))), get_or-set_other first g h k 0 apart)
]
linked_at false first g h k within = inr ((λ same. refl), refl)

linked_length : (listed : Bool) (first : List ℕ) (g k : ℕ) → length (if listed then set first g k else first) ≡ length first
linked_length true first g k = length-set first g k
linked_length false first g k = refl

module _ (sys : TileSystem) (kinds : List GlueKind) (k : ℕ) (p : GluePair) (there : slice_get sys.pairs k ≡ Some p) (is : IsPair sys.glues p) where
  -- the pair is first for each of its glues that it pairs with one that has lists
  first_put : (first : List ℕ) → length first ≡ length sys.glues → ((g : GlueId) → g.0 < length sys.glues → IsNextPair sys.pairs kinds g (k + 1) (slice_index first g.0)) → (h : GlueId) → h.0 < length sys.glues →
      IsNextPair sys.pairs kinds h k (get_or (linked kinds p.second p.first k (linked kinds p.first p.second k first)) h.0 0)
  first_put first count before h known =
      let once : List ℕ = linked kinds p.first p.second k first in
      let Next : ℕ → Type 0 = λ n. IsNextPair sys.pairs kinds h k n in
      let first_known : p.first.0 < length first = omega (arith, count, is.first) in
      let second_known : p.second.0 < length once = omega (arith, count, is.second, linked_length (is_listed kinds p.second) first p.first.0 k) in
      elim (linked_at (is_listed kinds p.first) once p.second.0 h.0 k second_known) [
        | inl hit ↦ subst Next (sym hit.1.1) (next_here sys.pairs kinds k p there h (inr (hit.0, hit.1.0)))
        | inr miss ↦ elim (linked_at (is_listed kinds p.second) first p.first.0 h.0 k first_known) [
          | inl hit ↦ subst Next (sym (miss.1 ∙ hit.1.1)) (next_here sys.pairs kinds k p there h (inl (hit.0, hit.1.0)))
          | inr also ↦
              let lacks : ¬ PairsWithListed kinds h p = λ pairs. elim pairs [
                | inl of_first ↦ true_false (sym of_first.1 ∙ also.0 of_first.0)
                | inr of_second ↦ true_false (sym of_second.1 ∙ miss.0 of_second.0)
              ] in
              subst Next (sym (miss.1 ∙ also.1)) (next_kept sys.pairs kinds k p there h _ lacks (before h known))
        ]
      ]

  pub links_put : (old new : PairOrder) → ArePairLinks sys kinds (k + 1) old → PutsPair kinds k p old new → ArePairLinks sys kinds k new
  links_put old new links puts =
      let a = p.first.0 in
      let b = p.second.0 in
      let below = slice_get_within sys.pairs k p there in
      let in_firsts : k < length old.behind_first = omega (arith, links.room.firsts, below) in
      let in_seconds : k < length old.behind_second = omega (arith, links.room.seconds, below) in
      subst (ArePairLinks sys kinds k) (sym puts) (record {
        room = record {
          glues = linked_length (is_listed kinds p.first) (linked kinds p.first p.second k old.first) b k ∙ linked_length (is_listed kinds p.second) old.first a k ∙ links.room.glues;
          firsts = length-set old.behind_first k _ ∙ links.room.firsts;
          seconds = length-set old.behind_second k _ ∙ links.room.seconds;
        };
        first = first_put old.first links.room.glues links.first;
        behind_first = λ j q later at. elim (cases_eq j k) [
          | inl same ↦
              let At : ℕ → Type 0 = λ n. slice_get sys.pairs n ≡ Some q in
              let p_is_q = same_Some p q (sym there ∙ subst At same at) in
              let Next : ℕ → Type 0 = λ n. IsNextPair sys.pairs kinds q.first (n + 1) (get_or (set old.behind_first k (get_or old.first a 0)) n 0) in
              let Of : GluePair → Type 0 = λ r. IsNextPair sys.pairs kinds r.first (k + 1) (get_or old.first a 0) in
              subst Next (sym same) (rw (get_or-set_same old.behind_first k (get_or old.first a 0) 0 in_firsts) (subst Of p_is_q (links.first p.first is.first)))
          | inr apart ↦ rw (get_or-set_other old.behind_first k j (get_or old.first a 0) 0 apart) (links.behind_first j q (omega (arith, later, apart)) at)
        ];
        behind_second = λ j q later at. elim (cases_eq j k) [
          | inl same ↦
              let At : ℕ → Type 0 = λ n. slice_get sys.pairs n ≡ Some q in
              let p_is_q = same_Some p q (sym there ∙ subst At same at) in
              let Next : ℕ → Type 0 = λ n. IsNextPair sys.pairs kinds q.second (n + 1) (get_or (set old.behind_second k (get_or old.first b 0)) n 0) in
              let Of : GluePair → Type 0 = λ r. IsNextPair sys.pairs kinds r.second (k + 1) (get_or old.first b 0) in
              subst Next (sym same) (rw (get_or-set_same old.behind_second k (get_or old.first b 0) 0 in_seconds) (subst Of p_is_q (links.first p.second is.second)))
          | inr apart ↦ rw (get_or-set_other old.behind_second k j (get_or old.first b 0) 0 apart) (links.behind_second j q (omega (arith, later, apart)) at)
        ];
      })

-- before any pair is put
pub links_none : (sys : TileSystem) (kinds : List GlueKind) (from : ℕ) (links : PairOrder) → from ≡ length sys.pairs → length links.first ≡ length sys.glues → length links.behind_first ≡ length sys.pairs → length links.behind_second ≡ length sys.pairs →
    ((g : ℕ) → g < length sys.glues → slice_index links.first g ≡ length sys.pairs) → ArePairLinks sys kinds from links
links_none sys kinds from links all glues firsts seconds fresh = record {
  room = record { glues = glues; firsts = firsts; seconds = seconds };
  first = λ g known. next_none sys.pairs kinds g from _ all (fresh g.0 known);
  behind_first = λ k p later there. absurd (none_past sys.pairs p k (omega (arith, all, later)) there);
  behind_second = λ k p later there. absurd (none_past sys.pairs p k (omega (arith, all, later)) there);
}

-- a pair is of one of its glues and the other one
pub other_is : (a b g : ℕ) → (a ≡ g) ⊎ (b ≡ g) → a ≢ b → ((a ≡ g) → (b ≢ g) × (((a == g && b == b) || (a == b && b == g)) ≡ true)) × ((a ≢ g) → ((a == g && b == a) || (a == a && b == g)) ≡ true)
other_is a b g has unlike = ((λ same. ((λ also. unlike (same ∙ sym also)), first_hit a b g same)), (λ apart. elim has [ inl same ↦ absurd (apart same) | inr same ↦ second_hit a b g same ]))
  where
    first_hit : (a b g : ℕ) → a ≡ g → ((a == g && b == b) || (a == b && b == g)) ≡ true
    first_hit a b g same = grind (arith, tests)

    second_hit : (a b g : ℕ) → b ≡ g → ((a == g && b == a) || (a == a && b == g)) ≡ true
    second_hit a b g same = grind (arith, tests)
