-- The lists of the types that interact with a glue on a side.
use Rattle.std.proofs.Common.{◌≡◌, ◌≢◌, ℕ, zero, suc, true, false, ◌+◌, ◌<◌, ◌≤◌, ◌⊎◌, ◌==◌, ◌&&◌, ◌||◌, List, [], ◌∷◌, ◌++◌, AllPairs, drop, length, length-set, get_or, set, Option, None, IfSome, slice_get, sym, subst, ap, ◌∙◌, refl, inl, inr, arith, tests, Some, zero-le, get_or-set_same, get_or-set_other}
use Rattle.std.specs.Prelude.{slice_index}
use Rattle.std.proofs.lemmas.Bool.{cases_Bool, cases_eq, cases_lt}
use Rattle.std.proofs.Math.ListN.{get_or-append}
use Rattle.std.proofs.Math.Seq.{drop-cons, get_or-append_seam}
use Rattle.std.proofs.lemmas.Option.{same_Some, slice_get-get_or, slice_get_within, get_or_from_slice_get}
use Rattle.atam.specs.declared.limits.TheConstants.{MOST_STRENGTH}
use Rattle.atam.specs.declared.site.Side.{Side}
use Rattle.atam.specs.declared.place.GlueId.{GlueId}
use Rattle.atam.specs.declared.place.GluePair.{GluePair}
use Rattle.atam.specs.declared.place.TypeId.{TypeId}
use Rattle.atam.specs.TileSystem.{TileSystem, IsPair, IsType, IsValid, is_pair_of, pair_strength, side_glue, strength_between, strength_of}
use Rattle.atam.specs.Assembly.{interaction}
use Rattle.atam.proofs.Lists.{All-slice_get}
use Rattle.atam.proofs.Systems.{side_glue-in_range}
use Rattle.type_index.specs.declared.glue_table.GlueKind.{GlueKind}
use Rattle.type_index.specs.declared.glue_table.GlueKind.TheVariants.{Listed}
use Rattle.type_index.specs.declared.meeting_lists.Meeting.{Meeting}
use Rattle.type_index.specs.Meetings.{NoneMeets, Leads, ends, leads, MeetingOrder, AreMeetings}
use Rattle.type_index.specs.declared.partners.Partner.{Partner}
use Rattle.type_index.specs.PairLinks.{PairsWithListed}
use Rattle.type_index.specs.Partners.{partner_in, partners_of}
use Rattle.type_index.specs.Inner.Linking.{HasNoMeetings, PutsMeeting, TakesPlace}
use Rattle.type_index.specs.declared.cursor.Cursor.{Cursor}
use Rattle.type_index.specs.Inner.Cursors.{IsCursor}
use Rattle.type_index.proofs.PairOrders.{has_glue, pairs_with}
use Rattle.type_index.proofs.Partnering.{IsPartnerAt, partner_at, partner_glue, partner_is, partners_none}
use Rattle.type_index.proofs.Cursors.{between_pair, between_same, cursor_met, interaction_within}

-- a list with one more element has all that it had, and the new one at its end
kept_append : {X : Type 0} (xs ys : List X) (k : ℕ) (x : X) → slice_get xs k ≡ Some x → slice_get (xs ++ ys) k ≡ Some x
kept_append [] ys k x there = let never : ⊥ = cc in absurd never
kept_append (y ∷ xs) ys zero x there = there
kept_append (y ∷ xs) ys (suc k) x there = kept_append xs ys k x there

last_append : {X : Type 0} (xs : List X) (x : X) → slice_get (xs ++ x ∷ []) (length xs) ≡ Some x
last_append [] x = refl
last_append (y ∷ xs) x = last_append xs x

-- a list with another element in one of its places has all else that it had, and the new one there
kept_set : {X : Type 0} (xs : List X) (place k : ℕ) (x y : X) → slice_get xs k ≡ Some x → k ≢ place → slice_get (set xs place y) k ≡ Some x
kept_set [] place k x y there apart = let never : ⊥ = cc in absurd never
kept_set (z ∷ xs) zero zero x y there apart = absurd (apart refl)
kept_set (z ∷ xs) zero (suc k) x y there apart = there
kept_set (z ∷ xs) (suc place) zero x y there apart = there
kept_set (z ∷ xs) (suc place) (suc k) x y there apart = kept_set xs place k x y there (λ same. apart (ap suc same))

new_set : {X : Type 0} (xs : List X) (place : ℕ) (x y : X) → slice_get xs place ≡ Some x → slice_get (set xs place y) place ≡ Some y
new_set [] place x y there = let never : ⊥ = cc in absurd never
new_set (z ∷ xs) zero x y there = refl
new_set (z ∷ xs) (suc place) x y there = new_set xs place x y there

module _ (old new : List Meeting) (place : ℕ) (m : Meeting) (takes : TakesPlace old place m new) where
  -- the type is in its place
  new_taken : slice_get new place ≡ Some m
  new_taken =
      let At : List Meeting → Type 0 = λ ms. slice_get ms place ≡ Some m in
      let Last : ℕ → Type 0 = λ k. slice_get (old ++ m ∷ []) k ≡ Some m in
      elim takes [
        | inl free ↦ subst At (sym free.1) (new_set old place free.0.meeting m free.0.there)
        | inr end ↦ subst At (sym end.1) (subst Last (sym end.0) (last_append old m))
      ]

  -- and each place that was not free has what it had
  kept_taken : (k : ℕ) (n : Meeting) → n.tile ≢ 65535 → slice_get old k ≡ Some n → slice_get new k ≡ Some n
  kept_taken k n full there =
      let At : List Meeting → Type 0 = λ ms. slice_get ms k ≡ Some n in
      elim takes [
        | inl free ↦
            let Full : ℕ → Type 0 = λ j. slice_get old j ≡ Some n in
            let apart : k ≢ place = λ same. full (ap (λ f. f.tile) (same_Some n free.0.meeting (sym (subst Full same there) ∙ free.0.there)) ∙ free.0.free) in
            subst At (sym free.1) (kept_set old place k n m there apart)
        | inr end ↦ subst At (sym end.1) (kept_append old (m ∷ []) k n there)
      ]

module _ (sys : TileSystem) (d : Side) (g : GlueId) where
  -- a type that comes into a place changes no list
  pub leads_taken : (old new : List Meeting) (place : ℕ) (m : Meeting) (from at : ℕ) → length sys.types < 65535 → TakesPlace old place m new → Leads sys d g old from at → Leads sys d g new from at
  leads_taken old new place m _ _ few takes (ends from at n there after end weak none) =
      ends from at n (kept_taken old new place m takes at n (λ free. omega (arith, few, end, free)) there) after end weak none
  leads_taken old new place m _ _ few takes (leads from at n there after within strength none next) =
      leads from at n (kept_taken old new place m takes at n (λ free. omega (arith, few, within, free)) there) after within strength none (leads_taken old new place m _ _ few takes next)

  -- nor does a type that doesn't interact
  none_more : (from to : ℕ) → interaction sys (side_glue sys (record { 0 = from }) d) (Some g) ≡ 0 → NoneMeets sys d g (from + 1) to → NoneMeets sys d g from to
  none_more from to here none t later below = elim (cases_eq t.0 from) [
    | inl same ↦
        let None_at : ℕ → Type 0 = λ k. interaction sys (side_glue sys (record { 0 = k }) d) (Some g) ≡ 0 in
        subst None_at (sym same) here
    | inr apart ↦ none t (omega (arith, later, apart)) below
  ]

  pub leads_kept : (meetings : List Meeting) (t after_t place : ℕ) → after_t ≡ t + 1 → interaction sys (side_glue sys (record { 0 = t }) d) (Some g) ≡ 0 → Leads sys d g meetings after_t place → Leads sys d g meetings t place
  leads_kept meetings t _ _ next here (ends from place m there after end weak none) =
      let None : ℕ → Type 0 = λ n. NoneMeets sys d g n m.tile in
      ends t place m there (omega (arith, after, next)) end weak (none_more t m.tile here (subst None next none))
  leads_kept meetings t _ _ next here (leads from place m there after within strength none on) =
      let None : ℕ → Type 0 = λ n. NoneMeets sys d g n m.tile in
      leads t place m there (omega (arith, after, next)) within strength (none_more t m.tile here (subst None next none)) on

  -- the place is there
  pub leads_within : (meetings : List Meeting) (from place : ℕ) → Leads sys d g meetings from place → place < length meetings
  leads_within meetings _ _ (ends from place m there after end weak none) = slice_get_within meetings place m there
  leads_within meetings _ _ (leads from place m there after within strength none next) = slice_get_within meetings place m there

  -- what is at the place
  pub record IsAtPlace (meetings : List Meeting) (from : ℕ) (m : Meeting) : Type 0 where
    pub after : from ≤ m.tile
    pub within : m.tile ≤ length sys.types
    pub strength : m.tile < length sys.types → m.strength ≡ interaction sys (side_glue sys (record { 0 = m.tile }) d) (Some g)
    pub weak : length sys.types ≤ m.tile → m.strength ≡ 0
    pub none : NoneMeets sys d g from m.tile
    pub next : m.tile < length sys.types → Leads sys d g meetings (m.tile + 1) m.next

  pub leads_to : (meetings : List Meeting) (from place : ℕ) (m : Meeting) → slice_get meetings place ≡ Some m → Leads sys d g meetings from place → IsAtPlace meetings from m
  leads_to meetings _ _ m at (ends from place n there after end weak none) =
      subst (IsAtPlace meetings from) (same_Some n m (sym there ∙ at)) (record {
        after = after;
        within = omega (arith, end);
        strength = λ below. absurd (omega (arith, end, below));
        weak = λ past. weak;
        none = none;
        next = λ below. absurd (omega (arith, end, below));
      })
  leads_to meetings _ _ m at (leads from place n there after within strength none next) =
      subst (IsAtPlace meetings from) (same_Some n m (sym there ∙ at)) (record {
        after = after;
        within = omega (arith, within);
        strength = λ below. strength;
        weak = λ past. absurd (omega (arith, within, past));
        none = none;
        next = λ below. next;
      })

-- what a type put first in the list of a glue makes of the lists
module _ (sys : TileSystem) (d : Side) (kinds : List GlueKind) (target : GlueId) (t : TypeId) (strength : ℕ) (old new : MeetingOrder) (puts : PutsMeeting kinds target t strength old new) where
  pub put_length : length new.first ≡ length old.first
  put_length = elim puts [
    | inl none ↦ ap (λ l. length l.first) none.1
    | inr some ↦ elim some [ inl unlisted ↦ ap (λ l. length l.first) unlisted.1 | inr is ↦ ap length is.first ∙ length-set old.first target.0 is.place ]
  ]

  module _ (few : length sys.types < 65535) where
    -- other lists stay
    pub put_apart : (h : GlueId) (from : ℕ) → h.0 ≢ target.0 → Leads sys d h old.meetings from (slice_index old.first h.0) → Leads sys d h new.meetings from (slice_index new.first h.0)
    put_apart h from apart before =
        let Is : MeetingOrder → Type 0 = λ l. Leads sys d h l.meetings from (slice_index l.first h.0) in
        let At : List ℕ → Type 0 = λ first. Leads sys d h new.meetings from (slice_index first h.0) in
        elim puts [
          | inl none ↦ subst Is (sym none.1) before
          | inr some ↦ elim some [
            | inl unlisted ↦ subst Is (sym unlisted.1) before
            | inr is ↦ subst At (sym is.first) (rw (get_or-set_other old.first target.0 h.0 is.place 0 apart) (leads_taken sys d h old.meetings new.meetings is.place _ from _ few is.takes before))
          ]
        ]

    -- and that of the glue has the type
    pub put_here : slice_get kinds target.0 ≡ Some Listed → target.0 < length old.first → IsType sys t → strength ≡ interaction sys (side_glue sys t d) (Some target) →
        Leads sys d target old.meetings (t.0 + 1) (slice_index old.first target.0) → Leads sys d target new.meetings t.0 (slice_index new.first target.0)
    put_here listed known kind is_strength before =
        let Is : MeetingOrder → Type 0 = λ l. Leads sys d target l.meetings t.0 (slice_index l.first target.0) in
        let At : List ℕ → Type 0 = λ first. Leads sys d target new.meetings t.0 (slice_index first target.0) in
        let m : Meeting = record { tile = t.0; strength = strength; next = slice_index old.first target.0 } in
        elim puts [
          | inl none ↦ subst Is (sym none.1) (leads_kept sys d target old.meetings t.0 (t.0 + 1) _ refl (sym is_strength ∙ none.0) before)
          | inr some ↦ elim some [
            | inl unlisted ↦ absurd (unlisted.0 listed)
            | inr is ↦
                subst At (sym is.first) (rw (get_or-set_same old.first target.0 is.place 0 known)
                (leads t.0 is.place m (new_taken old.meetings new.meetings is.place m is.takes) (omega arith) kind is_strength (λ u later below. absurd (omega (arith, later, below)))
                (leads_taken sys d target old.meetings new.meetings is.place m (t.0 + 1) _ few is.takes before)))
          ]
        ]

-- no pair but the first of two glues is theirs
of_one : (pairs : List GluePair) (g h : GlueId) (j k : ℕ) (p q : GluePair) → AllPairs (λ p q. is_pair_of q p.first p.second ≡ false) pairs → slice_get pairs j ≡ Some p → slice_get pairs k ≡ Some q →
    is_pair_of p g h ≡ true → is_pair_of q g h ≡ true → j < k → ⊥
of_one pairs g h j k p q distinct at_p at_q p_is q_is before =
    let apart = distinct j k p before (slice_get_within pairs k q at_q) in
    let first = get_or_from_slice_get pairs j p p at_p in
    let second = get_or_from_slice_get pairs k q p at_q in
    clash p.first.0 p.second.0 q.first.0 q.second.0 g.0 h.0 p_is q_is (sym (ap (λ r. is_pair_of q r.first r.second) first) ∙ sym (ap (λ r. is_pair_of r (get_or pairs j p).first (get_or pairs j p).second) second) ∙ apart)
  where
    clash : (a b e f g h : ℕ) → ((a == g && b == h) || (a == h && b == g)) ≡ true → ((e == g && f == h) || (e == h && f == g)) ≡ true → ((e == a && f == b) || (e == b && f == a)) ≡ false → ⊥
    clash a b e f g h first second apart = grind (arith, tests)

-- the strength of the pair of two glues is that of the pair which is theirs
pub strength_of_pair : (pairs : List GluePair) (g h : GlueId) (k : ℕ) (p : GluePair) → ((j : ℕ) (q : GluePair) → j < k → slice_get pairs j ≡ Some q → is_pair_of q g h ≡ false) → slice_get pairs k ≡ Some p →
    is_pair_of p g h ≡ true → pair_strength pairs g h ≡ p.strength
strength_of_pair [] g h k p none at is = let never : ⊥ = cc in absurd never
strength_of_pair (q ∷ pairs) g h zero p none at is =
    let same = same_Some q p at in
    let hit : is_pair_of q g h ≡ true = subst (λ (r : GluePair). is_pair_of r g h ≡ true) (sym same) is in
    rw hit (ap (λ r. r.strength) same)
strength_of_pair (q ∷ pairs) g h (suc k) p none at is =
    rw (none 0 q (omega arith) refl) (strength_of_pair pairs g h k p (λ j r below there. none (suc j) r (omega (arith, below)) there) at is)

-- where no pair is of two glues, their pair has the strength 0
pair_strength_none : (pairs : List GluePair) (g h : GlueId) → ((k : ℕ) (p : GluePair) → slice_get pairs k ≡ Some p → is_pair_of p g h ≡ false) → pair_strength pairs g h ≡ 0
pair_strength_none [] g h none = refl
pair_strength_none (p ∷ pairs) g h none = rw (none 0 p refl) (pair_strength_none pairs g h (λ k q there. none (suc k) q there))

-- some pair is of two glues, or none is
record IsFound (pairs : List GluePair) (g h : GlueId) : Type 0 where
  number : ℕ
  pair : GluePair
  there : slice_get pairs number ≡ Some pair
  is : is_pair_of pair g h ≡ true

some_pair_or_none : (pairs : List GluePair) (g h : GlueId) → IsFound pairs g h ⊎ ((k : ℕ) (p : GluePair) → slice_get pairs k ≡ Some p → is_pair_of p g h ≡ false)
some_pair_or_none [] g h = inr (λ k p there. let never : ⊥ = cc in absurd never)
some_pair_or_none (q ∷ pairs) g h = elim (cases_Bool (is_pair_of q g h)) [
  | inl hit ↦ inl (record { number = 0; pair = q; there = refl; is = hit })
  | inr miss ↦ elim (some_pair_or_none pairs g h) [
    | inl found ↦ inl (record { number = suc found.number; pair = found.pair; there = found.there; is = found.is })
    | inr none ↦ inr (all_false q pairs g h miss none)
  ]
]
  where
    all_false : (q : GluePair) (pairs : List GluePair) (g h : GlueId) → is_pair_of q g h ≡ false → ((k : ℕ) (p : GluePair) → slice_get pairs k ≡ Some p → is_pair_of p g h ≡ false) →
        (k : ℕ) (p : GluePair) → slice_get (q ∷ pairs) k ≡ Some p → is_pair_of p g h ≡ false
    all_false q pairs g h miss none zero p there = subst (λ (r : GluePair). is_pair_of r g h ≡ false) (same_Some q p there) miss
    all_false q pairs g h miss none (suc k) p there = none k p there

-- Of a type that bears a glue: the type is first in the list of the glue itself, and of those paired with it by the pairs before an index; the
-- other lists have the types behind it.
pub record AreMet (sys : TileSystem) (d : Side) (kinds : List GlueKind) (t : TypeId) (g : GlueId) (n : ℕ) (lists : MeetingOrder) : Type 0 where
  pub known : (h : GlueId) → slice_get kinds h.0 ≡ Some Listed → h.0 < length lists.first
  pub own : slice_get kinds g.0 ≡ Some Listed → Leads sys d g lists.meetings t.0 (slice_index lists.first g.0)
  pub met : (h : GlueId) → slice_get kinds h.0 ≡ Some Listed → (k : ℕ) (p : GluePair) → k < n → slice_get sys.pairs k ≡ Some p → is_pair_of p g h ≡ true →
      Leads sys d h lists.meetings t.0 (slice_index lists.first h.0)
  pub rest : (h : GlueId) → slice_get kinds h.0 ≡ Some Listed → h.0 ≢ g.0 → ((k : ℕ) (p : GluePair) → k < n → slice_get sys.pairs k ≡ Some p → is_pair_of p g h ≡ false) →
      Leads sys d h lists.meetings (t.0 + 1) (slice_index lists.first h.0)

true_false : true ≡ false → ⊥
true_false both = cc

module _ (sys : TileSystem) (d : Side) (kinds : List GlueKind) (valid : IsValid sys) (t : TypeId) (g : GlueId) (kind : IsType sys t) (bears : side_glue sys t d ≡ Some g) where
  few : length sys.types < 65535
  few = omega (arith, valid.type_count)

  met_begun : (strength : ℕ) (old new : MeetingOrder) → strength ≡ strength_of sys g → AreMeetings sys d kinds (t.0 + 1) old → PutsMeeting kinds g t strength old new → AreMet sys d kinds t g 0 new
  met_begun strength old new is lists puts = record {
    known = λ h listed. omega (arith, put_length sys d kinds g t strength old new puts, lists.known h listed);
    own = λ listed. put_here sys d kinds g t strength old new puts few listed (lists.known g listed) kind (is ∙ sym (between_same sys g) ∙ sym (ap (λ own. interaction sys own (Some g)) bears)) (lists.first g listed);
    met = λ h listed k p below there hit. absurd (omega (arith, below));
    rest = λ h listed apart none. put_apart sys d kinds g t strength old new puts few h (t.0 + 1) apart (lists.first h listed);
  }

  -- pairs that are not of the glue and one that has lists change nothing
  met_on : (from to : ℕ) (lists : MeetingOrder) → from ≤ to → ((k : ℕ) (p : GluePair) → from ≤ k → k < to → slice_get sys.pairs k ≡ Some p → ¬ PairsWithListed kinds g p) →
      AreMet sys d kinds t g from lists → AreMet sys d kinds t g to lists
  met_on from to lists up none are = record {
    known = are.known;
    own = are.own;
    met = λ h listed k p below there hit. elim (cases_lt k from) [
      | inl before ↦ are.met h listed k p before there hit
      | inr past ↦ absurd (none k p past below there (pairs_with kinds p g h listed hit))
    ];
    rest = λ h listed apart lacks. are.rest h listed apart (λ k p below there. lacks k p (omega (arith, below, up)) there);
  }

  module _ (n : ℕ) (p : GluePair) (other : GlueId) (there : slice_get sys.pairs n ≡ Some p) (apart : other.0 ≢ g.0) (of_both : is_pair_of p g other ≡ true) where
    of_other : (h : GlueId) → is_pair_of p g h ≡ true → h.0 ≡ other.0
    of_other h hit = one_other p.first.0 p.second.0 g.0 other.0 h.0 apart of_both hit
      where
        one_other : (a b g o h : ℕ) → o ≢ g → ((a == g && b == o) || (a == o && b == g)) ≡ true → ((a == g && b == h) || (a == h && b == g)) ≡ true → h ≡ o
        one_other a b g o h apart first second = grind (arith, tests)

    none_before : (k : ℕ) (q : GluePair) → k < n → slice_get sys.pairs k ≡ Some q → is_pair_of q g other ≡ false
    none_before k q below at = elim (cases_Bool (is_pair_of q g other)) [
      | inl hit ↦ absurd (of_one sys.pairs g other k n q p valid.distinct_pairs at there hit of_both below)
      | inr miss ↦ miss
    ]

    strength_there : p.strength ≡ interaction sys (side_glue sys t d) (Some other)
    strength_there =
        sym (strength_of_pair sys.pairs g other n p none_before there of_both) ∙ sym (between_pair sys g other (λ same. apart (sym same))) ∙ sym (ap (λ own. interaction sys own (Some other)) bears)

    met_more : (old new : MeetingOrder) → AreMet sys d kinds t g n old → PutsMeeting kinds other t p.strength old new → AreMet sys d kinds t g (n + 1) new
    met_more old new lists puts = record {
      known = λ h listed. omega (arith, put_length sys d kinds other t p.strength old new puts, lists.known h listed);
      own = λ listed. put_apart sys d kinds other t p.strength old new puts few g t.0 (λ same. apart (sym same)) (lists.own listed);
      met = λ h listed k q below at hit. elim (cases_eq h.0 other.0) [
        | inl same ↦
            let Listed_at : ℕ → Type 0 = λ m. slice_get kinds m ≡ Some Listed in
            let Is : ℕ → Type 0 = λ m. Leads sys d (record { 0 = m }) new.meetings t.0 (slice_index new.first m) in
            let listed_other : Listed_at other.0 = subst Listed_at same listed in
            subst Is (sym same) (put_here sys d kinds other t p.strength old new puts few listed_other (lists.known other listed_other) kind strength_there (lists.rest other listed_other apart none_before))
        | inr unlike ↦ put_apart sys d kinds other t p.strength old new puts few h t.0 unlike (lists.met h listed k q (earlier h k q unlike below at hit) at hit)
      ];
      rest = λ h listed unlike none.
          let not_other : h.0 ≢ other.0 = λ same.
          let Of : ℕ → Type 0 = λ m. is_pair_of p g (record { 0 = m }) ≡ true in
          true_false (sym (subst Of (sym same) of_both) ∙ none n p (omega arith) there)
          in
          put_apart sys d kinds other t p.strength old new puts few h (t.0 + 1) not_other (lists.rest h listed unlike (λ k q below at. none k q (omega (arith, below)) at));
    }
      where
        earlier : (h : GlueId) (k : ℕ) (q : GluePair) → h.0 ≢ other.0 → k < n + 1 → slice_get sys.pairs k ≡ Some q → is_pair_of q g h ≡ true → k < n
        earlier h k q unlike below at hit = elim (cases_lt k n) [
          | inl before ↦ before
          | inr past ↦
              let same : k ≡ n = omega (arith, past, below) in
              let At : ℕ → Type 0 = λ m. slice_get sys.pairs m ≡ Some q in
              let q_is_p = same_Some q p (sym (subst At same at) ∙ there) in
              let Hit : GluePair → Type 0 = λ r. is_pair_of r g h ≡ true in
              absurd (unlike (of_other h (subst Hit q_is_p hit)))
        ]

  met_all : (n : ℕ) (lists : MeetingOrder) → length sys.pairs ≤ n → AreMet sys d kinds t g n lists → AreMeetings sys d kinds t.0 lists
  met_all n lists all are = record {
    known = are.known;
    first = λ h listed. elim (cases_eq h.0 g.0) [
      | inl same ↦
          let Listed_at : ℕ → Type 0 = λ m. slice_get kinds m ≡ Some Listed in
          let Is : ℕ → Type 0 = λ m. Leads sys d (record { 0 = m }) lists.meetings t.0 (slice_index lists.first m) in
          subst Is (sym same) (are.own (subst Listed_at same listed))
      | inr apart ↦ elim (some_pair_or_none sys.pairs g h) [
        | inl found ↦ are.met h listed found.number found.pair (omega (arith, all, slice_get_within sys.pairs found.number found.pair found.there)) found.there found.is
        | inr none ↦
            leads_kept sys d h lists.meetings t.0 (t.0 + 1) _ refl (ap (λ own. interaction sys own (Some h)) bears ∙ between_pair sys g h (λ same. apart (sym same)) ∙ pair_strength_none sys.pairs g h none)
            (are.rest h listed apart (λ k p below at. none k p at))
      ]
    ];
  }

-- Of a type that bears a glue, with these partners of the glue left: the lists of the glue and of its other partners are met.
pub record AreMetBut (sys : TileSystem) (d : Side) (kinds : List GlueKind) (t : TypeId) (g : GlueId) (left : List Partner) (lists : MeetingOrder) : Type 0 where
  pub number : ℕ
  pub within : number ≤ length sys.pairs
  pub others : partners_of kinds g (drop number sys.pairs) ≡ left
  pub met : AreMet sys d kinds t g number lists

module _ (sys : TileSystem) (d : Side) (kinds : List GlueKind) (valid : IsValid sys) (t : TypeId) (g : GlueId) (kind : IsType sys t) (bears : side_glue sys t d ≡ Some g) where
  pub begun : (strength : ℕ) (partners : List Partner) (old new : MeetingOrder) → strength ≡ strength_of sys g → partners ≡ partners_of kinds g sys.pairs → AreMeetings sys d kinds (t.0 + 1) old → PutsMeeting kinds g t strength old new →
      AreMetBut sys d kinds t g partners new
  begun strength partners old new is all lists puts = record { number = 0; within = zero-le; others = sym all; met = met_begun sys d kinds valid t g kind bears strength old new is lists puts }

  module _ (partners : List Partner) (n : ℕ) (none : Partner) (below : n < length partners) (lists : MeetingOrder) (are : AreMetBut sys d kinds t g (drop n partners) lists) where
    next : IsPartnerAt kinds g sys.pairs are.number (get_or partners n none) (drop (suc n) partners)
    next = partner_at kinds g sys.pairs are.number (get_or partners n none) (drop (suc n) partners) (are.others ∙ drop-cons partners n none below)

    pair_there : IsPair sys.glues next.pair
    pair_there = All-slice_get (IsPair sys.glues) sys.pairs next.at next.pair valid.pairs next.there

    -- the next partner is a glue of the system
    pub partner_known : (get_or partners n none).glue.0 < length sys.glues
    partner_known =
        let Known : Partner → Type 0 = λ q. q.glue.0 < length sys.glues in
        subst Known next.same (partner_glue sys.glues g next.pair pair_there)

    pub partner_weak : (get_or partners n none).strength ≤ MOST_STRENGTH
    partner_weak =
        let Weak : Partner → Type 0 = λ q. q.strength ≤ MOST_STRENGTH in
        subst Weak next.same pair_there.strength

    -- and once the type is put first in its list, one partner less is left
    pub met_next : (new : MeetingOrder) → PutsMeeting kinds (get_or partners n none).glue t (get_or partners n none).strength lists new → AreMetBut sys d kinds t g (drop (n + 1) partners) new
    met_next new puts =
        let one : suc n ≡ n + 1 = omega arith in
        let also : suc next.at ≡ next.at + 1 = omega arith in
        let is = partner_is g next.pair (has_glue kinds g next.pair next.with) pair_there.unlike in
        let Puts : Partner → Type 0 = λ q. PutsMeeting kinds q.glue t q.strength lists new in
        record {
          number = next.at + 1;
          within = omega (arith, slice_get_within sys.pairs next.at next.pair next.there);
          others = sym (ap (λ k. partners_of kinds g (drop k sys.pairs)) also) ∙ next.others ∙ ap (λ k. drop k partners) one;
          met =
              met_more sys d kinds valid t g kind bears next.at next.pair (partner_in g next.pair).glue next.there is.0 is.1 lists new
              (met_on sys d kinds valid t g kind bears are.number next.at lists next.after next.none_between are.met) (subst Puts (sym next.same) puts);
        }

  -- with no partner left all lists are met
  pub met_whole : (left : List Partner) (lists : MeetingOrder) → left ≡ [] → AreMetBut sys d kinds t g left lists → AreMeetings sys d kinds t.0 lists
  met_whole left lists none are =
      met_all sys d kinds valid t g kind bears (length sys.pairs) lists (omega arith)
      (met_on sys d kinds valid t g kind bears are.number (length sys.pairs) lists are.within (λ k p later below there. partners_none kinds g sys.pairs are.number k p (are.others ∙ none) later there) are.met)

-- a glue that a type bears is one of the system
pub glue_known : (sys : TileSystem) (t : TypeId) (d : Side) (g : GlueId) → IsValid sys → side_glue sys t d ≡ Some g → g.0 < length sys.glues
glue_known sys t d g valid bears =
    let Known : Option GlueId → Type 0 = λ o. IfSome o (λ k. k.0 < length sys.glues) in
    subst Known bears (side_glue-in_range sys t d valid)

-- a type that bears no glue interacts with none
pub meetings_unborne : (sys : TileSystem) (d : Side) (kinds : List GlueKind) (t : TypeId) (lists : MeetingOrder) → side_glue sys t d ≡ None → AreMeetings sys d kinds (t.0 + 1) lists → AreMeetings sys d kinds t.0 lists
meetings_unborne sys d kinds t lists bare are = record {
  known = are.known;
  first = λ h listed. leads_kept sys d h lists.meetings t.0 (t.0 + 1) _ refl (ap (λ own. interaction sys own (Some h)) bare) (are.first h listed);
}

-- lists without a type are those of the types past the last one
pub meetings_ended : (sys : TileSystem) (d : Side) (kinds : List GlueKind) (from : ℕ) (lists : MeetingOrder) → from ≡ length sys.types → length kinds ≡ length sys.glues → HasNoMeetings sys lists → AreMeetings sys d kinds from lists
meetings_ended sys d kinds from lists all count none =
    let within : (g : GlueId) → slice_get kinds g.0 ≡ Some Listed → g.0 < length sys.glues = λ g listed. omega (arith, count, slice_get_within kinds g.0 Listed listed) in
    record {
      known = λ g listed. omega (arith, within g listed, none.count);
      first = λ g listed. ends from _ _ (none.ends g (within g listed)) (omega (arith, all)) refl refl (λ t later below. absurd (omega (arith, all, later, below)));
    }

-- an end put into a place leaves all others ends, and one more list begins with one
pub ends_more : (meetings : List Meeting) (first : List ℕ) (end n : ℕ) (m : Meeting) → length first ≡ n → end < length meetings → ((k : ℕ) → k < n → slice_get meetings (slice_index first k) ≡ Some m) →
    (k : ℕ) → k < n + 1 → slice_get (set meetings end m) (slice_index (first ++ end ∷ []) k) ≡ Some m
ends_more meetings first end n m count within before k below = elim (cases_lt k n) [
  | inl earlier ↦
      let At : ℕ → Type 0 = λ place. slice_get (set meetings end m) place ≡ Some m in
      subst At (sym (get_or-append first (end ∷ []) 0 k (omega (arith, count, earlier)))) (still (slice_index first k) (before k earlier))
  | inr last ↦
      let At : ℕ → Type 0 = λ place. slice_get (set meetings end m) place ≡ Some m in
      let Of : ℕ → Type 0 = λ j. slice_index (first ++ end ∷ []) j ≡ end in
      let is_last : length first ≡ k = omega (arith, count, last, below) in
      subst At (sym (subst Of is_last (get_or-append_seam first end [] 0))) (new_set meetings end _ m (slice_get-get_or meetings end m within))
]
  where
    still : (place : ℕ) → slice_get meetings place ≡ Some m → slice_get (set meetings end m) place ≡ Some m
    still place there = elim (cases_eq place end) [
      | inl same ↦
          let At : ℕ → Type 0 = λ j. slice_get (set meetings end m) j ≡ Some m in
          subst At (sym same) (new_set meetings end _ m (slice_get-get_or meetings end m within))
      | inr apart ↦ kept_set meetings end place m m there apart
    ]

-- a cursor at a place of a list
pub cursor_at : (sys : TileSystem) (d : Side) (g : GlueId) (meetings : List Meeting) (from place : ℕ) (m : Meeting) (cursor : Cursor) → IsValid sys → slice_get meetings place ≡ Some m → Leads sys d g meetings from place →
    cursor.at ≡ m.tile → cursor.strength ≡ m.strength → ((t : TypeId) → interaction sys (side_glue sys t d) (Some g) ≤ cursor.most) → cursor.most ≤ MOST_STRENGTH → IsCursor sys d (Some g) from cursor
cursor_at sys d g meetings from place m cursor valid there led at strength most bound =
    let is = leads_to sys d g meetings from place m there led in
    let At : ℕ → Type 0 = λ n. cursor.strength ≡ interaction sys (side_glue sys (record { 0 = n }) d) (Some g) in
    let None : ℕ → Type 0 = λ n. NoneMeets sys d g from n in
    cursor_met sys d valid g from cursor most bound (within_bound is) (omega (arith, at, is.after)) (omega (arith, at, is.within)) (subst None (sym at) is.none)
    (λ below. subst At (sym at) (strength ∙ is.strength (omega (arith, below, at))))
  where
    within_bound : IsAtPlace sys d g meetings from m → cursor.strength ≤ MOST_STRENGTH
    within_bound is = elim (cases_lt m.tile (length sys.types)) [
      | inl below ↦
          let at_most = interaction_within sys (side_glue sys (record { 0 = m.tile }) d) (Some g) valid in
          omega (arith, strength, is.strength below, at_most)
      | inr past ↦ omega (arith, strength, is.weak past)
    ]

pub next_at : (sys : TileSystem) (d : Side) (g : GlueId) (meetings : List Meeting) (from place : ℕ) (m : Meeting) → slice_get meetings place ≡ Some m → Leads sys d g meetings from place → m.tile < length sys.types →
    Leads sys d g meetings (m.tile + 1) m.next
next_at sys d g meetings from place m there led below = (leads_to sys d g meetings from place m there led).next below

-- no type interacts with a glue more strongly than any glue does
pub most_met : (sys : TileSystem) (d : Side) (g : GlueId) (most : ℕ) → ((h : GlueId) → strength_between sys h g ≤ most) → (t : TypeId) → interaction sys (side_glue sys t d) (Some g) ≤ most
most_met sys d g most each t = by (side_glue sys t d)
  where
    by : (own : Option GlueId) → interaction sys own (Some g) ≤ most
    by None = zero-le
    by (Some h) = each h
