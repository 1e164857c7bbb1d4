-- Changes of listed scouts as events, between the states in which they have their names.
use Rattle.std.proofs.Common.{◌≡◌, ◌≢◌, ◌⊎◌, ◌<◌, ℕ, zero, suc, min, List, [], ◌∷◌, ◌++◌, set, length, Option, Some, None, Ok, refl, sym, ◌∙◌, ap, subst, inl, inr, arith}
use Rattle.std.proofs.lemmas.Option.{none-some, same_Some}
use Rattle.std.proofs.lemmas.Nat.{or_lt}
use mathlib.Core.Logic.{dite}
use native.Mathlib.Decide.{dec_lt}
use Rattle.atam.specs.declared.site.Site.{Site}
use Rattle.atam.specs.declared.place.TypeId.{TypeId}
use Rattle.atam.specs.Sites.{InBox}
use Rattle.atam.specs.TileSystem.{TileSystem}
use Rattle.atam.specs.Placements.{tile_at}
use Rattle.atam.proofs.Lists.{some_or_none}
use Rattle.grow_core.specs.declared.placed_tile.PlacedTile.{PlacedTile}
use Rattle.atam.specs.declared.event.Event.TheVariants.{Look, Claim, Split, Join}
use Rattle.atam.specs.declared.event.Seen.TheVariants.{Saw, Won, Held, Divided, Joined}
use Rattle.grow_core.specs.Core.{ScoutState, scout_at, Owns, least, greatest, OwnsTwoOrMore, state_of, places, ScoutInvariant, GrowthInvariant}
use Rattle.grow_core.specs.Steps.{place, won_tile, Sees, Wins, IsKeptPart, IsGivenPart, IsUnion, Supports, CoreStep, saw_none, saw_tile, won, held, divided, joined}
use Rattle.grow_core.specs.Listed.{by_name}
use Rattle.grow_core.specs.ListedEvents.{IsEventOfListed}
use Rattle.grow_core.proofs.Named.{named_after, named_other, length_set}
use Rattle.grow_core.proofs.Numbers.{least-owned, least-of_rest, least-of_greatest, least-of_both}
use Rattle.grow_core.proofs.Listed.{fewer, longer, scout_within, divided-last, joined-first}
use Rattle.grow_core.proofs.NamedState.{IsNamedState, named_state, here}

-- lists with the same entries
same_entries : (l m : List (Option ScoutState)) → length l ≡ length m → ((n : ℕ) → scout_at l n ≡ scout_at m n) → l ≡ m
same_entries [] [] count same = refl
same_entries [] (y ∷ m) count same = absurd (omega (arith, count))
same_entries (x ∷ l) [] count same = absurd (omega (arith, count))
same_entries (x ∷ l) (y ∷ m) count same =
    let rest = same_entries l m (omega (arith, count)) (λ n. same (suc n)) in
    let first : x ≡ y = same 0 in
    λ i. first i ∷ rest i

-- A list by names is that of listed scouts where each of these stands at its name, and nobody else.
record NamesAll (scouts names : List (Option ScoutState)) : Type 0 where
  count : length names ≡ 64
  there : (a : ℕ) (u : ScoutState) → scout_at scouts a ≡ Some u → scout_at names (least u.owned) ≡ Some u
  from : (n : ℕ) (u : ScoutState) → scout_at names n ≡ Some u → (a : ℕ) × (scout_at scouts a ≡ Some u) × (least u.owned ≡ n)

named_is : (sys : TileSystem) (tiles : List PlacedTile) (scouts names : List (Option ScoutState)) → GrowthInvariant sys tiles scouts → NamesAll scouts names → names ≡ by_name scouts
named_is sys tiles scouts names holds all =
    let named = named_state sys tiles scouts holds in
    same_entries names (by_name scouts) (all.count ∙ sym named.holds.named.names) (λ n. elim (some_or_none (scout_at names n)) [
      | inr found ↦
          let t = all.from n found.0 found.1 in
          let stands : scout_at (by_name scouts) n ≡ Some found.0 = subst (λ k. scout_at (by_name scouts) k ≡ Some found.0) t.2 (named.there t.0 found.0 t.1) in
          found.1 ∙ sym stands
      | inl none ↦ elim (some_or_none (scout_at (by_name scouts) n)) [
        | inl bare ↦ none ∙ sym bare
        | inr found ↦
            let t = named.from n found.0 found.1 in
            let name : least found.0.owned ≡ n = named.holds.named.own_name n found.0 found.1 in
            let stands : scout_at names n ≡ Some found.0 = subst (λ k. scout_at names k ≡ Some found.0) name (all.there t.0 found.0 t.1) in
            absurd (none-some found.0 (sym none ∙ stands))
      ]
    ])

module _ (sys : TileSystem) (tiles : List PlacedTile) (scouts : List (Option ScoutState)) (holds : GrowthInvariant sys tiles scouts) where
  abbrev names : List (Option ScoutState)
  names = by_name scouts

  named : IsNamedState sys tiles scouts names
  named = named_state sys tiles scouts holds

  -- scouts at two places have two names
  two_names : (a b : ℕ) (v u : ScoutState) → scout_at scouts a ≡ Some v → scout_at scouts b ≡ Some u → b ≢ a → least u.owned ≢ least v.owned
  two_names a b v u at_a at_b differ same =
      let one = least-owned v.owned (holds.each a v at_a).some_number (holds.each a v at_a).numbers in
      let other = least-owned u.owned (holds.each b u at_b).some_number (holds.each b u at_b).numbers in
      holds.apart b a u v at_b at_a differ (least u.owned) other.1 (subst (Owns v.owned) (sym same) one.1)

  below : (a : ℕ) (v : ScoutState) → scout_at scouts a ≡ Some v → least v.owned < length names
  below a v at_a = let l = (least-owned v.owned (holds.each a v at_a).some_number (holds.each a v at_a).numbers).0 in let e = named.holds.named.names in omega (arith, l, e)

  -- one scout changes and keeps its name
  named_change : (a : ℕ) (v w : ScoutState) → scout_at scouts a ≡ Some v → least w.owned ≡ least v.owned → NamesAll (set scouts a (Some w)) (set names (least v.owned) (Some w))
  named_change a v w at_a name = record {
    count = length_set names (least v.owned) (Some w) ∙ named.holds.named.names;
    there = λ b u at_b. elim (named_after scouts a b (Some w) u at_b) [
      | inl t ↦
          let is : w ≡ u = same_Some w u t.1 in
          subst (λ (x : ScoutState). scout_at (set names (least v.owned) (Some w)) (least x.owned) ≡ Some x) is
          (subst (λ n. scout_at (set names (least v.owned) (Some w)) n ≡ Some w) (sym name) (here names (least v.owned) (Some w) (below a v at_a)))
      | inr t ↦ named_other names (least v.owned) (least u.owned) (Some w) (two_names a b v u at_a t.1 t.0) ∙ named.there b u t.1
    ];
    from = λ n u at_n. elim (named_after names (least v.owned) n (Some w) u at_n) [
      | inl t ↦
          let is : w ≡ u = same_Some w u t.1 in
          (a, here scouts a (Some w) (scout_within scouts a v at_a) ∙ t.1, ap (λ (x : ScoutState). least x.owned) (sym is) ∙ (name ∙ sym t.0))
      | inr t ↦
          let f = named.from n u t.1 in
          let own : least u.owned ≡ n = named.holds.named.own_name n u t.1 in
          let differ : f.0 ≢ a = λ e. t.0 (sym own ∙ ap (λ (x : ScoutState). least x.owned) (same_Some u v (sym f.1 ∙ (ap (scout_at scouts) e ∙ at_a)))) in
          (f.0, named_other scouts a f.0 (Some w) differ ∙ f.1, own)
    ];
  }

  changed : (later : List PlacedTile) (a : ℕ) (v w : ScoutState) → scout_at scouts a ≡ Some v → w.owned ≡ v.owned → GrowthInvariant sys later (set scouts a (Some w)) →
      set names (least v.owned) (Some w) ≡ by_name (set scouts a (Some w))
  changed later a v w at_a same after = named_is sys later (set scouts a (Some w)) (set names (least v.owned) (Some w)) after (named_change a v w at_a (ap least same))

  here_named : (a : ℕ) (v : ScoutState) → scout_at scouts a ≡ Some v → scout_at names (least v.owned) ≡ Some v
  here_named a v at_a = named.there a v at_a

  pub empty_look_event : (a : ℕ) (v : ScoutState) (m : Site) → scout_at scouts a ≡ Some v → InBox sys.area m → tile_at (places tiles) m ≡ None →
      IsEventOfListed sys tiles scouts (Look (least v.owned) m) (Saw None) tiles scouts
  empty_look_event a v m at_a inside empty = saw_none (least v.owned) m v (here_named a v at_a) inside empty

  pub look_event : (a : ℕ) (v w : ScoutState) (m : Site) (t : TypeId) → scout_at scouts a ≡ Some v → InBox sys.area m → tile_at (places tiles) m ≡ Some t → Sees v (place m t) w →
      GrowthInvariant sys tiles (set scouts a (Some w)) → IsEventOfListed sys tiles scouts (Look (least v.owned) m) (Saw (Some t)) tiles (set scouts a (Some w))
  look_event a v w m t at_a inside found is after =
      subst (λ l. CoreStep sys (state_of tiles names) (Look (least v.owned) m) (Ok (Saw (Some t))) (state_of tiles l)) (changed tiles a v w at_a is.owned after)
      (saw_tile (least v.owned) m t v w (here_named a v at_a) inside found is)

  pub lost_event : (a : ℕ) (v w : ScoutState) (m : Site) (t u : TypeId) → scout_at scouts a ≡ Some v → InBox sys.area m → Supports sys v m t → tile_at (places tiles) m ≡ Some u →
      Sees v (place m u) w → GrowthInvariant sys tiles (set scouts a (Some w)) → IsEventOfListed sys tiles scouts (Claim (least v.owned) m t) (Held u) tiles (set scouts a (Some w))
  lost_event a v w m t u at_a inside supported found is after =
      subst (λ l. CoreStep sys (state_of tiles names) (Claim (least v.owned) m t) (Ok (Held u)) (state_of tiles l)) (changed tiles a v w at_a is.owned after)
      (held (least v.owned) m t u v w (here_named a v at_a) inside supported found is)

  pub won_event : (a : ℕ) (v w : ScoutState) (m : Site) (t : TypeId) → scout_at scouts a ≡ Some v → InBox sys.area m → Supports sys v m t → tile_at (places tiles) m ≡ None →
      Wins v (place m t) w → GrowthInvariant sys (tiles ++ won_tile v m t ∷ []) (set scouts a (Some w)) →
      IsEventOfListed sys tiles scouts (Claim (least v.owned) m t) Won (tiles ++ won_tile v m t ∷ []) (set scouts a (Some w))
  won_event a v w m t at_a inside supported empty is after =
      subst (λ l. CoreStep sys (state_of tiles names) (Claim (least v.owned) m t) (Ok Won) (state_of (tiles ++ won_tile v m t ∷ []) l)) (changed (tiles ++ won_tile v m t ∷ []) a v w at_a is.owned after)
      (won (least v.owned) m t v w (here_named a v at_a) inside supported empty is)

least_of_two : (m n : ℕ) → (min m n ≡ m) ⊎ (min m n ≡ n)
least_of_two m n = dite (dec_lt m n) (λ l. inl (omega (arith, l))) (λ f. inr (omega (arith, f)))

-- who stands in a list with one more
last_or_before : (l : List (Option ScoutState)) (o : Option ScoutState) (b : ℕ) (u : ScoutState) → scout_at (l ++ o ∷ []) b ≡ Some u → (scout_at l b ≡ Some u) ⊎ ((b ≡ length l) × (o ≡ Some u))
last_or_before [] o zero u e = inr (refl, e)
last_or_before [] o (suc b) u e = absurd (none-some u e)
last_or_before (x ∷ l) o zero u e = inl e
last_or_before (x ∷ l) o (suc b) u e = elim (last_or_before l o b u e) [ inl t ↦ inl t | inr t ↦ inr (ap suc t.0, t.1) ]

at_last : (l : List (Option ScoutState)) (o : Option ScoutState) → scout_at (l ++ o ∷ []) (length l) ≡ o
at_last [] o = refl
at_last (x ∷ l) o = at_last l o

-- one scout more, at the end
named_last : (sys : TileSystem) (tiles : List PlacedTile) (scouts : List (Option ScoutState)) (x : ScoutState) → GrowthInvariant sys tiles (scouts ++ Some x ∷ []) →
    NamesAll (scouts ++ Some x ∷ []) (set (by_name scouts) (least x.owned) (Some x))
named_last sys tiles scouts x after =
    let before : GrowthInvariant sys tiles scouts = fewer sys tiles (scouts ++ Some x ∷ []) scouts (longer scouts (Some x ∷ [])) after in
    let named = named_state sys tiles scouts before in
    let last = after.each (length scouts) x (at_last scouts (Some x)) in
    let name = least-owned x.owned last.some_number last.numbers in
    let within : least x.owned < length (by_name scouts) = let l = name.0 in let e = named.holds.named.names in omega (arith, l, e) in
    record {
      count = length_set (by_name scouts) (least x.owned) (Some x) ∙ named.holds.named.names;
      there = λ b u at_b. elim (last_or_before scouts (Some x) b u at_b) [
        | inl old ↦
            named_other (by_name scouts) (least x.owned) (least u.owned) (Some x)
            (two_names sys tiles (scouts ++ Some x ∷ []) after (length scouts) b x u (at_last scouts (Some x)) at_b (let l = scout_within scouts b u old in λ e. omega (arith, e, l)))
            ∙ named.there b u old
        | inr new ↦
            subst (λ (z : ScoutState). scout_at (set (by_name scouts) (least x.owned) (Some x)) (least z.owned) ≡ Some z) (same_Some x u new.1)
            (here (by_name scouts) (least x.owned) (Some x) within)
      ];
      from = λ n u at_n. elim (named_after (by_name scouts) (least x.owned) n (Some x) u at_n) [
        | inl t ↦ (length scouts, at_last scouts (Some x) ∙ t.1, ap (λ (z : ScoutState). least z.owned) (sym (same_Some x u t.1)) ∙ sym t.0)
        | inr t ↦ let f = named.from n u t.1 in (f.0, longer scouts (Some x ∷ []) f.0 u f.1, named.holds.named.own_name n u t.1)
      ];
    }

pub split_event : (sys : TileSystem) (tiles : List PlacedTile) (scouts : List (Option ScoutState)) (a : ℕ) (v w x : ScoutState) → GrowthInvariant sys tiles scouts → scout_at scouts a ≡ Some v →
    OwnsTwoOrMore v.owned → IsKeptPart v w → IsGivenPart v x → IsEventOfListed sys tiles scouts (Split (least v.owned)) (Divided (greatest v.owned)) tiles (set scouts a (Some w) ++ Some x ∷ [])
split_event sys tiles scouts a v w x holds at_a two rest new =
    let known = holds.each a v at_a in
    let after = divided-last sys tiles scouts a v w x holds at_a two rest new in
    let mid : GrowthInvariant sys tiles (set scouts a (Some w)) = fewer sys tiles (set scouts a (Some w) ++ Some x ∷ []) (set scouts a (Some w)) (longer (set scouts a (Some w)) (Some x ∷ [])) after in
    let same_name : least w.owned ≡ least v.owned = ap least rest.owned ∙ least-of_rest v.owned known.some_number known.numbers two in
    let given_name : least x.owned ≡ greatest v.owned = ap least new.owned ∙ least-of_greatest v.owned known.some_number known.numbers in
    let first : set (by_name scouts) (least v.owned) (Some w) ≡ by_name (set scouts a (Some w)) =
    named_is sys tiles (set scouts a (Some w)) (set (by_name scouts) (least v.owned) (Some w)) mid (named_change sys tiles scouts holds a v w at_a same_name) in
    let second : set (by_name (set scouts a (Some w))) (least x.owned) (Some x) ≡ by_name (set scouts a (Some w) ++ Some x ∷ []) =
    named_is sys tiles (set scouts a (Some w) ++ Some x ∷ []) (set (by_name (set scouts a (Some w))) (least x.owned) (Some x)) after (named_last sys tiles (set scouts a (Some w)) x after) in
    let both : set (set (by_name scouts) (least v.owned) (Some w)) (greatest v.owned) (Some x) ≡ by_name (set scouts a (Some w) ++ Some x ∷ []) =
    ap (λ n. set (set (by_name scouts) (least v.owned) (Some w)) n (Some x)) (sym given_name) ∙ (ap (λ l. set l (least x.owned) (Some x)) first ∙ second) in
    subst (λ l. CoreStep sys (state_of tiles (by_name scouts)) (Split (least v.owned)) (Ok (Divided (greatest v.owned))) (state_of tiles l)) both
    (divided (least v.owned) v w x ((named_state sys tiles scouts holds).there a v at_a) two rest new)

module _ (sys : TileSystem) (tiles : List PlacedTile) (scouts : List (Option ScoutState)) (a b : ℕ) (v w x : ScoutState) (holds : GrowthInvariant sys tiles scouts)
    (at_a : scout_at scouts a ≡ Some v) (at_b : scout_at scouts b ≡ Some w) (differ : a ≢ b) (is : IsUnion v w x) where
  abbrev into : ℕ
  into = least v.owned

  abbrev from_name : ℕ
  from_name = least w.owned

  abbrev left : List (Option ScoutState)
  left = set (set (by_name scouts) into None) from_name None

  abbrev together : List (Option ScoutState)
  together = set (set scouts a (Some x)) b None

  known_v : ScoutInvariant sys tiles v
  known_v = holds.each a v at_a

  known_w : ScoutInvariant sys tiles w
  known_w = holds.each b w at_b

  name : least x.owned ≡ min into from_name
  name = ap least is.owned
      ∙ least-of_both v.owned w.owned known_v.some_number known_v.numbers known_w.some_number known_w.numbers (or_lt 64 v.owned w.owned known_v.numbers known_w.numbers)

  all_named : IsNamedState sys tiles scouts (by_name scouts)
  all_named = named_state sys tiles scouts holds

  left_count : length left ≡ 64
  left_count = length_set (set (by_name scouts) into None) from_name None ∙ (length_set (by_name scouts) into None ∙ all_named.holds.named.names)

  within : min into from_name < length left
  within =
      let l = (least-owned v.owned known_v.some_number known_v.numbers).0 in
      let e = left_count in omega (arith, l, e)

  -- the two have two names
  apart_names : from_name ≢ into
  apart_names = two_names sys tiles scouts holds a b v w at_a at_b (λ e. differ (sym e))

  stays : (c : ℕ) (u : ScoutState) → scout_at together c ≡ Some u → ((c ≡ a) × (x ≡ u)) ⊎ (((c ≢ a) × (c ≢ b)) × (scout_at scouts c ≡ Some u))
  stays c u at_c = elim (named_after (set scouts a (Some x)) b c None u at_c) [
    | inl t ↦ absurd (none-some u t.1)
    | inr t ↦ elim (named_after scouts a c (Some x) u t.1) [ inl s ↦ inl (s.0, same_Some x u s.1) | inr s ↦ inr ((s.0, t.0), s.1) ]
  ]

  third : (n : ℕ) (u : ScoutState) → scout_at left n ≡ Some u → ((n ≢ into) × (n ≢ from_name)) × (scout_at (by_name scouts) n ≡ Some u)
  third n u at_n = elim (named_after (set (by_name scouts) into None) from_name n None u at_n) [
    | inl t ↦ absurd (none-some u t.1)
    | inr t ↦ elim (named_after (by_name scouts) into n None u t.1) [ inl s ↦ absurd (none-some u s.1) | inr s ↦ ((s.0, t.0), s.1) ]
  ]

  names_joined : NamesAll together (set left (min into from_name) (Some x))
  names_joined = record {
    count = length_set left (min into from_name) (Some x) ∙ left_count;
    there = λ c u at_c. elim (stays c u at_c) [
      | inl t ↦
          subst (λ (z : ScoutState). scout_at (set left (min into from_name) (Some x)) (least z.owned) ≡ Some z) t.1
          (subst (λ n. scout_at (set left (min into from_name) (Some x)) n ≡ Some x) (sym name) (here left (min into from_name) (Some x) within))
      | inr t ↦
          let not_v = two_names sys tiles scouts holds a c v u at_a t.1 t.0.0 in
          let not_w = two_names sys tiles scouts holds b c w u at_b t.1 t.0.1 in
          let other : least u.owned ≢ min into from_name = λ e. elim (least_of_two into from_name) [ inl f ↦ not_v (e ∙ f) | inr f ↦ not_w (e ∙ f) ] in
          named_other left (min into from_name) (least u.owned) (Some x) other
          ∙ (named_other (set (by_name scouts) into None) from_name (least u.owned) None not_w
          ∙ (named_other (by_name scouts) into (least u.owned) None not_v ∙ all_named.there c u t.1))
    ];
    from = λ n u at_n. elim (named_after left (min into from_name) n (Some x) u at_n) [
      | inl t ↦
          (a, named_other (set scouts a (Some x)) b a None differ ∙ (here scouts a (Some x) (scout_within scouts a v at_a) ∙ t.1), ap (λ (z : ScoutState). least z.owned) (sym (same_Some x u t.1)) ∙ (name ∙ sym t.0))
      | inr t ↦
          let s = third n u t.1 in
          let f = all_named.from n u s.1 in
          let own : least u.owned ≡ n = all_named.holds.named.own_name n u s.1 in
          let not_a : f.0 ≢ a = λ e. s.0.0 (sym own ∙ ap (λ (z : ScoutState). least z.owned) (same_Some u v (sym f.1 ∙ (ap (scout_at scouts) e ∙ at_a)))) in
          let not_b : f.0 ≢ b = λ e. s.0.1 (sym own ∙ ap (λ (z : ScoutState). least z.owned) (same_Some u w (sym f.1 ∙ (ap (scout_at scouts) e ∙ at_b)))) in
          (f.0, named_other (set scouts a (Some x)) b f.0 None not_b ∙ (named_other scouts a f.0 (Some x) not_a ∙ f.1), own)
    ];
  }

  pub join_event : IsEventOfListed sys tiles scouts (Join into from_name) (Joined (min into from_name)) tiles together
  join_event =
      let after = joined-first sys tiles scouts a b v w x holds at_a at_b differ is in
      let both = named_is sys tiles together (set left (min into from_name) (Some x)) after names_joined in
      subst (λ l. CoreStep sys (state_of tiles (by_name scouts)) (Join into from_name) (Ok (Joined (min into from_name))) (state_of tiles l)) both
      (joined into from_name v w x (all_named.there a v at_a) (all_named.there b w at_b) (λ e. apart_names (sym e)) is)
