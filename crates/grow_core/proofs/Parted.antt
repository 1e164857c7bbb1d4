-- A scout is divided, and two are joined.
use Rattle.std.proofs.Common.{◌≡◌, ◌≢◌, ◌<◌, ◌-◌, ◌^◌, ◌==◌, ℕ, Bool, true, false, not, List, [], ◌++◌, set, Option, Some, None, Contains, eq-eqb, refl, sym, ◌∙◌, ap, subst, inl, inr, arith, append-nil, bit_or}
use Rattle.std.proofs.lemmas.Option.{same_Some, none-some}
use Rattle.std.proofs.lemmas.Bool.{false≢true}
use Rattle.std.proofs.lemmas.Nat.{or_lt}
use Rattle.std.proofs.lemmas.List.Elements.{Contains-append_left, Contains-append_cases, filter-append, Contains-append_right}
use Rattle.atam.specs.TileSystem.{TileSystem}
use Rattle.grow_core.specs.declared.placed_tile.PlacedTile.{PlacedTile}
use Rattle.grow_core.specs.Core.{ScoutState, scout_at, Owns, least, greatest, OwnsTwoOrMore, placed_by, HasDistinctTiles, ScoutInvariant, GrowthInvariant}
use Rattle.grow_core.specs.Steps.{kept_tiles, IsKeptPart, IsGivenPart, IsUnion}
use Rattle.grow_core.proofs.Lists.{filter-from, filter-passed, all_pairs_append}
use Rattle.std.proofs.lemmas.List.Kept.{AllPairs-filter}
use Rattle.grow_core.proofs.Own.{same_tile, mine_tile}
use Rattle.grow_core.proofs.Named.{named_after}
use Rattle.grow_core.proofs.Numbers.{IsTop, top, greatest-owned, left-owned, left-other, left-owns, alone, owns_itself, both-owned, either-owns, by_itself, by_other, by_none, is_equal, some_rest, some_owned, least-owned}
use Rattle.grow_core.proofs.Kept.{knows-by, placed, left_out}

not_true : (b : Bool) → not b ≡ true → b ≡ false
not_true true e = absurd (false≢true e)
not_true false e = refl

module _ (sys : TileSystem) (log : List PlacedTile) (scouts : List (Option ScoutState)) (a : ℕ) (v w x : ScoutState) (holds : GrowthInvariant sys log scouts) (here : scout_at scouts a ≡ Some v) (two : OwnsTwoOrMore v.owned) where
  abbrev g : ℕ
  g = greatest v.owned

  known : ScoutInvariant sys log v
  known = holds.each a v here

  is_top : IsTop v.owned
  is_top = top v.owned known.some_number known.numbers

  -- the old scout keeps the other numbers and the rest of its tiles
  rest-invariant : IsKeptPart v w → GrowthInvariant sys log (set scouts a (Some w))
  rest-invariant is = placed sys log log scouts a w holds holds.history (λ b u _ at_b. holds.each b u at_b)
      (knows-by sys log (v.owned - 2 ^ g) v.seen (kept_tiles g v.mine) w is (record {
        some_number = some_rest v.owned known.some_number known.numbers two;
        small = let s = known.numbers in omega arith;
        seeds = known.seeds;
        part = known.part;
        mine_seen = λ t c. known.mine_seen t (filter-from (λ (y : PlacedTile). not (y.placer == g)) v.mine t c);
        mine_owned = λ t c. let from = filter-from (λ (y : PlacedTile). not (y.placer == g)) v.mine t c in
            let passed = not_true (t.placer == g) (filter-passed (λ (y : PlacedTile). not (y.placer == g)) v.mine t c) in
            left-owns v.owned is_top t.placer (known.mine_owned t from) (λ e. false≢true (sym passed ∙ eq-eqb t.placer g e));
        mine_distinct = AllPairs-filter (λ (t u : PlacedTile). t.place.site ≢ u.place.site) (λ (y : PlacedTile). not (y.placer == g)) v.mine known.mine_distinct;
        in_order = λ n own. known.in_order n (left-owned v.owned is_top n own) ∙ sym (by_other n g v.mine (left-other v.owned is_top n own));
      }))
      (λ b u differ at_b n own_u own_w. holds.apart b a u v at_b here differ n own_u (left-owned v.owned is_top n (subst (λ y. Owns y n) is.owned own_w)))

  new-owned : IsGivenPart v x → (n : ℕ) → Owns x.owned n → n ≡ g
  new-owned is n own = alone v.owned is_top n (subst (λ y. Owns y n) is.owned own)

  -- the new scout may stand anywhere in the list
  pub divided-invariant : (k : ℕ) → IsKeptPart v w → IsGivenPart v x → GrowthInvariant sys log (set (set scouts a (Some w)) k (Some x))
  divided-invariant k rest new =
      let before = rest-invariant rest in
      placed sys log log (set scouts a (Some w)) k x before holds.history (λ b u _ at_b. before.each b u at_b)
      (knows-by sys log (2 ^ g) v.seen (placed_by g v.mine) x new (record {
        some_number = some_owned (2 ^ g) g (owns_itself v.owned is_top);
        small = let s = known.numbers in let l = is_top.low in omega arith;
        seeds = known.seeds;
        part = known.part;
        mine_seen = λ t c. known.mine_seen t (filter-from (λ (y : PlacedTile). y.placer == g) v.mine t c);
        mine_owned = λ t c. let e = is_equal t.placer g (filter-passed (λ (y : PlacedTile). y.placer == g) v.mine t c) in
            subst (Owns (2 ^ g)) (sym e) (owns_itself v.owned is_top);
        mine_distinct = AllPairs-filter (λ (t u : PlacedTile). t.place.site ≢ u.place.site) (λ (y : PlacedTile). y.placer == g) v.mine known.mine_distinct;
        in_order = λ n own. let e = alone v.owned is_top n own in
            subst (λ k. placed_by k log ≡ placed_by k (placed_by g v.mine)) (sym e)
            (known.in_order g (greatest-owned v.owned is_top) ∙ sym (by_itself g v.mine));
      }))
      (λ b u differ at_b n own_u own_x.
      let e = new-owned new n own_x in
      elim (named_after scouts a b (Some w) u at_b) [
        | inl t ↦ let own_rest = subst (λ y. Owns y n) rest.owned (subst (λ (z : ScoutState). Owns z.owned n) (sym (same_Some w u t.1)) own_u) in
            left-other v.owned is_top n own_rest e
        | inr t ↦ holds.apart b a u v t.1 here t.0 n own_u (subst (Owns v.owned) (sym e) (greatest-owned v.owned is_top))
      ])

module _ (sys : TileSystem) (log : List PlacedTile) (scouts : List (Option ScoutState)) (a b : ℕ) (v w x : ScoutState) (holds : GrowthInvariant sys log scouts) (at_a : scout_at scouts a ≡ Some v) (at_b : scout_at scouts b ≡ Some w) (differ : a ≢ b) where
  knows_v : ScoutInvariant sys log v
  knows_v = holds.each a v at_a

  knows_w : ScoutInvariant sys log w
  knows_w = holds.each b w at_b

  small : bit_or v.owned w.owned < 2 ^ 64
  small = or_lt 64 v.owned w.owned knows_v.numbers knows_w.numbers

  -- their own tiles have distinct sites together
  pub both_distinct : HasDistinctTiles (v.mine ++ w.mine)
  both_distinct = all_pairs_append (λ (t u : PlacedTile). t.place.site ≢ u.place.site) v.mine w.mine knows_v.mine_distinct knows_w.mine_distinct
      (λ t u in_v in_w one. let same = same_tile log t u holds.history.distinct (mine_tile sys log v knows_v t in_v) (mine_tile sys log w knows_w u in_w) one in
      holds.apart a b v w at_a at_b differ t.placer (knows_v.mine_owned t in_v)
      (subst (λ (z : PlacedTile). Owns w.owned z.placer) (sym same) (knows_w.mine_owned u in_w)))

  -- a number of one has placed nothing that is the other's
  none_of : (n : ℕ) (owned : ℕ) (mine : List PlacedTile) → ((t : PlacedTile) → Contains mine t → Owns owned t.placer) → ¬ Owns owned n → placed_by n mine ≡ []
  none_of n owned mine mine_owned not_own = by_none n mine (λ t c e. not_own (subst (Owns owned) e (mine_owned t c)))

  -- the scouts but the two
  abbrev others : List (Option ScoutState)
  others = set (set scouts a None) b None

  third : (c : ℕ) (u : ScoutState) → scout_at others c ≡ Some u → ((c ≢ a) × (c ≢ b)) × (scout_at scouts c ≡ Some u)
  third c u at_c = elim (named_after (set scouts a None) b c None u at_c) [
    | inl t ↦ absurd (none-some u t.1)
    | inr t ↦ elim (named_after scouts a c None u t.1) [ inl s ↦ absurd (none-some u s.1) | inr s ↦ ((s.0, t.0), s.1) ]
  ]

  others-invariant : GrowthInvariant sys log others
  others-invariant = left_out sys log (set scouts a None) b (left_out sys log scouts a holds)

  -- the joined scout may stand anywhere in the list
  pub joined-invariant : (k : ℕ) → IsUnion v w x → GrowthInvariant sys log (set others k (Some x))
  joined-invariant k is = placed sys log log others k x others-invariant holds.history (λ c u _ at_c. others-invariant.each c u at_c)
      (knows-by sys log (bit_or v.owned w.owned) (v.seen ++ w.seen) (v.mine ++ w.mine) x is (record {
        some_number = some_owned (bit_or v.owned w.owned) (least v.owned)
            (either-owns v.owned w.owned (least v.owned) (inl (least-owned v.owned knows_v.some_number knows_v.numbers).1));
        small = small;
        seeds = λ q c. Contains-append_left v.seen w.seen q (knows_v.seeds q c);
        part = λ q c. elim (Contains-append_cases v.seen w.seen q c) [ inl one ↦ knows_v.part q one | inr other ↦ knows_w.part q other ];
        mine_seen = λ t c. elim (Contains-append_cases v.mine w.mine t c) [
          | inl one ↦ Contains-append_left v.seen w.seen t.place (knows_v.mine_seen t one)
          | inr other ↦ Contains-append_right v.seen w.seen t.place (knows_w.mine_seen t other)
        ];
        mine_owned = λ t c. elim (Contains-append_cases v.mine w.mine t c) [
          | inl one ↦ either-owns v.owned w.owned t.placer (inl (knows_v.mine_owned t one))
          | inr other ↦ either-owns v.owned w.owned t.placer (inr (knows_w.mine_owned t other))
        ];
        mine_distinct = both_distinct;
        in_order = λ n own. elim (both-owned v.owned w.owned n own) [
          | inl one ↦ knows_v.in_order n one ∙ (sym (append-nil (placed_by n v.mine))
              ∙ (ap (λ l. placed_by n v.mine ++ l) (sym (none_of n w.owned w.mine knows_w.mine_owned (holds.apart a b v w at_a at_b differ n one)))
              ∙ sym (filter-append (λ (t : PlacedTile). t.placer == n) v.mine w.mine)))
          | inr other ↦ knows_w.in_order n other
              ∙ (ap (λ l. l ++ placed_by n w.mine) (sym (none_of n v.owned v.mine knows_v.mine_owned (λ one. holds.apart a b v w at_a at_b differ n one other)))
              ∙ sym (filter-append (λ (t : PlacedTile). t.placer == n) v.mine w.mine))
        ];
      }))
      (λ c u _ at_c n own_u own_x.
      let t = third c u at_c in
      elim (both-owned v.owned w.owned n (subst (λ y. Owns y n) is.owned own_x)) [
        | inl one ↦ holds.apart c a u v t.1 at_a t.0.0 n own_u one
        | inr other ↦ holds.apart c b u w t.1 at_b t.0.1 n own_u other
      ])
