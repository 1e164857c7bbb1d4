-- One scout changes, and maybe the tiles; a tile is seen or won.
use Rattle.std.proofs.Common.{◌≡◌, ◌≢◌, ◌<◌, ◌≤◌, ◌^◌, ◌==◌, ℕ, cond, List, [], ◌∷◌, ◌++◌, set, get_or, Option, Some, None, Contains, ne_eqb, sym, ◌∙◌, ap, subst, inl, inr, append-nil}
use Rattle.std.proofs.Math.Nat.{le_trans}
use Rattle.std.proofs.lemmas.List.Quantifiers.{all_pairs_push}
use Rattle.std.proofs.lemmas.Option.{same_Some, none-some}
use Rattle.std.proofs.lemmas.List.Elements.{Contains-push, Contains-push_cases, Contains-append_left, Contains-get_or, All-contains, All-push, filter-append}
use mathlib.Core.List.{map-append}
use Rattle.atam.specs.declared.place.Place.{Place}
use Rattle.atam.specs.Sites.{InBox}
use Rattle.atam.specs.TileSystem.{TileSystem, IsType}
use Rattle.atam.specs.Placements.{HasDistinctSites, IsPartOf, tile_at}
use Rattle.atam.specs.Assembly.{pull, Attaches}
use Rattle.atam.specs.Growth.{IsLegal}
use Rattle.atam.proofs.Bonds.{pull-mono}
use Rattle.atam.proofs.Placements.{Extends, Extends-IsPartOf, HasDistinctSites-push, none_at, Contains-tile_at}
use Rattle.atam.proofs.Sequences.{IsLegal-push}
use Rattle.grow_core.specs.declared.placed_tile.PlacedTile.{PlacedTile}
use Rattle.grow_core.specs.Core.{ScoutState, scout_at, Owns, least, places, placed_by, HasDistinctTiles, IsNumbered, IsHistory, ScoutInvariant, GrowthInvariant}
use Rattle.grow_core.specs.Steps.{tile_of, IsScoutOf}
use Rattle.grow_core.proofs.Named.{named_after}
use Rattle.grow_core.proofs.Numbers.{least-owned}

-- what is known of numbers, an assembly and own tiles makes a scout of them one that knows
pub record IsKnown (sys : TileSystem) (log : List PlacedTile) (numbers : ℕ) (tiles : List Place) (wins : List PlacedTile) : Type 0 where
  pub some_number : 0 < numbers
  pub small : numbers < 2 ^ 64
  pub seeds : IsPartOf sys.seeds tiles
  pub part : IsPartOf tiles (places log)
  pub mine_seen : (t : PlacedTile) → Contains wins t → Contains tiles t.place
  pub mine_owned : (t : PlacedTile) → Contains wins t → Owns numbers t.placer
  pub mine_distinct : HasDistinctTiles wins
  pub in_order : (n : ℕ) → Owns numbers n → placed_by n log ≡ placed_by n wins

module _ (sys : TileSystem) where
  pub knows-by : (log : List PlacedTile) (numbers : ℕ) (tiles : List Place) (wins : List PlacedTile) (w : ScoutState) →
      IsScoutOf numbers tiles wins w → IsKnown sys log numbers tiles wins → ScoutInvariant sys log w
  knows-by log numbers tiles wins w is known =
      let own : (n : ℕ) → Owns w.owned n → Owns numbers n = λ n o. subst (λ x. Owns x n) is.owned o in
      let from : (n : ℕ) → Owns numbers n → Owns w.owned n = λ n o. subst (λ x. Owns x n) (sym is.owned) o in
      let won : (t : PlacedTile) → Contains w.mine t → Contains wins t = λ t c. subst (λ l. Contains l t) is.mine c in
      record {
        some_number = subst (λ x. 0 < x) (sym is.owned) known.some_number;
        numbers = subst (λ x. x < 2 ^ 64) (sym is.owned) known.small;
        seeds = λ p c. is.seen.part p (known.seeds p c);
        part = λ p c. known.part p (is.seen.whole p c);
        distinct = is.distinct;
        mine_seen = λ t c. is.seen.part t.place (known.mine_seen t (won t c));
        mine_owned = λ t c. from t.placer (known.mine_owned t (won t c));
        mine_distinct = subst HasDistinctTiles (sym is.mine) known.mine_distinct;
        in_order = λ n o. known.in_order n (own n o) ∙ ap (placed_by n) (sym is.mine);
      }

  -- a scout comes to a name, in the place of who had it, and maybe the tiles change
  pub placed : (log later : List PlacedTile) (scouts : List (Option ScoutState)) (a : ℕ) (w : ScoutState) → GrowthInvariant sys log scouts → IsHistory sys later →
      ((b : ℕ) (u : ScoutState) → b ≢ a → scout_at scouts b ≡ Some u → ScoutInvariant sys later u) → ScoutInvariant sys later w →
      ((b : ℕ) (u : ScoutState) → b ≢ a → scout_at scouts b ≡ Some u → (n : ℕ) → Owns u.owned n → ¬ Owns w.owned n) →
      GrowthInvariant sys later (set scouts a (Some w))
  placed log later scouts a w holds history others mine alone = record {
    history = history;
    each = λ b u at_b. elim (named_after scouts a b (Some w) u at_b) [
      | inl t ↦ subst (ScoutInvariant sys later) (same_Some w u t.1) mine
      | inr t ↦ others b u t.0 t.1
    ];
    apart = λ b c u x at_b at_c differ n own_u own_x. elim (named_after scouts a b (Some w) u at_b) [
      | inl t ↦ elim (named_after scouts a c (Some w) x at_c) [
        | inl s ↦ differ (t.0 ∙ sym s.0)
        | inr s ↦ alone c x s.0 s.1 n own_x (subst (λ (z : ScoutState). Owns z.owned n) (sym (same_Some w u t.1)) own_u)
      ]
      | inr t ↦ elim (named_after scouts a c (Some w) x at_c) [
        | inl s ↦ alone b u t.0 t.1 n own_u (subst (λ (z : ScoutState). Owns z.owned n) (sym (same_Some w x s.1)) own_x)
        | inr s ↦ holds.apart b c u x t.1 s.1 differ n own_u own_x
      ]
    ];
  }

  -- a scout is left out
  pub left_out : (log : List PlacedTile) (scouts : List (Option ScoutState)) (a : ℕ) → GrowthInvariant sys log scouts → GrowthInvariant sys log (set scouts a None)
  left_out log scouts a holds =
      let there : (b : ℕ) (u : ScoutState) → scout_at (set scouts a None) b ≡ Some u → scout_at scouts b ≡ Some u =
      λ b u at_b. elim (named_after scouts a b None u at_b) [ inl t ↦ absurd (none-some u t.1) | inr t ↦ t.1 ] in
      record {
        history = holds.history;
        each = λ b u at_b. holds.each b u (there b u at_b);
        apart = λ b c u x at_b at_c. holds.apart b c u x (there b u at_b) (there c x at_c);
      }

  -- what a scout has seen stands there
  pub extends : (log : List PlacedTile) (v : ScoutState) → IsHistory sys log → ScoutInvariant sys log v → Extends v.seen (places log)
  extends log v history knows = Extends-IsPartOf v.seen (places log) history.distinct knows.part

  module _ (log : List PlacedTile) (scouts : List (Option ScoutState)) (a : ℕ) (v w : ScoutState) (p : Place) (holds : GrowthInvariant sys log scouts) (here : scout_at scouts a ≡ Some v) where
    known : ScoutInvariant sys log v
    known = holds.each a v here

    -- the scout keeps its numbers, so they are nobody else's
    still_alone : w.owned ≡ v.owned → (b : ℕ) (u : ScoutState) → b ≢ a → scout_at scouts b ≡ Some u → (n : ℕ) → Owns u.owned n → ¬ Owns w.owned n
    still_alone e b u differ at_b n own_u own_w = holds.apart b a u v at_b here differ n own_u (subst (λ x. Owns x n) e own_w)

    seen_more : (later : List PlacedTile) → IsPartOf (places log) (places later) → Contains (places later) p → IsPartOf (v.seen ++ p ∷ []) (places later)
    seen_more later more there q c = elim (Contains-push_cases v.seen p q c) [
      | inl old ↦ more q (known.part q old)
      | inr new ↦ subst (λ z. Contains (places later) z) new there
    ]

    -- a look, or a claim that is lost
    pub seen-invariant : Contains (places log) p → IsScoutOf v.owned (v.seen ++ p ∷ []) v.mine w → GrowthInvariant sys log (set scouts a (Some w))
    seen-invariant there is = placed log log scouts a w holds holds.history (λ b u _ at_b. holds.each b u at_b)
        (knows-by log v.owned (v.seen ++ p ∷ []) v.mine w is (record {
          some_number = known.some_number;
          small = known.numbers;
          seeds = λ q c. Contains-append_left v.seen (p ∷ []) q (known.seeds q c);
          part = seen_more log (λ q c. c) there;
          mine_seen = λ t c. Contains-append_left v.seen (p ∷ []) t.place (known.mine_seen t c);
          mine_owned = known.mine_owned;
          mine_distinct = known.mine_distinct;
          in_order = known.in_order;
        }))
        (still_alone is.owned)

    -- a claim that is won
    module _ (kind : IsType sys p.tile) (inside : InBox sys.area p.site) (supported : sys.tau ≤ pull sys v.seen p.site p.tile) (empty : tile_at (places log) p.site ≡ None) where
      abbrev fresh : PlacedTile
      fresh = tile_of p (least v.owned)

      abbrev later : List PlacedTile
      later = log ++ fresh ∷ []

      place_last : places later ≡ places log ++ p ∷ []
      place_last = map-append (λ (t : PlacedTile). t.place) log (fresh ∷ [])

      attaches : Attaches sys (places log) p.site p.tile
      attaches = record { empty = empty; held = le_trans supported (pull-mono sys v.seen (places log) p.site p.tile (extends log v holds.history known)) }

      own : (least v.owned < 64) × Owns v.owned (least v.owned)
      own = least-owned v.owned known.some_number known.numbers

      -- it is no seed, since these stand already
      not_seed : ¬ Contains sys.seeds p
      not_seed c =
          let stands = extends log v holds.history known p.site p.tile (Contains-tile_at v.seen p known.distinct (known.seeds p c)) in
          none-some p.tile (sym empty ∙ stands)

      won-history : IsHistory sys later
      won-history = record {
        legal = subst (IsLegal sys) (sym place_last) (IsLegal-push sys (places log) p holds.history.legal kind attaches);
        distinct = subst HasDistinctSites (sym place_last) (HasDistinctSites-push (places log) p holds.history.distinct empty);
        inside = All-push (λ t. InBox sys.area t.place.site) log fresh holds.history.inside inside;
        numbered = All-push (IsNumbered sys) log fresh holds.history.numbered (record { seed = λ e. absurd (not_seed e); other = λ _. own.0 });
      }

      in_later : IsPartOf (places log) (places later)
      in_later q c = subst (λ l. Contains l q) (sym place_last) (Contains-append_left (places log) (p ∷ []) q c)

      new_there : Contains (places later) p
      new_there = subst (λ l. Contains l p) (sym place_last) (Contains-push (places log) p)

      -- the wins of every other number stay
      other_history : (n : ℕ) → n ≢ least v.owned → placed_by n later ≡ placed_by n log
      other_history n other = filter-append (λ (t : PlacedTile). t.placer == n) log (fresh ∷ [])
          ∙ (ap (λ b. placed_by n log ++ cond b (fresh ∷ []) []) (ne_eqb (least v.owned) n (λ e. other (sym e))) ∙ append-nil (placed_by n log))

      others : (b : ℕ) (u : ScoutState) → b ≢ a → scout_at scouts b ≡ Some u → ScoutInvariant sys later u
      others b u differ at_b =
          let knows = holds.each b u at_b in
          record {
            some_number = knows.some_number;
            numbers = knows.numbers;
            seeds = knows.seeds;
            part = λ q c. in_later q (knows.part q c);
            distinct = knows.distinct;
            mine_seen = knows.mine_seen;
            mine_owned = knows.mine_owned;
            mine_distinct = knows.mine_distinct;
            in_order = λ n owns. other_history n (λ e. holds.apart b a u v at_b here differ n owns (subst (Owns v.owned) (sym e) own.1)) ∙ knows.in_order n owns;
          }

      pub won-invariant : IsScoutOf v.owned (v.seen ++ p ∷ []) (v.mine ++ fresh ∷ []) w → GrowthInvariant sys later (set scouts a (Some w))
      won-invariant is = placed log later scouts a w holds won-history others
          (knows-by later v.owned (v.seen ++ p ∷ []) (v.mine ++ fresh ∷ []) w is (record {
            some_number = known.some_number;
            small = known.numbers;
            seeds = λ q c. Contains-append_left v.seen (p ∷ []) q (known.seeds q c);
            part = seen_more later in_later new_there;
            mine_seen = λ t c. elim (Contains-push_cases v.mine fresh t c) [
              | inl old ↦ Contains-append_left v.seen (p ∷ []) t.place (known.mine_seen t old)
              | inr new ↦ subst (λ (z : PlacedTile). Contains (v.seen ++ p ∷ []) z.place) new (Contains-push v.seen p)
            ];
            mine_owned = λ t c. elim (Contains-push_cases v.mine fresh t c) [
              | inl old ↦ known.mine_owned t old
              | inr new ↦ subst (λ (z : PlacedTile). Owns v.owned z.placer) new own.1
            ];
            mine_distinct = all_pairs_push (λ (t u : PlacedTile). t.place.site ≢ u.place.site) v.mine fresh known.mine_distinct
                (λ k d within. let t : PlacedTile = get_or v.mine k d in
                All-contains (λ (q : Place). q.site ≢ p.site) (places log) t.place (none_at (places log) p.site empty)
                (known.part t.place (known.mine_seen t (Contains-get_or v.mine k d within))));
            in_order = λ n owns. filter-append (λ (t : PlacedTile). t.placer == n) log (fresh ∷ [])
                ∙ (ap (λ l. l ++ placed_by n (fresh ∷ [])) (known.in_order n owns) ∙ sym (filter-append (λ (t : PlacedTile). t.placer == n) v.mine (fresh ∷ [])));
          }))
          (still_alone is.owned)
