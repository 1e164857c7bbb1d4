-- The start has the core's invariant.
use Rattle.std.proofs.Common.{◌≡◌, ◌<◌, ◌-◌, ◌^◌, ℕ, zero, suc, List, [], ◌∷◌, Contains, map, replicate, Some, None, refl, sym, ◌∙◌, ap, subst, arith, lit≤}
use Rattle.std.proofs.lemmas.Option.{same_Some, none-some}
use Rattle.std.proofs.lemmas.Nat.Bits.{bit_at_above}
use Rattle.std.proofs.lemmas.List.Elements.{All-map, All-contains, Contains-get_or}
use mathlib.Core.Logic.{dite}
use native.Mathlib.Decide.{dec_lt}
use Rattle.atam.specs.Sites.{InBox}
use Rattle.atam.specs.TileSystem.{TileSystem, IsValid}
use Rattle.atam.specs.Growth.{IsLegal}
use Rattle.atam.specs.declared.place.Place.{Place}
use Rattle.atam.specs.Placements.{HasDistinctSites}
use Rattle.atam.proofs.Sequences.{IsLegal-seeds}
use Rattle.grow_core.specs.declared.placed_tile.PlacedTile.{PlacedTile}
use Rattle.grow_core.specs.Core.{ScoutState, CoreState, scout_at, Owns, least, places, IsNumbered, IsHistory, ScoutInvariant, CoreInvariant}
use Rattle.grow_core.specs.Steps.{tile_of, IsScoutOf, IsStart}
use Rattle.grow_core.proofs.Lists.{Contains-nil}
use Rattle.grow_core.proofs.Numbers.{by_none}
use Rattle.grow_core.proofs.Kept.{knows-by}

pub nobody : (k a : ℕ) (v : ScoutState) → scout_at (replicate k None) a ≡ Some v → ⊥
nobody zero a v e = none-some v e
nobody (suc k) zero v e = none-some v e
nobody (suc k) (suc a) v e = nobody k a v e

module _ (sys : TileSystem) (valid : IsValid sys) where
  abbrev first_tiles : List PlacedTile
  first_tiles = map (λ p. tile_of p 65535) sys.seeds

  places_of : (ps : List Place) → places (map (λ p. tile_of p 65535) ps) ≡ ps
  places_of [] = refl
  places_of (p ∷ ps) = ap (λ l. p ∷ l) (places_of ps)

  first_places : places first_tiles ≡ sys.seeds
  first_places = places_of sys.seeds

  pub grounded : IsHistory sys first_tiles
  grounded = record {
    legal = subst (IsLegal sys) (sym first_places) (IsLegal-seeds sys valid.seed_types);
    distinct = subst HasDistinctSites (sym first_places) valid.distinct_seeds;
    inside = All-map (λ (t : PlacedTile). InBox sys.area t.place.site) (λ (p : Place). tile_of p 65535) sys.seeds valid.seed_sites;
    numbered = All-map (IsNumbered sys) (λ (p : Place). tile_of p 65535) sys.seeds
        (λ k d within. record { seed = λ _. refl; other = λ other. absurd (other (Contains-get_or sys.seeds k d within)) });
  }

  below : (n : ℕ) → Owns (2 ^ 64 - 1) n → n < 64
  below n own = dite (dec_lt n 64) (λ l. l) (λ f. let z = bit_at_above 18446744073709551615 64 n (lit≤ tt) (omega arith) in absurd (omega (arith, own, z)))

  -- no number of a scout placed a seed
  seed_placer : (t : PlacedTile) → Contains first_tiles t → t.placer ≡ 65535
  seed_placer t c =
      All-contains (λ (x : PlacedTile). x.placer ≡ 65535) first_tiles t
      (All-map (λ (x : PlacedTile). x.placer ≡ 65535) (λ (p : Place). tile_of p 65535) sys.seeds (λ k d within. refl)) c

  pub first-knows : (v : ScoutState) → IsScoutOf (2 ^ 64 - 1) sys.seeds [] v → ScoutInvariant sys first_tiles v
  first-knows v is = knows-by sys first_tiles (2 ^ 64 - 1) sys.seeds [] v is (record {
    some_number = lit≤ tt;
    small = lit≤ tt;
    seeds = λ p c. c;
    part = λ p c. subst (λ l. Contains l p) (sym first_places) c;
    mine_seen = λ t c. absurd (Contains-nil t c);
    mine_owned = λ t c. absurd (Contains-nil t c);
    mine_distinct = λ i j d before within. let l : j < 0 = within in absurd (omega (arith, l));
    in_order = λ n own. let l = below n own in by_none n first_tiles (λ t c e. let s = seed_placer t c in omega (arith, l, e, s));
  })

  only : (first : ScoutState) (a : ℕ) (v : ScoutState) → scout_at (Some first ∷ replicate 63 None) a ≡ Some v → (a ≡ 0) × (first ≡ v)
  only first zero v e = (refl, same_Some first v e)
  only first (suc a) v e = absurd (nobody 63 a v e)

  start : (first : ScoutState) → IsScoutOf (2 ^ 64 - 1) sys.seeds [] first → CoreInvariant sys (record { tiles = first_tiles; scouts = Some first ∷ replicate 63 None })
  unfolding lib.Count.count_trailing_zeros
  start first is = record {
    growth = record {
      history = grounded;
      each = λ a v e. subst (ScoutInvariant sys first_tiles) (only first a v e).1 (first-knows first is);
      apart = λ a b v w at_a at_b differ n _ _. differ ((only first a v at_a).0 ∙ sym (only first b w at_b).0);
    };
    named = record {
      names = refl;
      own_name = λ a v e. let t = only first a v e in ap (λ (x : ScoutState). least x.owned) (sym t.1) ∙ (ap least is.owned ∙ sym t.0);
    };
  }

  pub start-invariant : (s : CoreState) → IsStart sys s → CoreInvariant sys s
  start-invariant s is =
      let same : s ≡ record { tiles = first_tiles; scouts = Some is.first ∷ replicate 63 None } = λ i. record { tiles = is.tiles i; scouts = is.scouts i } in
      subst (CoreInvariant sys) (sym same) (start is.first is.seeds)

  pub start-there : (s : CoreState) × IsStart sys s
  start-there =
      let first : ScoutState = record { owned = 2 ^ 64 - 1; seen = sys.seeds; mine = [] } in (
        record { tiles = first_tiles; scouts = Some first ∷ replicate 63 None },
        record {
          tiles = refl;
          first = first;
          seeds = record { owned = refl; seen = record { part = λ p c. c; whole = λ p c. c }; distinct = valid.distinct_seeds; mine = refl };
          scouts = refl;
        },
      )
