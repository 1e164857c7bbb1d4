-- An order that has been begun by the seeds.
use Rattle.std.proofs.Common.{◌≡◌, ◌≢◌, ◌⊎◌, ◌<◌, ◌≤◌, ◌+◌, ℕ, zero, suc, List, [], ◌∷◌, ◌++◌, length, length-append, take, slice_get, Some, None, Contains, refl, sym, ap, subst, inl, inr, arith}
use Rattle.std.proofs.Math.Seq.{take-append_seam}
use Rattle.std.proofs.lemmas.List.Elements.{All-contains}
use Rattle.atam.specs.declared.site.Site.{Site}
use Rattle.atam.specs.declared.place.Place.{Place}
use Rattle.atam.specs.Placements.{HasDistinctSites, IsPartOf, tile_at}
use Rattle.atam.specs.TileSystem.{TileSystem}
use Rattle.atam.specs.Growth.{IsProducible}
use Rattle.atam.proofs.Canon.{producible_seeded}
use Rattle.atam.specs.Canonical.{IsReady, BeginsCanonical}
use Rattle.atam.proofs.Lists.{some_or_none, seed_index, slice_get-Contains}
use Rattle.atam.proofs.Placements.{none_at, Contains-tile_at, tile_at-Contains, HasDistinctSites-push}
use Rattle.atam.proofs.Beginnings.{begun_part, begun_distinct}
use Rattle.atam.proofs.Count.{count_in_part}
use Rattle.replay_order.specs.Inner.Spans.{GoesOn}
use Rattle.replay_order.specs.ReplayAnswers.{HoldsSeeds, LacksSeed}
use Rattle.replay_order.proofs.ReadySites.{part_push}

-- a place that is listed has a tile at its site
pub listed_site : (s : List Place) (p : Place) → Contains s p → tile_at s p.site ≢ None
listed_site s p listed empty = All-contains (λ q. q.site ≢ p.site) s p (none_at s p.site empty) listed refl

module _ (sys : TileSystem) (tiles s : List Place) (begun : BeginsCanonical sys tiles s) where
  -- where nothing is listed, there is no seed
  pub no_seed_at : (m : Site) → tile_at s m ≡ None → tile_at sys.seeds m ≡ None
  no_seed_at m empty = elim (some_or_none (tile_at sys.seeds m)) [
    | inl none ↦ none
    | inr seed ↦
        let q : Place = record { site = m; tile = seed.0 } in
        let at = seed_index sys.seeds s begun.seeds q (tile_at-Contains sys.seeds m seed.0 seed.1) in
        absurd (listed_site s q (slice_get-Contains s at.0 q at.2) empty)
  ]

  -- there are fewer listed places than tiles as long as one isn't listed
  pub fewer_listed : HasDistinctSites tiles → HasDistinctSites sys.seeds → (p : Place) → tile_at tiles p.site ≡ Some p.tile → tile_at s p.site ≡ None → length s + 1 ≤ length tiles
  fewer_listed distinct seeds_distinct p placed empty =
      let listed_distinct = begun_distinct sys tiles s begun distinct seeds_distinct in
      let few = count_in_part (s ++ p ∷ []) tiles (HasDistinctSites-push s p listed_distinct empty) distinct (part_push s tiles p (begun_part sys tiles s begun) placed) in
      omega (arith, few, length-append s (p ∷ []))

-- seeds that stand there are a part
pub seeds_part : (sys : TileSystem) (tiles : List Place) → HoldsSeeds sys tiles → IsPartOf sys.seeds tiles
seeds_part sys tiles held p seed = tile_at-Contains tiles p.site p.tile (All-contains (λ q. tile_at tiles q.site ≡ Some q.tile) sys.seeds p held seed)

-- a place of two lists one behind the other is of the first, or it is of the second
append_cases : (a b : List Place) (i : ℕ) (p : Place) → slice_get (a ++ b) i ≡ Some p →
    (i < length a) ⊎ ((j : ℕ) × (slice_get b j ≡ Some p) × (take i (a ++ b) ≡ a ++ take j b))
append_cases [] b i p there = inr (i, there, refl)
append_cases (x ∷ a) b zero p there = inl (omega arith)
append_cases (x ∷ a) b (suc i) p there = elim (append_cases a b i p there) [
  | inl first ↦ inl (omega (arith, first))
  | inr second ↦ inr (second.0, second.1, ap (λ l. x ∷ l) second.2)
]

-- the seeds, and what goes on behind them, begin an order
pub goes_on_begins : (sys : TileSystem) (tiles part : List Place) → IsPartOf sys.seeds tiles → GoesOn sys tiles sys.seeds part → BeginsCanonical sys tiles (sys.seeds ++ part)
goes_on_begins sys tiles part seeded goes_on = record {
  seeded = seeded;
  seeds = take-append_seam sys.seeds part;
  ready = λ i p later there. elim (append_cases sys.seeds part i p there) [
    | inl seed ↦ let never : ⊥ = omega (arith, seed, later) in absurd never
    | inr behind ↦ subst (λ (l : List Place). IsReady sys tiles l p) (sym behind.2) (goes_on.ready behind.0 p behind.1)
  ];
  least = λ i p q later there ready_q. elim (append_cases sys.seeds part i p there) [
    | inl seed ↦ let never : ⊥ = omega (arith, seed, later) in absurd never
    | inr behind ↦ goes_on.least behind.0 p q behind.1 (subst (λ (l : List Place). IsReady sys tiles l q) behind.2 ready_q)
  ];
}

-- a producible assembly lacks no seed
pub lacks_no_seed : (sys : TileSystem) (tiles : List Place) → HasDistinctSites sys.seeds → HasDistinctSites tiles → IsProducible sys tiles → LacksSeed sys tiles → ⊥
lacks_no_seed sys tiles seeds_distinct distinct producible lacks =
    lacks.4 (Contains-tile_at tiles lacks.1 distinct (producible_seeded sys tiles seeds_distinct producible lacks.1 (lacks.0, lacks.2, lacks.3)))
