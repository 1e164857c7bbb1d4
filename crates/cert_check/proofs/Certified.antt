-- A certificate is good exactly where some locally deterministic sequence is certified by it.
use Rattle.std.proofs.Common.{◌≡◌, ◌↔◌, ◌<◌, ◌≤◌, ℕ, true, false, nat_lt, List, length, take, Some, slice_get, Contains, All, sym, ◌∙◌, ap, subst, inl, inr, arith, true≢false}
use Rattle.std.proofs.Math.Nat.{le_trans}
use Rattle.std.proofs.lemmas.Bool.{cases_lt, cases_order}
use Rattle.std.proofs.lemmas.Bool.Decides.{nat_tests}
use Rattle.std.proofs.lemmas.Option.{same_Some}
use Rattle.atam.specs.declared.site.Side.{Side}
use Rattle.atam.specs.declared.site.Site.{Site}
use Rattle.atam.specs.declared.place.TypeId.{TypeId}
use Rattle.atam.specs.declared.place.Place.{Place}
use Rattle.atam.specs.Sites.{neighbor, opposite}
use Rattle.atam.specs.Placements.{HasDistinctSites, tile_at}
use Rattle.atam.specs.TileSystem.{TileSystem, IsType, side_glue}
use Rattle.atam.specs.Assembly.{bond, interaction}
use Rattle.atam.specs.Determinism.{is_input, without_outputs, IsLocallyDeterministic}
use Rattle.atam.proofs.Lists.{some_or_none, seed_from, seed_index, Contains-slice_get}
use Rattle.atam.proofs.Bonds.{neighbor-opposite, opposite-opposite, interaction-comm, bond_is, bond-none, pull-mono}
use Rattle.atam.proofs.Placements.{Extends, same_tiles, tile_at-index, tile_at-place}
use Rattle.atam.proofs.Sequences.{IsLegal-distinct, IsLegal-listed, IsLegal-seeded}
use Rattle.atam.proofs.Existence.{canonical_exists}
use Rattle.atam.proofs.Confluence.{is_input-seed, is_input-later}
use Rattle.atam.proofs.Opening.{IsCandidate-same}
use Rattle.atam.proofs.Tiles.{same_back, SameTiles-from}
use Rattle.cert_check.specs.declared.entry.Entry.{Entry}
use Rattle.cert_check.specs.Certificates.{states, places_of, stated_pull, without_waiting, IsSeed, IsHeld, IsLoose, IsRivalOf, IsSound, IsGood}
use Rattle.cert_check.specs.Laws.{IsCertified}
use Rattle.cert_check.proofs.Entries.{neighbor-other, place_of, states_at-is}
use Rattle.cert_check.proofs.Waiting.{stated_no, gone_itself, same_bond, bond_test, stands_before, stated_before, pull_before, entry_of_index, rest_to}
use Rattle.cert_check.proofs.Ordering.{canonical_certified}

-- what a certified sequence says of each entry
module _ (sys : TileSystem) (c : List Entry) (seeds_distinct : HasDistinctSites sys.seeds) (distinct : HasDistinctSites (places_of c))
    (s : List Place) (cert : IsCertified sys c s) where
  ld : IsLocallyDeterministic sys s
  ld = cert.deterministic

  -- the index of an entry's place
  index_of : (e : Entry) → Contains c e → (i : ℕ) × (i < length s) × (slice_get s i ≡ Some e.place)
  index_of e listed = Contains-slice_get s e.place (cert.same.whole e.place (place_of c e listed))

  both_ways : Extends s (places_of c) × Extends (places_of c) s
  both_ways = same_tiles s (places_of c) (IsLegal-distinct sys s seeds_distinct ld.legal) distinct cert.same

  module _ (e : Entry) (listed : Contains c e) (i : ℕ) (there : slice_get s i ≡ Some e.place) (later : length sys.seeds ≤ i) where
    same_here : (d : Side) (u : TypeId) → tile_at (take i s) (neighbor e.place.site d) ≡ Some u →
        bond sys (take i s) e.place.site e.place.tile d ≡ bond sys (places_of c) e.place.site e.place.tile d
    same_here = same_bond sys c seeds_distinct distinct s ld.legal cert.same cert.inputs e listed i there

    exact : stated_pull sys c e ≡ sys.tau
    exact = sym (pull_before sys c seeds_distinct distinct s ld.legal cert.same cert.inputs e listed i there later) ∙ ld.exact i e.place later there

    held : (d : Side) → states e d ≡ true → IsHeld sys c e d
    held d yes_it_does =
        let some = stands_before sys c seeds_distinct distinct s ld.legal cert.same cert.inputs e listed i there later d yes_it_does in
        let q = tile_at-index s i (neighbor e.place.site d) some.0 some.1 in
        let f = entry_of_index sys c seeds_distinct distinct s ld.legal cert.same cert.inputs q.0 q.1 q.3 in
        let beside : f.0.place.site ≡ neighbor e.place.site d = ap (λ p. p.site) f.2 ∙ q.4 in
        let test = sym (bond_test sys c seeds_distinct distinct s ld.legal cert.same cert.inputs e listed i there later d) ∙ yes_it_does in
        let before : 0 < bond sys (take i s) e.place.site e.place.tile d = grind (arith, nat_tests, test) in
        record {
          from = f.0;
          listed = f.1;
          beside = beside;
          lesser = cert.ranks e f.0 d listed f.1 yes_it_does beside;
          bonded = subst (λ b. 0 < b) (same_here d some.0 some.1) before;
        }

    -- a bond that isn't an input is answered
    no_loose : (d : Side) → ¬ IsLoose sys c e d
    no_loose d loose = elim (some_or_none (tile_at (places_of c) (neighbor e.place.site d))) [
      | inl none ↦
          let bonded : 0 < 0 = subst (λ b. 0 < b) (bond-none sys (places_of c) e.place.site e.place.tile d none) loose.bonded in
          omega (arith, bonded)
      | inr some ↦
          let n = neighbor e.place.site d in
          let t = e.place.tile in
          let in_s : tile_at s n ≡ Some some.0 = both_ways.1 n some.0 some.1 in
          let q = tile_at-place s n some.0 in_s in
          let f = entry_of_index sys c seeds_distinct distinct s ld.legal cert.same cert.inputs q.0 q.1 q.2 in
          let beside : f.0.place.site ≡ n = ap (λ p. p.site) f.2 ∙ q.3 in
          let silent : is_input sys s q.0 (opposite d) ≡ false =
          cert.inputs q.0 f.0 (opposite d) f.1 (q.2 ∙ ap (λ p. Some p) (sym f.2)) ∙ sym (states_at-is c distinct f.0 n (opposite d) f.1 beside) ∙ loose.unanswered
          in
          elim (cases_order q.0 i) [
            | inl equal ↦
                let one : q.1 ≡ e.place = same_Some q.1 e.place (sym q.2 ∙ ap (slice_get s) equal ∙ there) in
                neighbor-other e.place.site d (sym q.3 ∙ ap (λ p. p.site) one)
            | inr rest ↦ elim rest [
              | inl less ↦
                  let At : Site → Type 0 = λ r. tile_at (take i s) r ≡ Some some.0 in
                  let before : At n = subst At q.3 (IsLegal-listed sys s seeds_distinct ld.legal q.0 i q.1 less q.2 ∙ ap (λ u. Some u) q.4) in
                  let none : bond sys (places_of c) e.place.site t d ≡ 0 = sym (same_here d some.0 before) ∙ stated_before sys c seeds_distinct distinct s ld.legal cert.same cert.inputs e listed i there later d ∙ stated_no sys c e d loose.unstated in
                  let bonded : 0 < bond sys (places_of c) e.place.site t d = loose.bonded in
                  omega (arith, none, bonded)
              | inr more ↦
                  let back : neighbor q.1.site (opposite d) ≡ e.place.site = ap (λ r. neighbor r (opposite d)) q.3 ∙ neighbor-opposite e.place.site d in
                  let At : Site → Type 0 = λ r. tile_at (take q.0 s) r ≡ Some t in
                  let behind : At (neighbor q.1.site (opposite d)) = subst At (sym back) (IsLegal-listed sys s seeds_distinct ld.legal i q.0 e.place more there) in
                  let same : bond sys (take q.0 s) q.1.site q.1.tile (opposite d) ≡ bond sys (places_of c) e.place.site t d =
                  bond_is sys (take q.0 s) q.1.site q.1.tile (opposite d) t behind
                  ∙ interaction-comm sys (side_glue sys q.1.tile (opposite d)) (side_glue sys t (opposite (opposite d)))
                  ∙ ap (λ x. interaction sys (side_glue sys t x) (side_glue sys q.1.tile (opposite d))) (opposite-opposite d)
                  ∙ ap (λ u. interaction sys (side_glue sys t d) (side_glue sys u (opposite d))) q.4
                  ∙ sym (bond_is sys (places_of c) e.place.site t d some.0 some.1)
                  in
                  let bonded : 0 < bond sys (places_of c) e.place.site t d = loose.bonded in
                  let positive : nat_lt 0 (bond sys (places_of c) e.place.site t d) ≡ true = grind (arith, nat_tests, bonded) in
                  let input : is_input sys s q.0 (opposite d) ≡ true =
                  is_input-later sys s q.0 q.1 (opposite d) (omega (arith, later, more)) q.2 ∙ ap (nat_lt 0) same ∙ positive
                  in
                  true≢false (sym input ∙ silent)
            ]
          ]
    ]

    no_rival : (t : TypeId) → ¬ IsRivalOf sys c e t
    no_rival t rival =
        let m = e.place.site in
        let rest = rest_to sys c seeds_distinct distinct s ld.legal cert.same cert.inputs e listed i there in
        ld.no_rival i e.place t later there (record {
          other = rival.other;
          grows = record {
            kind = rival.kind;
            attaches = record {
              empty = gone_itself sys s i m;
              held = le_trans rival.held (pull-mono sys (without_waiting c m) (without_outputs sys s i m) m t rest);
            };
          };
        })

  -- a place that is no seed's comes after the seeds
  after_seeds : (e : Entry) → ¬ IsSeed sys e → (i : ℕ) → slice_get s i ≡ Some e.place → length sys.seeds ≤ i
  after_seeds e no_seed i there = elim (cases_lt i (length sys.seeds)) [
    | inl seed ↦ absurd (no_seed (seed_from sys.seeds s ld.legal.seeds i e.place seed there))
    | inr later ↦ later
  ]

  sound : (e : Entry) → Contains c e → IsSound sys c e
  sound e listed =
      let at = index_of e listed in
      let later : ¬ IsSeed sys e → length sys.seeds ≤ at.0 = λ no_seed. after_seeds e no_seed at.0 at.2 in
      record {
        bare = λ seed d.
            let first = seed_index sys.seeds s ld.legal.seeds e.place seed in
            sym (cert.inputs first.0 e d listed first.2) ∙ is_input-seed sys s first.0 d first.1;
        attached = λ no_seed.
            let behind = later no_seed in
            (held e listed at.0 at.2 behind, exact e listed at.0 at.2 behind, no_loose e listed at.0 at.2 behind, no_rival e listed at.0 at.2 behind);
        closed = λ d t grows. ld.terminal (neighbor e.place.site d) t (IsCandidate-same sys (places_of c) s (neighbor e.place.site d) t (SameTiles-from (places_of c) s distinct (same_back s (places_of c) cert.same)) grows);
      }

  pub certified_good : IsGood sys c
  certified_good = record {
    seeds = λ p seed. cert.same.part p (IsLegal-seeded sys s seeds_distinct ld.legal p seed);
    sound = sound;
  }

pub good_where_certified : (sys : TileSystem) (c : List Entry) → HasDistinctSites sys.seeds → 1 ≤ sys.tau →
    HasDistinctSites (places_of c) → All (λ p. IsType sys p.tile) (places_of c) →
    IsGood sys c ↔ ((s : List Place) × IsCertified sys c s)
good_where_certified sys c seeds_distinct some_tau distinct types = (
  λ good.
      let order = canonical_exists sys (places_of c) distinct seeds_distinct good.seeds in
      (order.0, canonical_certified sys c seeds_distinct some_tau distinct types good order.0 order.1),
  λ some. certified_good sys c seeds_distinct distinct some.0 some.1,
)
