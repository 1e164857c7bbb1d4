-- The places of a good certificate, in their canonical order, are a locally deterministic sequence.
use Rattle.std.proofs.Common.{◌≡◌, ◌<◌, ◌≤◌, ℕ, zero, suc, true, false, nat_lt, List, length, take, Some, None, slice_get, Contains, All, refl, sym, ◌∙◌, ap, subst, inl, inr, arith, zero-le, true≢false}
use Rattle.std.proofs.Math.Nat.{le_refl, le_trans}
use Rattle.std.proofs.lemmas.Bool.{cases_Bool, cases_lt}
use Rattle.std.proofs.lemmas.Bool.Decides.{nat_tests}
use Rattle.std.proofs.lemmas.Option.{none-some}
use Rattle.atam.specs.declared.site.Side.{Side}
use Rattle.atam.specs.declared.site.Side.TheVariants.{North, East, South, West}
use Rattle.atam.specs.declared.site.Site.{Site}
use Rattle.atam.specs.declared.place.TypeId.{TypeId}
use Rattle.atam.specs.declared.place.Place.{Place}
use Rattle.atam.specs.Sites.{neighbor, opposite}
use Rattle.atam.specs.Placements.{HasDistinctSites, IsPartOf, SamePlacements, tile_at}
use Rattle.atam.specs.TileSystem.{TileSystem, IsType}
use Rattle.atam.specs.Assembly.{bond, pull}
use Rattle.atam.specs.Growth.{IsLegal, IsCandidate}
use Rattle.atam.specs.Canonical.{IsCanonical}
use Rattle.atam.specs.Determinism.{is_input, without_outputs, IsExact, IsRival}
use Rattle.atam.proofs.Lists.{some_or_none, seed_from, seed_index, slice_get-Contains}
use Rattle.atam.proofs.Bonds.{neighbor-opposite, bond_is, bond-none, pull-mono, beside_a_tile}
use Rattle.atam.proofs.Placements.{Extends-IsPartOf, Extends-take, Contains-tile_at, tile_at-Contains, tile_at-index, empty_in_part}
use Rattle.atam.proofs.Sequences.{IsLegal-distinct, IsLegal-seeded, same_index}
use Rattle.atam.proofs.Canon.{canonical_IsLegal, canonical_part}
use Rattle.atam.proofs.Confluence.{is_input-seed, is_input-later, is_input-none}
use Rattle.atam.proofs.Opening.{IsCandidate-same}
use Rattle.atam.proofs.Tiles.{SameTiles-from}
use Rattle.cert_check.specs.declared.entry.Entry.{Entry}
use Rattle.cert_check.specs.Certificates.{states, places_of, is_waiting, stated_bond, stated_pull, without_waiting, IsSeed, IsGood}
use Rattle.cert_check.specs.Laws.{IsCertified}
use Rattle.cert_check.proofs.Entries.{entry_of, entry_standing, place_of, same_entry, states_at-is, stands}
use Rattle.cert_check.proofs.Waiting.{stated_yes, stated_no, standing_before, pull_before, rest_from}

-- the places of a good certificate in their canonical order
module _ (sys : TileSystem) (c : List Entry) (seeds_distinct : HasDistinctSites sys.seeds) (some_tau : 1 ≤ sys.tau) (distinct : HasDistinctSites (places_of c))
    (types : All (λ p. IsType sys p.tile) (places_of c)) (good : IsGood sys c) (s : List Place) (canonical : IsCanonical sys (places_of c) s) where
  legal : IsLegal sys s
  legal = canonical_IsLegal sys (places_of c) s distinct types seeds_distinct canonical

  part : IsPartOf s (places_of c)
  part = canonical_part sys (places_of c) s distinct types seeds_distinct canonical

  -- an entry that states a side is no seed's
  stating : (e : Entry) (d : Side) → Contains c e → states e d ≡ true → ¬ IsSeed sys e
  stating e d listed states_it seed = true≢false (sym states_it ∙ (good.sound e listed).bare seed d)

  -- nothing attaches anywhere
  nowhere : (m : Site) (t : TypeId) → ¬ IsCandidate sys (places_of c) m t
  nowhere m t grows =
      let tile = beside_a_tile sys (places_of c) m t (le_trans some_tau grows.attaches.held) in
      let e = entry_standing c (neighbor m tile.0) tile.1 tile.2 in
      let back : neighbor e.0.place.site (opposite tile.0) ≡ m = ap (λ n. neighbor n (opposite tile.0)) e.2 ∙ neighbor-opposite m tile.0 in
      let Grows : Site → Type 0 = λ n. IsCandidate sys (places_of c) n t in
      (good.sound e.0 e.1).closed (opposite tile.0) t (subst Grows (sym back) grows)

  -- what an entry states it has once what it states is listed
  has_stated : (e : Entry) (d : Side) → Contains c e → ¬ IsSeed sys e → ((f : Entry) → Contains c f → f.rank < e.rank → tile_at s f.place.site ≡ Some f.place.tile) →
      stated_bond sys c e d ≤ bond sys s e.place.site e.place.tile d
  has_stated e d listed no_seed below = elim (cases_Bool (states e d)) [
    | inr no_it_doesnt ↦ rw (stated_no sys c e d no_it_doesnt) zero-le
    | inl yes_it_does ↦
        let m = e.place.site in
        let t = e.place.tile in
        let held = ((good.sound e listed).attached no_seed).0 d yes_it_does in
        let u = held.from.place.tile in
        let In : Site → Type 0 = λ n. tile_at s n ≡ Some u in
        let in_s : In (neighbor m d) = subst In held.beside (below held.from held.listed held.lesser) in
        let same : stated_bond sys c e d ≡ bond sys s m t d =
        stated_yes sys c e d yes_it_does ∙ bond_is sys (places_of c) m t d u (stands c distinct held.from (neighbor m d) held.listed held.beside) ∙ sym (bond_is sys s m t d u in_s)
        in
        rw same (le_refl _)
  ]

  held_here : (e : Entry) → Contains c e → ¬ IsSeed sys e → ((f : Entry) → Contains c f → f.rank < e.rank → tile_at s f.place.site ≡ Some f.place.tile) →
      sys.tau ≤ pull sys s e.place.site e.place.tile
  unfolding pull stated_pull
  held_here e listed no_seed below =
      let sum = ((good.sound e listed).attached no_seed).1 in
      omega (arith, sum, has_stated e North listed no_seed below, has_stated e East listed no_seed below, has_stated e South listed no_seed below, has_stated e West listed no_seed below)

  -- each entry's place is listed, by the ranks
  listed_below : (n : ℕ) (e : Entry) → e.rank < n → Contains c e → tile_at s e.place.site ≡ Some e.place.tile
  listed_below zero e less listed = let never : ⊥ = omega (arith, less) in absurd never
  listed_below (suc n) e less listed =
      let p = e.place in
      let in_c = place_of c e listed in
      elim (some_or_none (tile_at s p.site)) [
        | inr some ↦
            let in_places = Extends-IsPartOf s (places_of c) distinct part p.site some.0 some.1 in
            some.1 ∙ sym in_places ∙ Contains-tile_at (places_of c) p distinct in_c
        | inl empty ↦
            let s_distinct = IsLegal-distinct sys s seeds_distinct legal in
            let unlisted : ¬ Contains s p = λ contains. none-some p.tile (sym empty ∙ Contains-tile_at s p s_distinct contains) in
            let no_seed : ¬ IsSeed sys e = λ seed. unlisted (IsLegal-seeded sys s seeds_distinct legal p seed) in
            let held = held_here e listed no_seed (λ f in_f lower. listed_below n f (omega (arith, lower, less)) in_f) in
            absurd (canonical.whole p (record { placed = in_c; unlisted = unlisted; held = held }))
      ]

  whole : IsPartOf (places_of c) s
  whole p contains =
      let e = entry_of c p contains in
      let in_s : Contains s e.0.place = tile_at-Contains s e.0.place.site e.0.place.tile (listed_below (suc e.0.rank) e.0 (omega arith) e.1) in
      subst (Contains s) e.2 in_s

  same : SamePlacements s (places_of c)
  same = record { part = part; whole = whole }

  -- the input sides are the stated ones: place i, of entry e, where they are for the places before it
  module _ (i : ℕ) (e : Entry) (listed : Contains c e) (later : length sys.seeds ≤ i) (there : slice_get s i ≡ Some e.place)
      (before : (k : ℕ) (f : Entry) (d : Side) → k < i → Contains c f → slice_get s k ≡ Some f.place → is_input sys s k d ≡ states f d) where
    no_seed : ¬ IsSeed sys e
    no_seed seed =
        let at = seed_index sys.seeds s legal.seeds e.place seed in
        let one : at.0 ≡ i = same_index sys s seeds_distinct legal at.0 i e.place e.place at.2 there refl in
        let early : at.0 < length sys.seeds = at.1 in
        omega (arith, one, early, later)

    -- no place before it states the side towards it
    silent : (d : Side) (u : TypeId) → tile_at (take i s) (neighbor e.place.site d) ≡ Some u → is_waiting c e.place.site d ≡ false
    silent d u found =
        let m = e.place.site in
        let q = tile_at-index s i (neighbor m d) u found in
        let f = entry_of c q.1 (part q.1 (slice_get-Contains s q.0 q.1 q.3)) in
        let there_f : slice_get s q.0 ≡ Some f.0.place = q.3 ∙ ap (λ p. Some p) (sym f.2) in
        let beside : f.0.place.site ≡ neighbor m d = ap (λ p. p.site) f.2 ∙ q.4 in
        let back : neighbor f.0.place.site (opposite d) ≡ m = ap (λ n. neighbor n (opposite d)) beside ∙ neighbor-opposite m d in
        let EmptyAt : Site → Type 0 = λ n. tile_at (take i s) n ≡ None in
        let empty : tile_at (take q.0 s) (neighbor f.0.place.site (opposite d)) ≡ None =
        empty_in_part (take q.0 s) (take i s) (neighbor f.0.place.site (opposite d)) (Extends-take s q.0 i (omega (arith, q.2)))
        (subst EmptyAt (sym back) (legal.each i e.place later there).empty)
        in
        states_at-is c distinct f.0 (neighbor m d) (opposite d) f.1 beside
        ∙ sym (before q.0 f.0 (opposite d) q.2 f.1 there_f)
        ∙ is_input-none sys s q.0 f.0.place (opposite d) there_f (bond-none sys (take q.0 s) f.0.place.site f.0.place.tile (opposite d) empty)

    bond-stated : (d : Side) → bond sys (take i s) e.place.site e.place.tile d ≤ stated_bond sys c e d
    bond-stated d =
        let m = e.place.site in
        let t = e.place.tile in
        elim (some_or_none (tile_at (take i s) (neighbor m d))) [
          | inl none ↦ rw (bond-none sys (take i s) m t d none) zero-le
          | inr some ↦
              let u = some.0 in
              let in_places = Extends-IsPartOf s (places_of c) distinct part (neighbor m d) u (standing_before sys s seeds_distinct legal i (neighbor m d) u some.1) in
              let whole_bond : bond sys (take i s) m t d ≡ bond sys (places_of c) m t d = bond_is sys (take i s) m t d u some.1 ∙ sym (bond_is sys (places_of c) m t d u in_places) in
              elim (cases_Bool (states e d)) [
                | inl yes_it_does ↦ rw (whole_bond, stated_yes sys c e d yes_it_does) (le_refl _)
                | inr no_it_doesnt ↦ elim (cases_lt 0 (bond sys (places_of c) m t d)) [
                  | inl bonded ↦ absurd (((good.sound e listed).attached no_seed).2 d (record { unstated = no_it_doesnt; bonded = bonded; unanswered = silent d u some.1 }))
                  | inr none ↦ omega (arith, whole_bond, none)
                ]
              ]
        ]

    -- the stated bonds add up to the temperature, so it has them all
    bond_is_stated : (d : Side) → bond sys (take i s) e.place.site e.place.tile d ≡ stated_bond sys c e d
    unfolding pull stated_pull
    bond_is_stated North = omega (arith, ((good.sound e listed).attached no_seed).1, (legal.each i e.place later there).held, bond-stated North, bond-stated East, bond-stated South, bond-stated West)
    bond_is_stated East = omega (arith, ((good.sound e listed).attached no_seed).1, (legal.each i e.place later there).held, bond-stated North, bond-stated East, bond-stated South, bond-stated West)
    bond_is_stated South = omega (arith, ((good.sound e listed).attached no_seed).1, (legal.each i e.place later there).held, bond-stated North, bond-stated East, bond-stated South, bond-stated West)
    bond_is_stated West = omega (arith, ((good.sound e listed).attached no_seed).1, (legal.each i e.place later there).held, bond-stated North, bond-stated East, bond-stated South, bond-stated West)

    -- a stated side is one with a bond
    stated_positive : (d : Side) → nat_lt 0 (stated_bond sys c e d) ≡ states e d
    stated_positive d = elim (cases_Bool (states e d)) [
      | inl yes_it_does ↦
          let bonded = (((good.sound e listed).attached no_seed).0 d yes_it_does).bonded in
          let positive : nat_lt 0 (bond sys (places_of c) e.place.site e.place.tile d) ≡ true = grind (arith, nat_tests, bonded) in
          ap (nat_lt 0) (stated_yes sys c e d yes_it_does) ∙ positive ∙ sym yes_it_does
      | inr no_it_doesnt ↦ ap (nat_lt 0) (stated_no sys c e d no_it_doesnt) ∙ sym no_it_doesnt
    ]

    later_inputs : (d : Side) → is_input sys s i d ≡ states e d
    later_inputs d = is_input-later sys s i e.place d later there ∙ ap (nat_lt 0) (bond_is_stated d) ∙ stated_positive d

  inputs_below : (n i : ℕ) (e : Entry) (d : Side) → i < n → Contains c e → slice_get s i ≡ Some e.place → is_input sys s i d ≡ states e d
  inputs_below zero i e d below listed there = let never : ⊥ = omega (arith, below) in absurd never
  inputs_below (suc n) i e d below listed there = elim (cases_lt i (length sys.seeds)) [
    | inl seed ↦ is_input-seed sys s i d seed ∙ sym ((good.sound e listed).bare (seed_from sys.seeds s legal.seeds i e.place seed there) d)
    | inr later ↦ later_inputs i e listed later there (λ k f g less in_f at_k. inputs_below n k f g (omega (arith, less, below)) in_f at_k) d
  ]

  inputs : (i : ℕ) (e : Entry) (d : Side) → Contains c e → slice_get s i ≡ Some e.place → is_input sys s i d ≡ states e d
  inputs i e d listed there = inputs_below (suc i) i e d (omega arith) listed there

  -- so each place is held exactly, and no other type is at its site
  module _ (i : ℕ) (p : Place) (later : length sys.seeds ≤ i) (there : slice_get s i ≡ Some p) where
    own : (e : Entry) × Contains c e × (e.place ≡ p)
    own = entry_of c p (part p (slice_get-Contains s i p there))

    own_there : slice_get s i ≡ Some own.0.place
    own_there = there ∙ ap (λ q. Some q) (sym own.2)

    own_no_seed : ¬ IsSeed sys own.0
    own_no_seed = no_seed i own.0 own.1 later own_there (λ k f d less in_f at_k. inputs k f d in_f at_k)

    is_exact : IsExact sys s i p
    is_exact =
        let Exact : Place → Type 0 = λ q. IsExact sys s i q in
        let sum = pull_before sys c seeds_distinct distinct s legal same inputs own.0 own.1 i own_there later in
        subst Exact own.2 (sum ∙ ((good.sound own.0 own.1).attached own_no_seed).1)

    no_rival : (t : TypeId) → ¬ IsRival sys s i p t
    no_rival t =
        let e = own.0 in
        let m = e.place.site in
        let NoRival : Place → Type 0 = λ q. ¬ IsRival sys s i q t in
        subst NoRival own.2 (λ rival. ((good.sound e own.1).attached own_no_seed).3 t (record {
          other = rival.other;
          kind = rival.grows.kind;
          held = le_trans rival.grows.attaches.held
              (pull-mono sys (without_outputs sys s i m) (without_waiting c m) m t (rest_from sys c seeds_distinct distinct s legal same inputs e own.1 i own_there));
        }))

  pub canonical_certified : IsCertified sys c s
  canonical_certified =
      let tiles = SameTiles-from s (places_of c) (IsLegal-distinct sys s seeds_distinct legal) same in
      record {
        same = same;
        deterministic = record {
          legal = legal;
          exact = is_exact;
          no_rival = λ i p t later there. no_rival i p later there t;
          terminal = λ m t grows. nowhere m t (IsCandidate-same sys s (places_of c) m t tiles grows);
        };
        inputs = inputs;
        ranks = λ e f d in_e in_f stated beside.
            let held = ((good.sound e in_e).attached (stating e d in_e stated)).0 d stated in
            let one : held.from ≡ f = same_entry c distinct held.from f held.listed in_f (held.beside ∙ sym beside) in
            subst (λ g. g.rank < e.rank) one held.lesser;
      }
