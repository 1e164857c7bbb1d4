-- The certificate of a locally deterministic sequence.
use Rattle.std.proofs.Common.{◌≡◌, ◌<◌, ◌++◌, ℕ, zero, suc, Bool, true, false, nat_lt, List, [], ◌∷◌, length, take, Some, slice_get, option_map, refl, sym, ◌∙◌, ap, subst, inl, inr, arith, true≢false}
use Rattle.std.proofs.Math.Seq.{take-length}
use Rattle.std.proofs.lemmas.Bool.{cases_lt}
use Rattle.std.proofs.lemmas.List.{length-map, map-append, length-take-le}
use Rattle.std.proofs.lemmas.Option.{none-some, slice_get-map, slice_get_within}
use Rattle.atam.specs.declared.site.Side.{Side}
use Rattle.atam.specs.declared.site.Side.TheVariants.{North, East, South, West}
use Rattle.atam.specs.declared.place.Place.{Place}
use Rattle.atam.specs.Sites.{neighbor}
use Rattle.atam.specs.Placements.{HasDistinctSites, SamePlacements, tile_at}
use Rattle.atam.specs.TileSystem.{TileSystem}
use Rattle.atam.specs.Determinism.{is_input, IsLocallyDeterministic}
use Rattle.atam.proofs.Lists.{some_or_none, take_step, take_end, push_cases, Contains-slice_get}
use Rattle.atam.proofs.Bonds.{bond-none}
use Rattle.atam.proofs.Placements.{tile_at-index}
use Rattle.atam.proofs.Sequences.{IsLegal-distinct, same_index}
use Rattle.atam.proofs.Confluence.{is_input-seed, is_input-later}
use Rattle.cert_check.specs.declared.entry.Entry.{Entry}
use Rattle.cert_check.specs.Certificates.{states, places_of, IsGood, IsCertificateOf}
use Rattle.cert_check.specs.Laws.{IsCertified}
use Rattle.cert_check.specs.Inner.Bits.{bit, bits}
use Rattle.cert_check.proofs.Certified.{certified_good}

-- an input side leads to an earlier place
pub input_from : (sys : TileSystem) (s : List Place) (i : ℕ) (p : Place) (d : Side) → slice_get s i ≡ Some p → is_input sys s i d ≡ true →
    (k : ℕ) × (q : Place) × (k < i) × (slice_get s k ≡ Some q) × (q.site ≡ neighbor p.site d)
input_from sys s i p d there input = elim (cases_lt i (length sys.seeds)) [
  | inl seed ↦ absurd (true≢false (sym input ∙ is_input-seed sys s i d seed))
  | inr later ↦ elim (some_or_none (tile_at (take i s) (neighbor p.site d))) [
    | inl none ↦
        let test : nat_lt 0 0 ≡ true = ap (nat_lt 0) (sym (bond-none sys (take i s) p.site p.tile d none)) ∙ sym (is_input-later sys s i p d later there) ∙ input in
        absurd (true≢false (sym test))
    | inr some ↦
        let q = tile_at-index s i (neighbor p.site d) some.0 some.1 in
        (q.0, q.1, q.2, q.3, q.4)
  ]
]

module _ (sys : TileSystem) (s : List Place) (c : List Entry) (seeds_distinct : HasDistinctSites sys.seeds)
    (ld : IsLocallyDeterministic sys s) (cert : IsCertificateOf sys s c) where
  -- the index of an entry is that of its place
  place_index : (i : ℕ) (e : Entry) → slice_get c i ≡ Some e → slice_get s i ≡ Some e.place
  place_index i e there =
      ap (λ l. slice_get l i) (sym cert.places) ∙ slice_get-map (λ (f : Entry). f.place) c i ∙ ap (option_map (λ (f : Entry). f.place)) there

  own_certified : IsCertified sys c s
  own_certified = record {
    same = subst (SamePlacements s) (sym cert.places) (record { part = λ p h. h; whole = λ p h. h });
    deterministic = ld;
    inputs = λ i e d listed there.
        let at = Contains-slice_get c e listed in
        let one : i ≡ at.0 = same_index sys s seeds_distinct ld.legal i at.0 e.place e.place there (place_index at.0 e at.2) refl in
        ap (λ k. is_input sys s k d) one ∙ sym (cert.sides at.0 e d at.2);
    ranks = λ e f d in_e in_f stated beside.
        let i = Contains-slice_get c e in_e in
        let j = Contains-slice_get c f in_f in
        let from = input_from sys s i.0 e.place d (place_index i.0 e i.2) (sym (cert.sides i.0 e d i.2) ∙ stated) in
        let one : from.0 ≡ j.0 = same_index sys s seeds_distinct ld.legal from.0 j.0 from.1 f.place from.3 (place_index j.0 f j.2) (from.4 ∙ sym beside) in
        let lower : from.0 < i.0 = from.2 in
        omega (arith, one, lower, cert.ranks i.0 e i.2, cert.ranks j.0 f j.2);
  }

  pub own_good : IsGood sys c
  own_good =
      let distinct : HasDistinctSites (places_of c) = subst HasDistinctSites (sym cert.places) (IsLegal-distinct sys s seeds_distinct ld.legal) in
      certified_good sys c seeds_distinct distinct s own_certified

unfoldable pub entry : Place → Bool → Bool → Bool → Bool → ℕ → Entry
entry p n e s w rank = record { place = p; sides = bits n e s w; rank = rank }

-- they are read back
four : (P : Bool → Bool → Bool → Bool → Type 0) →
    P true true true true → P true true true false → P true true false true → P true true false false →
    P true false true true → P true false true false → P true false false true → P true false false false →
    P false true true true → P false true true false → P false true false true → P false true false false →
    P false false true true → P false false true false → P false false false true → P false false false false →
    (n e s w : Bool) → P n e s w
four P a b c d f g h i j k l m o p q r true true true true = a
four P a b c d f g h i j k l m o p q r true true true false = b
four P a b c d f g h i j k l m o p q r true true false true = c
four P a b c d f g h i j k l m o p q r true true false false = d
four P a b c d f g h i j k l m o p q r true false true true = f
four P a b c d f g h i j k l m o p q r true false true false = g
four P a b c d f g h i j k l m o p q r true false false true = h
four P a b c d f g h i j k l m o p q r true false false false = i
four P a b c d f g h i j k l m o p q r false true true true = j
four P a b c d f g h i j k l m o p q r false true true false = k
four P a b c d f g h i j k l m o p q r false true false true = l
four P a b c d f g h i j k l m o p q r false true false false = m
four P a b c d f g h i j k l m o p q r false false true true = o
four P a b c d f g h i j k l m o p q r false false true false = p
four P a b c d f g h i j k l m o p q r false false false true = q
four P a b c d f g h i j k l m o p q r false false false false = r

-- whether a side is among four
unfoldable pub among : Bool → Bool → Bool → Bool → Side → Bool
among n e s w North = n
among n e s w East = e
among n e s w South = s
among n e s w West = w

pub states-entry : (p : Place) (rank : ℕ) (d : Side) (n e s w : Bool) → states (entry p n e s w rank) d ≡ among n e s w d
unfolding states entry bits bit among
states-entry p rank North = four (λ n e s w. states (entry p n e s w rank) North ≡ n) refl refl refl refl refl refl refl refl refl refl refl refl refl refl refl refl
states-entry p rank East = four (λ n e s w. states (entry p n e s w rank) East ≡ e) refl refl refl refl refl refl refl refl refl refl refl refl refl refl refl refl
states-entry p rank South = four (λ n e s w. states (entry p n e s w rank) South ≡ s) refl refl refl refl refl refl refl refl refl refl refl refl refl refl refl refl
states-entry p rank West = four (λ n e s w. states (entry p n e s w rank) West ≡ w) refl refl refl refl refl refl refl refl refl refl refl refl refl refl refl refl

-- the sides that a number of bits states
pub states-bits : (p : Place) (sides rank : ℕ) (has : Side → Bool) → sides ≡ bits (has North) (has East) (has South) (has West) →
    (d : Side) → states (record { place = p; sides = sides; rank = rank }) d ≡ has d
unfolding entry among
states-bits p sides rank has is d = ap (λ n. states (record { place = p; sides = n; rank = rank }) d) is ∙ each d
  where
    each : (d : Side) → states (entry p (has North) (has East) (has South) (has West) rank) d ≡ has d
    each North = states-entry p rank North (has North) (has East) (has South) (has West)
    each East = states-entry p rank East (has North) (has East) (has South) (has West)
    each South = states-entry p rank South (has North) (has East) (has South) (has West)
    each West = states-entry p rank West (has North) (has East) (has South) (has West)

-- the index of what follows a list
pub last_index : {X : Type 0} (c : List X) (x : X) (i : ℕ) (e : X) → slice_get (c ++ x ∷ []) i ≡ Some e → take i (c ++ x ∷ []) ≡ c → i ≡ length c
last_index c x i e there all =
    let within = slice_get_within (c ++ x ∷ []) i e there in
    sym (length-take-le i (c ++ x ∷ []) (omega (arith, within))) ∙ ap length all

module _ (sys : TileSystem) (s : List Place) where
  -- the entry of place i of s
  entry_here : ℕ → Place → Entry
  entry_here i p = entry p (is_input sys s i North) (is_input sys s i East) (is_input sys s i South) (is_input sys s i West) i

  states-here : (i : ℕ) (p : Place) (d : Side) → states (entry_here i p) d ≡ is_input sys s i d
  unfolding entry_here among
  states-here i p North = states-entry p i North (is_input sys s i North) (is_input sys s i East) (is_input sys s i South) (is_input sys s i West)
  states-here i p East = states-entry p i East (is_input sys s i North) (is_input sys s i East) (is_input sys s i South) (is_input sys s i West)
  states-here i p South = states-entry p i South (is_input sys s i North) (is_input sys s i East) (is_input sys s i South) (is_input sys s i West)
  states-here i p West = states-entry p i West (is_input sys s i North) (is_input sys s i East) (is_input sys s i South) (is_input sys s i West)

  record IsBegun (n : ℕ) (c : List Entry) : Type 0 where
    places : places_of c ≡ take n s
    each : (i : ℕ) (e : Entry) → slice_get c i ≡ Some e → e ≡ entry_here i e.place

  begun : (n : ℕ) → (c : List Entry) × IsBegun n c
  unfolding entry_here entry
  begun zero = ([], record { places = refl; each = λ i e there. absurd (none-some e there) })
  begun (suc n) =
      let before = begun n in
      elim (some_or_none (slice_get s n)) [
        | inl past ↦
            let ends = take_end s n past in
            (before.0, record { places = before.1.places ∙ ends.1 ∙ sym ends.0; each = before.1.each })
        | inr here ↦
            let p = here.0 in
            let x = entry_here n p in
            let within = slice_get_within s n p here.1 in
            let long : length (places_of before.0) ≡ n = ap length before.1.places ∙ length-take-le n s (omega (arith, within)) in
            let count : length before.0 ≡ n = sym (length-map before.0 (λ (e : Entry). e.place)) ∙ long in (
              before.0 ++ x ∷ [],
              record {
                places = map-append (λ (e : Entry). e.place) before.0 (x ∷ []) ∙ ap (λ l. l ++ p ∷ []) before.1.places ∙ sym (take_step s n p here.1);
                each = λ i e there. elim (push_cases before.0 x i e there) [
                  | inl old ↦ before.1.each i e old.0
                  | inr new ↦
                      let index : i ≡ n = last_index before.0 x i e there new.1 ∙ count in
                      sym new.0 ∙ ap (λ k. entry_here k p) (sym index) ∙ ap (λ (f : Entry). entry_here i f.place) new.0
                ];
              },
            )
      ]

  pub certificate_exists : (c : List Entry) × IsCertificateOf sys s c
  unfolding entry_here entry
  certificate_exists =
      let c = begun (length s) in (
        c.0,
        record {
          places = c.1.places ∙ take-length s;
          sides = λ i e d there. ap (λ f. states f d) (c.1.each i e there) ∙ states-here i e.place d;
          ranks = λ i e there. ap (λ f. f.rank) (c.1.each i e there);
        },
      )
