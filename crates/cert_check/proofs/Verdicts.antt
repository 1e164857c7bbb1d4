-- A certificate has at most one verdict, and it is yes exactly where the certificate is good.
use Rattle.std.proofs.Common.{◌≡◌, ◌<◌, ◌≤◌, ◌↔◌, ℕ, List, Some, Contains, refl, sym, ◌∙◌, ap, subst, inl, inr, arith}
use Rattle.std.proofs.lemmas.Bool.{cases_order}
use Rattle.std.proofs.lemmas.Option.{same_Some}
use Rattle.atam.specs.declared.site.Side.{Side}
use Rattle.atam.specs.declared.site.Side.TheVariants.{North, East, South, West}
use Rattle.atam.specs.declared.site.Site.{Site}
use Rattle.atam.specs.declared.place.TypeId.{TypeId}
use Rattle.atam.specs.Placements.{IsPartOf}
use Rattle.atam.specs.TileSystem.{TileSystem}
use Rattle.atam.specs.Growth.{IsCandidate}
use Rattle.atam.proofs.Lists.{slice_get-Contains}
use Rattle.atam.proofs.Open.{least_open_unique}
use Rattle.local_check.specs.Firsts.{IsLeast}
use Rattle.local_check.proofs.Firsts.{one_first_not, one_least}
use Rattle.cert_check.specs.declared.entry.Entry.{Entry}
use Rattle.cert_check.specs.declared.verdict.CertVerdict.{CertVerdict}
use Rattle.cert_check.specs.declared.verdict.CertVerdict.TheVariants.{Yes, NoSeed, SeedSides, BadInput, NotExact, LooseBond, Rival, NotTerminal}
use Rattle.cert_check.specs.Certificates.{bit_of, places_of, IsLoose, IsRivalOf, IsSound, IsGood}
use Rattle.cert_check.specs.Judgement.{IsFirstUnlisted, IsBeside, IsFault, IsFirstFault, IsVerdict}

-- the code of a verdict
pub code : CertVerdict → ℕ
code Yes = 0
code (NoSeed m) = 1
code (SeedSides m) = 2
code (BadInput m) = 3
code (NotExact m sum) = 4
code (LooseBond m d) = 5
code (Rival m t) = 6
code (NotTerminal m t) = 7

code-most : (v : CertVerdict) → code v ≤ 7
unfolding code
code-most Yes = omega arith
code-most (NoSeed m) = omega arith
code-most (SeedSides m) = omega arith
code-most (BadInput m) = omega arith
code-most (NotExact m sum) = omega arith
code-most (LooseBond m d) = omega arith
code-most (Rival m t) = omega arith
code-most (NotTerminal m t) = omega arith

-- no two sides have one bit
one_bit : (d f : Side) → bit_of d ≡ bit_of f → d ≡ f
one_bit North North same = refl
one_bit East East same = refl
one_bit South South same = refl
one_bit West West same = refl
one_bit d f same = let never : ⊥ = omega (arith, same) in absurd never

module _ (sys : TileSystem) (c : List Entry) where
  one_loose : (e : Entry) (d f : Side) → IsLeast (IsLoose sys c e) bit_of d → IsLeast (IsLoose sys c e) bit_of f → d ≡ f
  one_loose e d f h k = one_bit d f (one_least (IsLoose sys c e) bit_of d f h k)

  one_rival : (e : Entry) (t u : TypeId) → IsLeast (IsRivalOf sys c e) (λ v. v.0) t → IsLeast (IsRivalOf sys c e) (λ v. v.0) u → t ≡ u
  one_rival e t u h k =
      let number : t.0 ≡ u.0 = one_least (IsRivalOf sys c e) (λ v. v.0) t u h k in
      λ i. record { 0 = number i }

  -- an entry fails no check before its first
  never_before : (e : Entry) (v w : CertVerdict) → code v < code w → IsFault sys c e v → IsFault sys c e w → ⊥
  unfolding code
  never_before e (SeedSides m) (BadInput n) less h k = k.1 h.1
  never_before e (SeedSides m) (NotExact n y) less h k = k.1 h.1
  never_before e (SeedSides m) (LooseBond n f) less h k = k.1 h.1
  never_before e (SeedSides m) (Rival n u) less h k = k.1 h.1
  never_before e (SeedSides m) (NotTerminal n u) less h k = h.2 (k.0 h.1)
  never_before e (BadInput m) (NotExact n y) less h k = h.2 k.2
  never_before e (BadInput m) (LooseBond n f) less h k = h.2 k.2
  never_before e (BadInput m) (Rival n u) less h k = h.2 k.2
  never_before e (BadInput m) (NotTerminal n u) less h k = h.2 (k.1 h.1).0
  never_before e (NotExact m x) (LooseBond n f) less h k = h.3 k.3
  never_before e (NotExact m x) (Rival n u) less h k = h.3 k.3
  never_before e (NotExact m x) (NotTerminal n u) less h k = h.3 (k.1 h.1).1
  never_before e (LooseBond m d) (Rival n u) less h k = k.4 d h.4.holds
  never_before e (LooseBond m d) (NotTerminal n u) less h k = (k.1 h.1).2 d h.4.holds
  never_before e (Rival m t) (NotTerminal n u) less h k = (k.1 h.1).3 t h.5.holds
  never_before e Yes w less h k = h
  never_before e (NoSeed m) w less h k = h
  never_before e (NotTerminal m t) w less h k = omega (arith, less, code-most w)
  never_before e v w less h k = omega (arith, less)

  -- a check is failed in one way
  same_code : (e : Entry) (v w : CertVerdict) → code v ≡ code w → IsFault sys c e v → IsFault sys c e w → v ≡ w
  unfolding code
  same_code e (SeedSides m) (SeedSides n) same h k = ap (λ r. SeedSides r) (sym h.0 ∙ k.0)
  same_code e (BadInput m) (BadInput n) same h k = ap (λ r. BadInput r) (sym h.0 ∙ k.0)
  same_code e (NotExact m x) (NotExact n y) same h k =
      let site : m ≡ n = sym h.0 ∙ k.0 in
      let sum : x ≡ y = sym h.4 ∙ k.4 in
      λ i. NotExact (site i) (sum i)
  same_code e (LooseBond m d) (LooseBond n f) same h k =
      let site : m ≡ n = sym h.0 ∙ k.0 in
      let side : d ≡ f = one_loose e d f h.4 k.4 in
      λ i. LooseBond (site i) (side i)
  same_code e (Rival m t) (Rival n u) same h k =
      let site : m ≡ n = sym h.0 ∙ k.0 in
      let tile : t ≡ u = one_rival e t u h.5 k.5 in
      λ i. Rival (site i) (tile i)
  same_code e (NotTerminal m t) (NotTerminal n u) same h k =
      let one = same_Some (m, t) (n, u) (least_open_unique sys (places_of c) (IsBeside e.place.site) (Some (m, t)) (Some (n, u)) h.2 k.2) in
      λ i. NotTerminal (one i).0 (one i).1
  same_code e Yes w same h k = absurd h
  same_code e (NoSeed m) w same h k = absurd h
  same_code e v w same h k = let never : ⊥ = omega (arith, same) in absurd never

  one_fault : (e : Entry) (v w : CertVerdict) → IsFault sys c e v → IsFault sys c e w → v ≡ w
  one_fault e v w h k = elim (cases_order (code v) (code w)) [
    | inl equal ↦ same_code e v w equal h k
    | inr rest ↦ elim rest [ inl less ↦ absurd (never_before e v w less h k) | inr more ↦ absurd (never_before e w v more k h) ]
  ]

  -- an entry that fails a check isn't sound
  pub not_sound : (e : Entry) (v : CertVerdict) → IsFault sys c e v → ¬ IsSound sys c e
  not_sound e Yes h sound = h
  not_sound e (NoSeed m) h sound = h
  not_sound e (SeedSides m) h sound = h.2 (sound.bare h.1)
  not_sound e (BadInput m) h sound = h.2 (sound.attached h.1).0
  not_sound e (NotExact m x) h sound = h.3 (sound.attached h.1).1
  not_sound e (LooseBond m d) h sound = (sound.attached h.1).2 d h.4.holds
  not_sound e (Rival m t) h sound = (sound.attached h.1).3 t h.5.holds
  not_sound e (NotTerminal m t) h sound =
      let beside = h.2.among in
      let Grows : Site → Type 0 = λ n. IsCandidate sys (places_of c) n t in
      sound.closed beside.0 t (subst Grows (sym beside.1) h.2.grows)

  one_first : (v w : CertVerdict) → IsFirstFault sys c v → IsFirstFault sys c w → v ≡ w
  one_first v w f g =
      let entry : f.item ≡ g.item = (one_first_not c 0 (λ i. IsSound sys c) _ _ f g).1 in
      one_fault g.item v w (subst (λ e. IsFault sys c e v) entry f.told) g.told

  one_unlisted : (m n : Site) → IsFirstUnlisted sys c m → IsFirstUnlisted sys c n → m ≡ n
  one_unlisted m n f g =
      let seed : f.item ≡ g.item = (one_first_not sys.seeds 0 (λ i. Contains (places_of c)) _ _ f g).1 in
      sym f.told ∙ ap (λ p. p.site) seed ∙ g.told

  -- a verdict is yes, a seed, or an entry's
  data Kind (v : CertVerdict) : Type 0 where
    good : v ≡ Yes → IsGood sys c → Kind v
    unlisted : (m : Site) → v ≡ NoSeed m → IsFirstUnlisted sys c m → Kind v
    failed : IsPartOf sys.seeds (places_of c) → IsFirstFault sys c v → Kind v

  kind_of : (v : CertVerdict) → IsVerdict sys c v → Kind v
  kind_of Yes h = good refl h
  kind_of (NoSeed m) h = unlisted m refl h
  kind_of v h = failed h.0 h.1

  no_unlisted : (m : Site) → IsPartOf sys.seeds (places_of c) → ¬ IsFirstUnlisted sys c m
  no_unlisted m seeds f = f.fails (seeds f.item (slice_get-Contains sys.seeds f.index f.item f.there))

  no_fault : (v : CertVerdict) → IsGood sys c → ¬ IsFirstFault sys c v
  no_fault v is_good f = f.fails (is_good.sound f.item (slice_get-Contains c f.index f.item f.there))

  same_kind : (v w : CertVerdict) → Kind v → Kind w → v ≡ w
  same_kind v w (good yes_v h) (good yes_w k) = yes_v ∙ sym yes_w
  same_kind v w (good yes_v h) (unlisted n is_w k) = absurd (no_unlisted n h.seeds k)
  same_kind v w (good yes_v h) (failed seeds k) = absurd (no_fault w h k)
  same_kind v w (unlisted m is_v h) (good yes_w k) = absurd (no_unlisted m k.seeds h)
  same_kind v w (unlisted m is_v h) (unlisted n is_w k) = is_v ∙ ap (λ r. NoSeed r) (one_unlisted m n h k) ∙ sym is_w
  same_kind v w (unlisted m is_v h) (failed seeds k) = absurd (no_unlisted m seeds h)
  same_kind v w (failed seeds h) (good yes_w k) = absurd (no_fault v k h)
  same_kind v w (failed seeds h) (unlisted n is_w k) = absurd (no_unlisted n seeds k)
  same_kind v w (failed seeds h) (failed seeds_too k) = one_first v w h k

  pub verdict_unique : (v w : CertVerdict) → IsVerdict sys c v → IsVerdict sys c w → v ≡ w
  verdict_unique v w h k = same_kind v w (kind_of v h) (kind_of w k)

  pub verdict_yes : (v : CertVerdict) → IsVerdict sys c v → (v ≡ Yes) ↔ IsGood sys c
  verdict_yes v judged = (λ yes_it_is. subst (IsVerdict sys c) yes_it_is judged, λ is_good. verdict_unique v Yes judged is_good)

  -- the first fault of an entry is the verdict
  pub verdict_from_fault : (v : CertVerdict) → IsPartOf sys.seeds (places_of c) → IsFirstFault sys c v → IsVerdict sys c v
  verdict_from_fault Yes seeds first = absurd first.told
  verdict_from_fault (NoSeed m) seeds first = absurd first.told
  verdict_from_fault v seeds first = (seeds, first)
