-- Each legal sequence has a verdict.
use Rattle.std.proofs.Common.{◌≡◌, ◌⊎◌, ◌≤◌, ℕ, List, length, take, Some, None, slice_get, Option, refl, sym, ◌∙◌, ap, subst, inl, inr, arith}
use Rattle.std.proofs.lemmas.Bool.{cases_lt, cases_eq}
use Rattle.std.proofs.lemmas.Option.{same_Some, none-some, slice_get_within}
use Rattle.atam.specs.declared.site.Site.{Site}
use Rattle.atam.specs.declared.place.TypeId.{TypeId}
use Rattle.atam.specs.declared.place.Place.{Place}
use Rattle.atam.specs.TileSystem.{TileSystem}
use Rattle.atam.specs.Assembly.{pull}
use Rattle.atam.specs.Growth.{IsLegal, IsLeastOpenAmong}
use Rattle.atam.specs.Determinism.{without_outputs, IsExact, IsRival, HasExactInputs, HasNoRivals}
use Rattle.atam.proofs.Lists.{some_or_none}
use Rattle.atam.proofs.Deciding.{least_number, grows_or_not, least_open_exists}
use Rattle.atam.specs.declared.verdict.Verdict.{Verdict}
use Rattle.atam.specs.declared.verdict.Verdict.TheVariants.{Yes, NotExact, Rival, NotTerminal}
use Rattle.local_check.specs.Judgement.{IsVerdict}

module _ (sys : TileSystem) (s : List Place) where
  -- place i breaks condition 1
  record IsInexactAt (i : ℕ) : Type 0 where
    place : Place
    later : length sys.seeds ≤ i
    there : slice_get s i ≡ Some place
    inexact : ¬ IsExact sys s i place

  exact_or_not : (i : ℕ) (p : Place) → IsExact sys s i p ⊎ (¬ IsExact sys s i p)
  exact_or_not i p = cases_eq (pull sys (take i s) p.site p.tile) sys.tau

  inexact_or_not : (i : ℕ) → IsInexactAt i ⊎ (¬ IsInexactAt i)
  inexact_or_not i = elim (cases_lt i (length sys.seeds)) [
    | inl seed ↦ inr (λ h. let never : ⊥ = omega (arith, seed, h.later) in never)
    | inr later ↦ elim (some_or_none (slice_get s i)) [
      | inl none ↦ inr (λ h. none-some h.place (sym none ∙ h.there))
      | inr some ↦ elim (exact_or_not i some.0) [
        | inl exact ↦ inr (λ h. h.inexact (subst (IsExact sys s i) (same_Some some.0 h.place (sym some.1 ∙ h.there)) exact))
        | inr inexact ↦ inl (record { place = some.0; later = later; there = some.1; inexact = inexact })
      ]
    ]
  ]

  exact_from : (i : ℕ) (p : Place) → ¬ IsInexactAt i → length sys.seeds ≤ i → slice_get s i ≡ Some p → IsExact sys s i p
  exact_from i p none later there = elim (exact_or_not i p) [
    | inl exact ↦ exact
    | inr inexact ↦ absurd (none (record { place = p; later = later; there = there; inexact = inexact }))
  ]

  -- place i breaks condition 2, with its first rival
  record IsRivaledAt (i : ℕ) : Type 0 where
    place : Place
    tile : TypeId
    later : length sys.seeds ≤ i
    there : slice_get s i ≡ Some place
    rival : IsRival sys s i place tile
    least : (u : TypeId) → IsRival sys s i place u → tile.0 ≤ u.0

  rival_or_not : (i : ℕ) (p : Place) (t : TypeId) → IsRival sys s i p t ⊎ (¬ IsRival sys s i p t)
  rival_or_not i p t = elim (cases_eq t.0 p.tile.0) [
    | inl same ↦ inr (λ h. h.other (λ x. record { 0 = same x }))
    | inr differ ↦ elim (grows_or_not sys (without_outputs sys s i p.site) p.site t) [
      | inl grows ↦ inl (record { other = λ same. differ (ap (λ u. u.0) same); grows = grows })
      | inr none ↦ inr (λ h. none h.grows)
    ]
  ]

  first_rival : (i : ℕ) (p : Place) → ((t : TypeId) × IsRival sys s i p t × ((u : TypeId) → IsRival sys s i p u → t.0 ≤ u.0)) ⊎ ((t : TypeId) → ¬ IsRival sys s i p t)
  first_rival i p = elim (least_number (λ k. IsRival sys s i p (record { 0 = k })) (λ k. rival_or_not i p (record { 0 = k })) (length sys.types)) [
    | inl none ↦ inr (λ t rival. none t.0 rival.grows.kind rival)
    | inr found ↦ inl (record { 0 = found.0 }, found.2, λ u rival. elim (cases_lt u.0 found.0) [ inl less ↦ absurd (found.3 u.0 less rival) | inr more ↦ more ])
  ]

  rivaled_or_not : (i : ℕ) → IsRivaledAt i ⊎ (¬ IsRivaledAt i)
  rivaled_or_not i = elim (cases_lt i (length sys.seeds)) [
    | inl seed ↦ inr (λ h. let never : ⊥ = omega (arith, seed, h.later) in never)
    | inr later ↦ elim (some_or_none (slice_get s i)) [
      | inl none ↦ inr (λ h. none-some h.place (sym none ∙ h.there))
      | inr some ↦ elim (first_rival i some.0) [
        | inl first ↦ inl (record { place = some.0; tile = first.0; later = later; there = some.1; rival = first.1; least = first.2 })
        | inr none ↦ inr (λ h. none h.tile (subst (λ p. IsRival sys s i p h.tile) (sym (same_Some some.0 h.place (sym some.1 ∙ h.there))) h.rival))
      ]
    ]
  ]

  no_rival_from : (i : ℕ) (p : Place) (t : TypeId) → ¬ IsRivaledAt i → length sys.seeds ≤ i → slice_get s i ≡ Some p → ¬ IsRival sys s i p t
  no_rival_from i p t none later there rival = elim (first_rival i p) [
    | inl first ↦ none (record { place = p; tile = first.0; later = later; there = there; rival = first.1; least = first.2 })
    | inr no_first ↦ no_first t rival
  ]

  -- once conditions 1 and 2 hold
  by_terminal : IsLegal sys s → HasExactInputs sys s → HasNoRivals sys s → (found : Option (Site × TypeId)) →
      IsLeastOpenAmong sys s (λ m. Unit {0}) found → (v : Verdict) × IsVerdict sys s v
  by_terminal legal exact no_rival None none = (
    Yes,
    record {
      legal = legal;
      exact = exact;
      no_rival = no_rival;
      terminal = λ m t. none m t tt;
    },
  )
  by_terminal legal exact no_rival (Some f) least = (NotTerminal f.0 f.1, (exact, no_rival, least))

  pub verdict_exists : 1 ≤ sys.tau → IsLegal sys s → (v : Verdict) × IsVerdict sys s v
  verdict_exists some_tau legal = elim (least_number IsInexactAt inexact_or_not (length s)) [
    | inr found ↦
        let h = found.2 in (
          NotExact h.place.site (pull sys (take found.0 s) h.place.site h.place.tile),
          record {
            index = found.0;
            item = h.place;
            later = h.later;
            there = h.there;
            fails = h.inexact;
            told = (refl, refl);
            before = λ i p later below there. exact_from i p (found.3 i below) later there;
          },
        )
    | inl all_exact ↦
        let exact : HasExactInputs sys s = λ i p later there. exact_from i p (all_exact i (slice_get_within s i p there)) later there in
        elim (least_number IsRivaledAt rivaled_or_not (length s)) [
          | inr found ↦
              let h = found.2 in (
                Rival h.place.site h.tile,
                (
                  exact,
                  record {
                    index = found.0;
                    item = h.place;
                    later = h.later;
                    there = h.there;
                    fails = λ none. none h.tile h.rival;
                    told = (refl, record { holds = h.rival; least = h.least });
                    before = λ i p later below there t. no_rival_from i p t (found.3 i below) later there;
                  },
                ),
              )
          | inl no_rivals ↦
              let no_rival : HasNoRivals sys s = λ i p t later there. no_rival_from i p t (no_rivals i (slice_get_within s i p there)) later there in
              let open_site = least_open_exists sys s some_tau (λ m. Unit {0}) (λ m. inl tt) in
              by_terminal legal exact no_rival open_site.0 open_site.1
        ]
  ]
