-- Each event has a reply.
use Rattle.std.proofs.Common.{◌≡◌, ◌≤◌, ◌-◌, ◌^◌, ℕ, min, List, [], ◌∷◌, ◌++◌, Some, None, Contains, Result, Ok, Err, refl, ◌∙◌, subst, inl, inr, arith, bit_or}
use Rattle.std.proofs.lemmas.List.Elements.{Contains-push_cases, Contains-append_left, Contains-append_cases, Contains-append_right}
use mathlib.Core.Logic.{dite}
use native.Mathlib.Decide.{ℕ_discrete, dec_lt}
use Rattle.atam.specs.declared.site.Site.{Site}
use Rattle.atam.specs.declared.place.TypeId.{TypeId}
use Rattle.atam.specs.declared.place.Place.{Place}
use Rattle.atam.specs.Sites.{InBox}
use Rattle.atam.specs.TileSystem.{TileSystem}
use Rattle.atam.specs.Placements.{HasDistinctSites, IsPartOf, SamePlacements, tile_at}
use Rattle.atam.specs.Assembly.{pull}
use Rattle.atam.proofs.Lists.{some_or_none, Contains-here, Contains-there}
use Rattle.atam.proofs.Placements.{HasDistinctSites-push, same_place, tile_at-Contains, empty_in_part}
use Rattle.grow_core.specs.declared.placed_tile.PlacedTile.{PlacedTile}
use Rattle.atam.specs.declared.event.Event.{Event}
use Rattle.atam.specs.declared.event.Event.TheVariants.{Look, Claim, Split, Join}
use Rattle.atam.specs.declared.event.Seen.{Seen}
use Rattle.atam.specs.declared.event.Seen.TheVariants.{Saw, Won, Held, Divided, Joined}
use Rattle.atam.specs.declared.event.CoreStop.{CoreStop}
use Rattle.atam.specs.declared.event.CoreStop.TheVariants.{NoSuchScout, NotSupported, OutsideBox, NoNumberLeft}
use Rattle.grow_core.specs.Core.{ScoutState, CoreState, scout_at, least, greatest, places, placed_by, CoreInvariant}
use Rattle.grow_core.specs.Steps.{CoreStep, IsScoutOf, place, tile_of, kept_tiles, with_scout, with_tile, without_scout, no_such_scout, no_other_scout, same_scout, looks_outside, claims_outside, unsupported, one_number, saw_none, saw_tile, won, held, divided, joined}
use Rattle.grow_core.proofs.Kept.{extends}
use Rattle.atam.proofs.Boxes.{in_or_out}

-- an assembly with the placements of a list
abbrev Assembled : List Place → Type 0
Assembled tiles = (seen : List Place) × SamePlacements tiles seen × HasDistinctSites seen

-- a place of a list with distinct sites comes to an assembly that is a part of it
with_place : (whole seen : List Place) (p : Place) → HasDistinctSites whole → IsPartOf seen whole → Contains whole p → HasDistinctSites seen → Assembled (seen ++ p ∷ [])
with_place whole seen p distinct part there distinct_seen = elim (some_or_none (tile_at seen p.site)) [
  | inl empty ↦ (seen ++ p ∷ [], record { part = λ q c. c; whole = λ q c. c }, HasDistinctSites-push seen p distinct_seen empty)
  | inr found ↦
      let q : Place = place p.site found.0 in
      let in_seen : Contains seen q = tile_at-Contains seen p.site found.0 found.1 in
      let same : q ≡ p = same_place whole q p distinct (part q in_seen) there refl in (
        seen,
        record {
          part = λ r c. elim (Contains-push_cases seen p r c) [ inl old ↦ old | inr new ↦ subst (Contains seen) (same ∙ new) in_seen ];
          whole = λ r c. Contains-append_left seen (p ∷ []) r c;
        },
        distinct_seen,
      )
]

with_places : (whole seen ps : List Place) → HasDistinctSites whole → IsPartOf seen whole → IsPartOf ps whole → HasDistinctSites seen → Assembled (seen ++ ps)
with_places whole seen [] distinct part parts distinct_seen = (
  seen,
  record {
    part = λ q c. elim (Contains-append_cases seen [] q c) [ inl old ↦ old | inr new ↦ let l = new.1 in let never : ⊥ = omega (arith, l) in absurd never ];
    whole = λ q c. Contains-append_left seen [] q c;
  },
  distinct_seen,
)
with_places whole seen (p ∷ ps) distinct part parts distinct_seen =
    let one = with_place whole seen p distinct part (parts p (Contains-here p ps)) distinct_seen in
    let one_part : IsPartOf one.0 whole = λ q c. elim (Contains-push_cases seen p q (one.1.whole q c)) [
      | inl old ↦ part q old
      | inr new ↦ subst (Contains whole) new (parts p (Contains-here p ps))
    ] in
    let rest = with_places whole one.0 ps distinct one_part (λ q c. parts q (Contains-there p q ps c)) one.2 in (
      rest.0,
      record {
        part = λ q c. elim (Contains-append_cases seen (p ∷ ps) q c) [
          | inl old ↦ rest.1.part q (Contains-append_left one.0 ps q (one.1.part q (Contains-append_left seen (p ∷ []) q old)))
          | inr new ↦ elim (Contains-append_cases (p ∷ []) ps q new) [
            | inl head ↦ rest.1.part q (Contains-append_left one.0 ps q (one.1.part q (Contains-append_right seen (p ∷ []) q head)))
            | inr later ↦ rest.1.part q (Contains-append_right one.0 ps q later)
          ]
        ];
        whole = λ q c. elim (Contains-append_cases one.0 ps q (rest.1.whole q c)) [
          | inl first ↦ elim (Contains-push_cases seen p q (one.1.whole q first)) [
            | inl old ↦ Contains-append_left seen (p ∷ ps) q old
            | inr new ↦ Contains-append_right seen (p ∷ ps) q (subst (Contains (p ∷ ps)) new (Contains-here p ps))
          ]
          | inr later ↦ Contains-append_right seen (p ∷ ps) q (Contains-there p q ps later)
        ];
      },
      rest.2,
    )

-- the scout that has seen them
scout_of : (owned : ℕ) (tiles : List Place) (mine : List PlacedTile) (a : Assembled tiles) → IsScoutOf owned tiles mine (record { owned = owned; seen = a.0; mine = mine })
scout_of owned tiles mine a = record { owned = refl; seen = a.1; distinct = a.2; mine = refl }

abbrev Replied : TileSystem → CoreState → Event → Type 0
Replied sys s event = (reply : Result Seen CoreStop) × (t : CoreState) × CoreStep sys s event reply t

module _ (sys : TileSystem) (s : CoreState) (holds : CoreInvariant sys s) where
  abbrev same_seen : (a : ℕ) (v : ScoutState) → scout_at s.scouts a ≡ Some v → Assembled v.seen
  same_seen a v here = (v.seen, record { part = λ q c. c; whole = λ q c. c }, (holds.growth.each a v here).distinct)

  more_seen : (a : ℕ) (v : ScoutState) (m : Site) (t : TypeId) → scout_at s.scouts a ≡ Some v → tile_at (places s.tiles) m ≡ Some t → Assembled (v.seen ++ place m t ∷ [])
  more_seen a v m t here found =
      let knows = holds.growth.each a v here in
      with_place (places s.tiles) v.seen (place m t) holds.growth.history.distinct knows.part (tile_at-Contains (places s.tiles) m t found) knows.distinct

  both_seen : (a b : ℕ) (v w : ScoutState) → scout_at s.scouts a ≡ Some v → scout_at s.scouts b ≡ Some w → Assembled (v.seen ++ w.seen)
  both_seen a b v w at_a at_b =
      let knows_v = holds.growth.each a v at_a in
      let knows_w = holds.growth.each b w at_b in
      with_places (places s.tiles) v.seen w.seen holds.growth.history.distinct knows_v.part knows_w.part knows_v.distinct

  new_seen : (a : ℕ) (v : ScoutState) (m : Site) (t : TypeId) → scout_at s.scouts a ≡ Some v → tile_at (places s.tiles) m ≡ None → Assembled (v.seen ++ place m t ∷ [])
  new_seen a v m t here empty =
      let knows = holds.growth.each a v here in (
        v.seen ++ place m t ∷ [],
        record { part = λ q c. c; whole = λ q c. c },
        HasDistinctSites-push v.seen (place m t) knows.distinct (empty_in_part v.seen (places s.tiles) m (extends sys s.tiles v holds.growth.history knows) empty),
      )

  look : (who : ℕ) (site : Site) (v : ScoutState) → scout_at s.scouts who ≡ Some v → Replied sys s (Look who site)
  look who site v here = elim (in_or_out sys.area site) [
    | inr outside ↦ (Err OutsideBox, s, looks_outside who site v here outside)
    | inl inside ↦ elim (some_or_none (tile_at (places s.tiles) site)) [
      | inl empty ↦ (Ok (Saw None), s, saw_none who site v here inside empty)
      | inr found ↦
          let seen = more_seen who v site found.0 here found.1 in
          let w : ScoutState = record { owned = v.owned; seen = seen.0; mine = v.mine } in
          (Ok (Saw (Some found.0)), with_scout s who w, saw_tile who site found.0 v w here inside found.1 (scout_of v.owned (v.seen ++ place site found.0 ∷ []) v.mine seen))
    ]
  ]

  supported_claim : (who : ℕ) (site : Site) (tile : TypeId) (v : ScoutState) → scout_at s.scouts who ≡ Some v → InBox sys.area site → sys.tau ≤ pull sys v.seen site tile → Replied sys s (Claim who site tile)
  supported_claim who site tile v here inside supported = elim (some_or_none (tile_at (places s.tiles) site)) [
    | inl empty ↦
        let seen = new_seen who v site tile here empty in
        let fresh : PlacedTile = tile_of (place site tile) (least v.owned) in
        let w : ScoutState = record { owned = v.owned; seen = seen.0; mine = v.mine ++ fresh ∷ [] } in (
          Ok Won,
          with_scout (with_tile s fresh) who w,
          won who site tile v w here inside supported empty (scout_of v.owned (v.seen ++ place site tile ∷ []) (v.mine ++ fresh ∷ []) seen),
        )
    | inr found ↦
        let seen = more_seen who v site found.0 here found.1 in
        let w : ScoutState = record { owned = v.owned; seen = seen.0; mine = v.mine } in (
          Ok (Held found.0),
          with_scout s who w,
          held who site tile found.0 v w here inside supported found.1 (scout_of v.owned (v.seen ++ place site found.0 ∷ []) v.mine seen),
        )
  ]

  claim : (who : ℕ) (site : Site) (tile : TypeId) (v : ScoutState) → scout_at s.scouts who ≡ Some v → Replied sys s (Claim who site tile)
  claim who site tile v here = elim (in_or_out sys.area site) [
    | inr outside ↦ (Err OutsideBox, s, claims_outside who site tile v here outside)
    | inl inside ↦ dite (dec_lt (pull sys v.seen site tile) sys.tau)
        (λ weak. (Err (NotSupported (pull sys v.seen site tile)), s, unsupported who site tile v here inside weak))
        (λ f. supported_claim who site tile v here inside (omega (arith, f)))
  ]

  split : (who : ℕ) (v : ScoutState) → scout_at s.scouts who ≡ Some v → Replied sys s (Split who)
  split who v here = dite (ℕ_discrete (least v.owned) (greatest v.owned))
      (λ one. (Err NoNumberLeft, s, one_number who v here (λ two. two one)))
      (λ two.
      let w : ScoutState = record { owned = v.owned - 2 ^ greatest v.owned; seen = v.seen; mine = kept_tiles (greatest v.owned) v.mine } in
      let x : ScoutState = record { owned = 2 ^ greatest v.owned; seen = v.seen; mine = placed_by (greatest v.owned) v.mine } in (
        Ok (Divided (greatest v.owned)),
        with_scout (with_scout s who w) (greatest v.owned) x,
        divided who v w x here two (scout_of w.owned v.seen w.mine (same_seen who v here)) (scout_of x.owned v.seen x.mine (same_seen who v here)),
      ))

  join : (into from : ℕ) (v : ScoutState) → scout_at s.scouts into ≡ Some v → Replied sys s (Join into from)
  join into from v here = dite (ℕ_discrete into from)
      (λ same. (Err NoSuchScout, s, same_scout into from same))
      (λ differ. elim (some_or_none (scout_at s.scouts from)) [
        | inl none ↦ (Err NoSuchScout, s, no_other_scout into from none)
        | inr other ↦
            let w = other.0 in
            let seen = both_seen into from v w here other.1 in
            let x : ScoutState = record { owned = bit_or v.owned w.owned; seen = seen.0; mine = v.mine ++ w.mine } in (
              Ok (Joined (min into from)),
              with_scout (without_scout (without_scout s into) from) (min into from) x,
              joined into from v w x here other.1 differ (scout_of x.owned (v.seen ++ w.seen) x.mine seen),
            )
      ])

  pub answered : (event : Event) → Replied sys s event
  answered (Look who site) = elim (some_or_none (scout_at s.scouts who)) [
    | inl none ↦ (Err NoSuchScout, s, no_such_scout (Look who site) none)
    | inr here ↦ look who site here.0 here.1
  ]
  answered (Claim who site tile) = elim (some_or_none (scout_at s.scouts who)) [
    | inl none ↦ (Err NoSuchScout, s, no_such_scout (Claim who site tile) none)
    | inr here ↦ claim who site tile here.0 here.1
  ]
  answered (Split who) = elim (some_or_none (scout_at s.scouts who)) [
    | inl none ↦ (Err NoSuchScout, s, no_such_scout (Split who) none)
    | inr here ↦ split who here.0 here.1
  ]
  answered (Join into from) = elim (some_or_none (scout_at s.scouts into)) [
    | inl none ↦ (Err NoSuchScout, s, no_such_scout (Join into from) none)
    | inr here ↦ join into from here.0 here.1
  ]
