-- The sites that are ready, and what the tiles lack, as places are listed.
use Rattle.std.proofs.Common.{◌≡◌, ◌≢◌, ◌⊎◌, ◌<◌, ◌≤◌, ◌-◌, ℕ, List, [], ◌∷◌, ◌++◌, Some, None, Contains, get_or, slice_get, sym, ◌∙◌, ap, subst, inl, inr, arith}
use Rattle.std.proofs.Math.Nat.{le_trans}
use Rattle.std.proofs.lemmas.Bool.{cases_lt}
use Rattle.std.proofs.lemmas.Option.{none-some, same_Some}
use Rattle.atam.specs.declared.site.Side.{Side}
use Rattle.atam.specs.declared.site.Site.{Site}
use Rattle.atam.specs.declared.place.TypeId.{TypeId}
use Rattle.atam.specs.declared.place.Place.{Place}
use Rattle.atam.specs.Sites.{InBox, neighbor}
use Rattle.atam.specs.Placements.{HasDistinctSites, IsPartOf, tile_at}
use Rattle.atam.specs.TileSystem.{TileSystem, IsType}
use Rattle.atam.specs.Assembly.{Fits, pull}
use Rattle.atam.proofs.Boxes.{same_site_tells}
use Rattle.atam.proofs.Lists.{All-slice_get, Contains-push, slice_get-Contains, some_or_none}
use Rattle.atam.proofs.Bonds.{beside_a_tile}
use Rattle.atam.proofs.Opening.{pull-beside}
use Rattle.atam.proofs.Placements.{Contains-tile_at, tile_at-Contains, tile_at-place}
use Rattle.atam.proofs.Tiles.{tile_at-push_other, tile_at-push_here}
use Rattle.assembly.specs.Cells.{IsSiteNumber, cell_count, site_at}
use Rattle.assembly.proofs.Cells.{site_at-injective}
use Rattle.replay_order.specs.Inner.ReadyNumbers.{IsAmong}
use Rattle.replay_order.specs.Inner.Replays.{IsReadySite, IsInSpan, Waiting, due_at, AreLacks, AreReadySites, AreReadySitesBut, Lowers, given_beside, TakesLeast}
use Rattle.replay_order.proofs.Dues.{due_at-seed, due_at-other}
use Rattle.replay_order.proofs.Pulls.{pull-push, given_pull, given_none}

-- the tile at a site of an assembly that fits
pub Fits-tile : (sys : TileSystem) (tiles : List Place) (m : Site) (t : TypeId) → Fits sys tiles → tile_at tiles m ≡ Some t → IsType sys t × InBox sys.area m
Fits-tile sys tiles m t fits found =
    let q = tile_at-place tiles m t found in (
      subst (λ u. IsType sys u) q.4 (All-slice_get (λ p. IsType sys p.tile) tiles q.0 q.1 fits.types q.2),
      subst (λ n. InBox sys.area n) q.3 (All-slice_get (λ p. InBox sys.area p.site) tiles q.0 q.1 fits.sites q.2),
    )

pub part_push : (s tiles : List Place) (p : Place) → IsPartOf s tiles → tile_at tiles p.site ≡ Some p.tile → IsPartOf (s ++ p ∷ []) tiles
part_push s tiles p part placed q contains = elim (Contains-push s p q contains) [
  | inl old ↦ part q old
  | inr new ↦ subst (Contains tiles) new (tile_at-Contains tiles p.site p.tile placed)
]

-- a site waits, or it doesn't
pub waits_or_not : (waiting : Waiting) (i : ℕ) → IsInSpan waiting i ⊎ ¬ IsInSpan waiting i
waits_or_not waiting i = elim (cases_lt i waiting.first) [
  | inl earlier ↦ inr (λ within. let never : ⊥ = omega (arith, within.from, earlier) in never)
  | inr from ↦ elim (cases_lt i waiting.end) [
    | inl before ↦ inl (record { from = from; before = before })
    | inr later ↦ inr (λ within. let never : ⊥ = omega (arith, within.before, later) in never)
  ]
]

-- the same sites wait in two
module _ (a b : Waiting) (same_first : b.first ≡ a.first) (same_end : b.end ≡ a.end) where
  pub waits_still : (i : ℕ) → IsInSpan a i → IsInSpan b i
  waits_still i within = record { from = omega (arith, same_first, within.from); before = omega (arith, same_end, within.before) }

  pub waited : (i : ℕ) → IsInSpan b i → IsInSpan a i
  waited i within = record { from = omega (arith, same_first, within.from); before = omega (arith, same_end, within.before) }

-- and the tiles lack the same in both
pub lacks_still : (sys : TileSystem) (tiles s : List Place) (a b : Waiting) → b.first ≡ a.first → b.end ≡ a.end → b.area ≡ a.area → b.lacks ≡ a.lacks → AreLacks sys tiles s a → AreLacks sys tiles s b
lacks_still sys tiles s a b same_first same_end same_area same_lacks lacks = record {
  area = same_area ∙ lacks.area;
  each = λ i t below within placed. ap (λ l. get_or l i 0) same_lacks ∙ lacks.each i t below (waited a b same_first same_end i within) placed;
  settled = λ i t below within listed. ap (λ l. get_or l i 0) same_lacks ∙ lacks.settled i t below (waited a b same_first same_end i within) listed;
  others = λ i below outside. ap (λ l. get_or l i 0) same_lacks ∙ lacks.others i below (λ within. outside (waits_still a b same_first same_end i within));
}

-- the tile of a place at a site that waits is held by the listed places
pub record IsHeldIfWaiting (sys : TileSystem) (s : List Place) (p : Place) (waiting : Waiting) : Type 0 where
  pub held : (i : ℕ) → IsInSpan waiting i → site_at sys.area i ≡ p.site → due_at sys.seeds sys.tau p.site ≤ pull sys s p.site p.tile

-- a place is listed, and the tiles beside it are given what it pulls
module _ (sys : TileSystem) (tiles s : List Place) (p : Place) (old new : Waiting)
    (empty : tile_at s p.site ≡ None) (placed : tile_at tiles p.site ≡ Some p.tile) (is_held : IsHeldIfWaiting sys s p old)
    (lowers : Lowers sys.area (given_beside sys tiles p) old new) (lacks : AreLacks sys tiles s old) where
  -- what a tile lacks falls by that
  lacks_less : (i : ℕ) (t : TypeId) → i < cell_count sys.area → IsInSpan old i → tile_at tiles (site_at sys.area i) ≡ Some t →
      get_or new.lacks i 0 ≡ due_at sys.seeds sys.tau (site_at sys.area i) - pull sys (s ++ p ∷ []) (site_at sys.area i) t
  lacks_less i t below within there =
      let m = site_at sys.area i in
      omega (arith, lacks.each i t below within there, lowers.lacks i below, given_pull sys tiles p m t there, pull-push sys s p m t empty)

  -- a listed tile lacked nothing before, the new one too
  lacked_nothing : (i : ℕ) (t : TypeId) → i < cell_count sys.area → IsInSpan old i → tile_at (s ++ p ∷ []) (site_at sys.area i) ≡ Some t → get_or old.lacks i 0 ≡ 0
  lacked_nothing i t below within listed =
      let m = site_at sys.area i in
      elim (same_site_tells p.site m) [
        | inl same ↦
            let There : Site → Type 0 = λ n. tile_at tiles n ≡ Some p.tile in
            let Held : Site → Type 0 = λ n. due_at sys.seeds sys.tau n ≤ pull sys s n p.tile in
            let held_here : Held m = subst Held same.1 (is_held.held i within (sym same.1)) in
            omega (arith, lacks.each i p.tile below within (subst There same.1 placed), held_here)
        | inr other ↦ lacks.settled i t below within (sym (tile_at-push_other s p m other.1) ∙ listed)
      ]

  pub lacks_after : AreLacks sys tiles (s ++ p ∷ []) new
  lacks_after = record {
    area = lowers.new_area;
    each = λ i t below within there. lacks_less i t below (waited old new lowers.same_first lowers.same_end i within) there;
    settled = λ i t below within listed.
        omega (arith, lowers.lacks i below, lacked_nothing i t below (waited old new lowers.same_first lowers.same_end i within) listed);
    others = λ i below outside.
        let outside_before : ¬ IsInSpan old i = λ within. outside (waits_still old new lowers.same_first lowers.same_end i within) in
        omega (arith, lowers.lacks i below, lacks.others i below outside_before);
  }

  still_ready : (m : Site) → m ≢ p.site → IsReadySite sys tiles s m → IsReadySite sys tiles (s ++ p ∷ []) m
  still_ready m other ready = record {
    tile = ready.tile;
    placed = ready.placed;
    no_seed = ready.no_seed;
    empty = tile_at-push_other s p m (λ same. other (sym same)) ∙ ready.empty;
    held = omega (arith, ready.held, pull-push sys s p m ready.tile empty);
  }

  -- a tile that lacks something waits
  lacking_waits : (i : ℕ) → i < cell_count sys.area → 0 < get_or old.lacks i 0 → IsInSpan old i
  lacking_waits i below some = elim (waits_or_not old i) [
    | inl within ↦ within
    | inr outside ↦ let never : ⊥ = omega (arith, lacks.others i below outside, some) in absurd never
  ]

  -- and becomes ready if it lacks nothing from now on
  becomes_ready : (i : ℕ) → i < cell_count sys.area → 0 < get_or old.lacks i 0 → get_or new.lacks i 0 ≡ 0 → IsReadySite sys tiles (s ++ p ∷ []) (site_at sys.area i)
  becomes_ready i below some none =
      let m = site_at sys.area i in
      let within = lacking_waits i below some in
      elim (some_or_none (tile_at tiles m)) [
        | inl no_tile ↦
            let never : ⊥ = omega (arith, lowers.lacks i below, given_none sys tiles p m no_tile, some, none) in
            absurd never
        | inr tile ↦ elim (some_or_none (tile_at sys.seeds m)) [
          | inr seed ↦
              let never : ⊥ = omega (arith, lacks.each i tile.0 below within tile.1, due_at-seed sys.seeds sys.tau m seed.0 seed.1, some) in
              absurd never
          | inl no_seed ↦ elim (some_or_none (tile_at (s ++ p ∷ []) m)) [
            | inr listed ↦
                let never : ⊥ = omega (arith, lacked_nothing i listed.0 below within listed.1, some) in
                absurd never
            | inl unlisted ↦ record {
              tile = tile.0;
              placed = tile.1;
              no_seed = no_seed;
              empty = unlisted;
              held = omega (arith, lacks_less i tile.0 below within tile.1, due_at-other sys.seeds sys.tau m no_seed, none);
            }
          ]
        ]
      ]

  not_here : (m : Site) → IsReadySite sys tiles (s ++ p ∷ []) m → m ≢ p.site
  not_here m ready same =
      let Empty : Site → Type 0 = λ n. tile_at (s ++ p ∷ []) n ≡ None in
      none-some p.tile (sym (subst Empty same ready.empty) ∙ tile_at-push_here s p empty)

  -- a tile that lacked nothing before was ready
  was_ready : (i : ℕ) → i < cell_count sys.area → IsInSpan old i → get_or old.lacks i 0 ≡ 0 → IsReadySite sys tiles (s ++ p ∷ []) (site_at sys.area i) → IsReadySite sys tiles s (site_at sys.area i)
  was_ready i below within none ready =
      let m = site_at sys.area i in
      record {
        tile = ready.tile;
        placed = ready.placed;
        no_seed = ready.no_seed;
        empty = sym (tile_at-push_other s p m (λ same. not_here m ready (sym same))) ∙ ready.empty;
        held = omega (arith, lacks.each i ready.tile below within ready.placed, due_at-other sys.seeds sys.tau m ready.no_seed, none);
      }

  pub ready_after : AreReadySitesBut sys tiles s old p.site → AreReadySites sys tiles (s ++ p ∷ []) new
  ready_after but i below = (
    λ is_in. elim ((lowers.ready i below).0 is_in) [
      | inl before ↦
          let was = (but i below).0 before in
          (waits_still old new lowers.same_first lowers.same_end i was.0, still_ready (site_at sys.area i) was.2 was.1)
      | inr passed ↦
          (waits_still old new lowers.same_first lowers.same_end i (lacking_waits i below passed.0), becomes_ready i below passed.0 passed.1)
    ],
    λ both.
        let within = waited old new lowers.same_first lowers.same_end i both.0 in
        let ready = both.1 in
        elim (cases_lt 0 (get_or old.lacks i 0)) [
          | inl some ↦
              let m = site_at sys.area i in
              let none : get_or new.lacks i 0 ≡ 0 = omega (arith, lacks_less i ready.tile below within ready.placed, due_at-other sys.seeds sys.tau m ready.no_seed, ready.held) in
              (lowers.ready i below).1 (inr (some, none))
          | inr none ↦
              (lowers.ready i below).1 (inl ((but i below).1 (within, was_ready i below within (omega (arith, none)) ready, not_here (site_at sys.area i) ready)))
        ],
  )

-- the least ready site is taken out
module _ (sys : TileSystem) (tiles s : List Place) (old new : Waiting) (number : ℕ) (m : Site) (here : m ≡ site_at sys.area number)
    (lacks : AreLacks sys tiles s old) (ready : AreReadySites sys tiles s old) (takes : TakesLeast old new number) where
  pub taken_number : IsSiteNumber sys.area m number
  taken_number = record { within = omega (arith, takes.within, ap cell_count lacks.area); site = sym here }

  pub taken_waits : IsInSpan old number
  taken_waits = ((ready number taken_number.within).0 takes.member).0

  pub taken_ready : IsReadySite sys tiles s m
  taken_ready = subst (IsReadySite sys tiles s) (sym here) ((ready number taken_number.within).0 takes.member).1

  pub taken_held : (t : TypeId) → tile_at tiles m ≡ Some t → due_at sys.seeds sys.tau m ≤ pull sys s m t
  taken_held t placed =
      let at = taken_ready in
      let Held : TypeId → Type 0 = λ u. sys.tau ≤ pull sys s m u in
      let held : Held t = subst Held (same_Some at.tile t (sym at.placed ∙ placed)) at.held in
      omega (arith, held, due_at-other sys.seeds sys.tau m at.no_seed)

  pub taken_but : new.first ≡ old.first → new.end ≡ old.end → AreReadySitesBut sys tiles s new m
  taken_but same_first same_end i below = (
    λ is_in.
        let was = (takes.removed i).0 is_in in
        let is = (ready i below).0 was.0 in
        (waits_still old new same_first same_end i is.0, is.1, λ same. was.1 (site_at-injective sys.area i number (same ∙ here))),
    λ all.
        (takes.removed i).1 ((ready i below).1 (waited old new same_first same_end i all.0, all.1), λ one. all.2 (ap (λ k. site_at sys.area k) one ∙ sym here)),
  )

-- a seed
module _ (sys : TileSystem) (seeds_distinct : HasDistinctSites sys.seeds) (k : ℕ) (p : Place) (there : slice_get sys.seeds k ≡ Some p) where
  seed_at : tile_at sys.seeds p.site ≡ Some p.tile
  seed_at = Contains-tile_at sys.seeds p seeds_distinct (slice_get-Contains sys.seeds k p there)

  -- is held by nothing
  pub seed_held : (s : List Place) (waiting : Waiting) → IsHeldIfWaiting sys s p waiting
  seed_held s waiting = record { held = λ i within here. omega (arith, due_at-seed sys.seeds sys.tau p.site p.tile seed_at) }

  -- and is never ready
  pub seed_but : (tiles s : List Place) (waiting : Waiting) → AreReadySites sys tiles s waiting → AreReadySitesBut sys tiles s waiting p.site
  seed_but tiles s waiting are i below = (
    λ is_in.
        let at = (are i below).0 is_in in
        let Empty : Site → Type 0 = λ n. tile_at sys.seeds n ≡ None in
        (at.0, at.1, λ same. none-some p.tile (sym (subst Empty same at.1.no_seed) ∙ seed_at)),
    λ all. (are i below).1 (all.0, all.1),
  )

-- a place at a site that doesn't wait
module _ (sys : TileSystem) (p : Place) (number : ℕ) (waiting : Waiting) (here : site_at sys.area number ≡ p.site) (outside : ¬ IsInSpan waiting number) where
  -- is no other site's that does
  elsewhere : (i : ℕ) → IsInSpan waiting i → site_at sys.area i ≢ p.site
  elsewhere i within same = outside (subst (IsInSpan waiting) (site_at-injective sys.area i number (same ∙ sym here)) within)

  pub outside_held : (s : List Place) → IsHeldIfWaiting sys s p waiting
  outside_held s = record { held = λ i within same. absurd (elsewhere i within same) }

  pub outside_but : (tiles s : List Place) → AreReadySites sys tiles s waiting → AreReadySitesBut sys tiles s waiting p.site
  outside_but tiles s are i below = (
    λ is_in. let at = (are i below).0 is_in in (at.0, at.1, elsewhere i at.0),
    λ all. (are i below).1 (all.0, all.1),
  )

-- before the first place no site is ready, and each tile that waits lacks all
pub none_ready : (sys : TileSystem) (tiles : List Place) (waiting : Waiting) → 1 ≤ sys.tau → ((i : ℕ) → ¬ IsAmong waiting.ready i) → AreReadySites sys tiles [] waiting
none_ready sys tiles waiting some_tau none i below = (
  λ is_in. absurd (none i is_in),
  λ both.
      let is_ready = both.1 in
      let beside = beside_a_tile sys [] (site_at sys.area i) is_ready.tile (le_trans some_tau is_ready.held) in
      absurd (none-some beside.1 beside.2),
)

pub all_lack : (sys : TileSystem) (tiles : List Place) (waiting : Waiting) → waiting.area ≡ sys.area →
    ((i : ℕ) → IsInSpan waiting i → get_or waiting.lacks i 0 ≡ due_at sys.seeds sys.tau (site_at sys.area i)) →
    ((i : ℕ) → i < cell_count sys.area → ¬ IsInSpan waiting i → get_or waiting.lacks i 0 ≡ 0) → AreLacks sys tiles [] waiting
all_lack sys tiles waiting area due others = record {
  area = area;
  each = λ i t below within placed. omega (arith, due i within, none_pulls (site_at sys.area i) t);
  settled = λ i t below within listed. absurd (none-some t listed);
  others = others;
}
  where
    none_pulls : (m : Site) (t : TypeId) → pull sys [] m t ≡ 0
    none_pulls m t = elim (cases_lt 0 (pull sys [] m t)) [
      | inl some ↦ let beside = beside_a_tile sys [] m t some in absurd (none-some beside.1 beside.2)
      | inr none ↦ omega (arith, none)
    ]

-- two lists have the same tile, or none, at each site that waits, and beside it
pub record AreAlikeBeside (sys : TileSystem) (waiting : Waiting) (s r : List Place) : Type 0 where
  pub here : (i : ℕ) → i < cell_count sys.area → IsInSpan waiting i → tile_at s (site_at sys.area i) ≡ tile_at r (site_at sys.area i)
  pub beside : (i : ℕ) (d : Side) → i < cell_count sys.area → IsInSpan waiting i →
      tile_at s (neighbor (site_at sys.area i) d) ≡ tile_at r (neighbor (site_at sys.area i) d)

-- then the tiles lack the same, and the same are ready
module _ (sys : TileSystem) (tiles s r : List Place) (waiting : Waiting) (alike : AreAlikeBeside sys waiting s r) where
  same_pull : (i : ℕ) (t : TypeId) → i < cell_count sys.area → IsInSpan waiting i → pull sys s (site_at sys.area i) t ≡ pull sys r (site_at sys.area i) t
  same_pull i t below within = pull-beside sys s r (site_at sys.area i) t (λ (d : Side). alike.beside i d below within)

  pub lacks_alike : AreLacks sys tiles s waiting → AreLacks sys tiles r waiting
  lacks_alike lacks = record {
    area = lacks.area;
    each = λ i t below within placed. omega (arith, lacks.each i t below within placed, same_pull i t below within);
    settled = λ i t below within listed. lacks.settled i t below within (alike.here i below within ∙ listed);
    others = lacks.others;
  }

  pub ready_alike : AreReadySites sys tiles s waiting → AreReadySites sys tiles r waiting
  ready_alike are i below = (
    λ is_in.
        let at = (are i below).0 is_in in (
          at.0,
          record {
            tile = at.1.tile;
            placed = at.1.placed;
            no_seed = at.1.no_seed;
            empty = sym (alike.here i below at.0) ∙ at.1.empty;
            held = omega (arith, at.1.held, same_pull i at.1.tile below at.0);
          },
        ),
    λ both.
        let ready = both.1 in
        (are i below).1 (
          both.0,
          record {
            tile = ready.tile;
            placed = ready.placed;
            no_seed = ready.no_seed;
            empty = alike.here i below both.0 ∙ ready.empty;
            held = omega (arith, ready.held, same_pull i ready.tile below both.0);
          },
        ),
  )
