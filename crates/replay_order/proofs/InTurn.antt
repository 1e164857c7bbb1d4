-- Tiles that come by the numbers of their sites, each held by what stands before it.
use Rattle.std.proofs.Common.{◌≡◌, ◌≢◌, ◌⊎◌, ◌≤◌, ◌<◌, ◌+◌, ◌-◌, ◌++◌, ℕ, List, [], ◌∷◌, Some, None, Contains, length, length-append, append_assoc, append-nil, refl, sym, ◌∙◌, ap, subst, inl, inr, arith}
use Rattle.std.proofs.lemmas.Int.{ints}
use Rattle.std.proofs.lemmas.Bool.{cases_lt}
use Rattle.std.proofs.lemmas.Option.{none-some, same_Some}
use Rattle.std.proofs.lemmas.List.Elements.{All-contains}
use Rattle.atam.specs.declared.site.Site.{Site}
use Rattle.atam.specs.declared.site.Side.{Side}
use Rattle.atam.specs.declared.site.Side.TheVariants.{South, West}
use Rattle.atam.specs.declared.place.TypeId.{TypeId}
use Rattle.atam.specs.declared.place.Place.{Place}
use Rattle.atam.specs.declared.area.BoxArea.{BoxArea}
use Rattle.atam.specs.Sites.{IsBefore, neighbor, width_of}
use Rattle.atam.specs.Placements.{tile_at}
use Rattle.atam.specs.TileSystem.{TileSystem}
use Rattle.atam.specs.Assembly.{pull}
use Rattle.atam.specs.Canonical.{IsReady}
use Rattle.atam.proofs.Lists.{some_or_none, Contains-push}
use Rattle.atam.proofs.Placements.{tile_at-Contains, Contains-tile_at}
use Rattle.assembly.specs.Cells.{site_at}
use Rattle.assembly.specs.Grids.{TileGrid}
use Rattle.assembly.proofs.Cells.{index_of, not_before}
use Rattle.replay_order.specs.Inner.Spans.{standing, IsSiteBetween, GoesOn, CanList, IsListedBehind}
use Rattle.replay_order.specs.Inner.Replays.{due_at}
use Rattle.replay_order.proofs.Begun.{listed_site, seeds_part}
use Rattle.replay_order.proofs.Dues.{due_at-other, due_at-seed}
use Rattle.replay_order.proofs.ReadySites.{Fits-tile}
use Rattle.replay_order.proofs.SpanSteps.{goes_on-push}
use Rattle.replay_order.proofs.Spans.{follows_on, wider}
use Rattle.replay_order.proofs.Standing.{below_empty, standing_begun, standing_more, standing_same, standing_tile}

-- a site before another has a lesser number
lower_number : (area : BoxArea) (k n : ℕ) (a b : Site) → 0 < width_of area → site_at area k ≡ a → site_at area n ≡ b → IsBefore a b → k < n
lower_number area k n a b wide at_a at_b before = elim (cases_lt k n) [
  | inl less ↦ less
  | inr later ↦
      let Before : Site → Site → Type 0 = λ x y. IsBefore x y in
      absurd (not_before area n k later wide (subst (λ x. Before x (site_at area n)) (sym at_a) (subst (Before a) (sym at_b) before)))
]

-- the sites west and south are before
behind_before : (m : Site) (d : Side) → (d ≡ West) ⊎ (d ≡ South) → IsBefore (neighbor m d) m
behind_before m d side = elim side [
  | inl west ↦ let Before : Side → Type 0 = λ e. IsBefore (neighbor m e) m in subst Before (sym west) (inr (refl, omega (arith, ints)))
  | inr south ↦ let Before : Side → Type 0 = λ e. IsBefore (neighbor m e) m in subst Before (sym south) (inl (omega (arith, ints)))
]

-- a site to which something is due has no seed
pub due_no_seed : (seeds : List Place) (tau lack : ℕ) (m : Site) → lack ≡ due_at seeds tau m → 0 < lack → tile_at seeds m ≡ None
due_no_seed seeds tau lack m due some = elim (some_or_none (tile_at seeds m)) [
  | inl none ↦ none
  | inr seed ↦ let never : ⊥ = omega (arith, due, some, due_at-seed seeds tau m seed.0 seed.1) in absurd never
]

-- and one to which nothing is due has one
pub no_due_seed : (seeds : List Place) (tau lack : ℕ) (m : Site) → 1 ≤ tau → lack ≡ due_at seeds tau m → ¬ (0 < lack) → tile_at seeds m ≢ None
no_due_seed seeds tau lack m positive due nothing none = nothing (omega (arith, positive, due, due_at-other seeds tau m none))

-- the tiles behind the first ones are listed so far, by the numbers of their sites
pub record ListsInTurn (sys : TileSystem) (tiles : List Place) (first n : ℕ) (old new : List Place) : Type 0 where
  pub part : List Place
  pub listed : new ≡ old ++ part
  pub stood : standing sys tiles n ≡ standing sys tiles first ++ part
  pub goes_on : GoesOn sys tiles (standing sys tiles first) part
  pub between : (p : Place) → Contains part p → IsSiteBetween sys.area first n p.site
  pub few : first + length part ≤ n

module _ (sys : TileSystem) (grid : TileGrid) (can : CanList sys grid) where
  abbrev tiles : List Place
  tiles = grid.tiles

  wide : 0 < width_of sys.area
  wide = omega (arith, ints, can.valid.box.corners.columns)

  -- what has a lesser number stands
  stands_below : (k n : ℕ) (m : Site) (t : TypeId) → k < n → site_at sys.area k ≡ m → tile_at tiles m ≡ Some t → tile_at (standing sys tiles n) m ≡ Some t
  stands_below k n m t less at tile = elim (some_or_none (tile_at sys.seeds m)) [
    | inl none ↦ standing_tile sys.area tiles sys.seeds n m t none (record { number = k; from = omega arith; before = less; site = at }) tile
    | inr seed ↦
        let q : Place = record { site = m; tile = seed.0 } in
        let there : tile_at tiles m ≡ Some seed.0 = All-contains (λ p. tile_at tiles p.site ≡ Some p.tile) sys.seeds q can.seeded (tile_at-Contains sys.seeds m seed.0 seed.1) in
        let same : seed.0 ≡ t = same_Some seed.0 t (sym there ∙ tile) in
        standing_begun sys.area tiles sys.seeds n m t (seed.1 ∙ ap (λ u. Some u) same)
  ]

  -- so do the tiles west and south
  pub stands_behind : (k n : ℕ) (m : Site) (d : Side) (t : TypeId) → (d ≡ West) ⊎ (d ≡ South) → site_at sys.area n ≡ m → site_at sys.area k ≡ neighbor m d → tile_at tiles (neighbor m d) ≡ Some t →
      tile_at (standing sys tiles n) (neighbor m d) ≡ Some t
  stands_behind k n m d t side here there tile =
      stands_below k n (neighbor m d) t (lower_number sys.area k n (neighbor m d) m wide there here (behind_before m d side)) there tile

  -- nothing is listed yet
  pub turn_first : (first : ℕ) (old : List Place) → ListsInTurn sys tiles first first old old
  turn_first first old = record {
    part = [];
    listed = sym (append-nil old);
    stood = sym (append-nil (standing sys tiles first));
    goes_on = record { ready = λ i p there. absurd (none-some p there); least = λ i p q there. absurd (none-some p there) };
    between = λ p contains. let never : ⊥ = omega (arith, contains.1) in absurd never;
    few = omega arith;
  }

  module _ (first n : ℕ) (old new : List Place) (turn : ListsInTurn sys tiles first n old new) where
    -- a site without a tile, or with a seed, is passed over
    pub turn_same : (tile_at sys.seeds (site_at sys.area n) ≢ None) ⊎ (tile_at tiles (site_at sys.area n) ≡ None) → ListsInTurn sys tiles first (n + 1) old new
    turn_same none = record {
      part = turn.part;
      listed = turn.listed;
      stood = standing_same sys.area tiles sys.seeds n none ∙ turn.stood;
      goes_on = turn.goes_on;
      between = λ p contains. wider sys.area first n first (n + 1) p.site (omega arith) (omega arith) (turn.between p contains);
      few = omega (arith, turn.few);
    }

    -- a tile that is held by what stands is the least ready one
    module _ (from : first ≤ n) (p : Place) (here : site_at sys.area n ≡ p.site) (none : tile_at sys.seeds p.site ≡ None) (tile : tile_at tiles p.site ≡ Some p.tile)
        (held : sys.tau ≤ pull sys (standing sys tiles n) p.site p.tile) where
      none_here : tile_at sys.seeds (site_at sys.area n) ≡ None
      none_here = subst (λ m. tile_at sys.seeds m ≡ None) (sym here) none

      unlisted : ¬ Contains (standing sys tiles n) p
      unlisted listed =
          let empty : tile_at (standing sys tiles n) p.site ≡ None = subst (λ m. tile_at (standing sys tiles n) m ≡ None) here (below_empty sys.area tiles sys.seeds n none_here) in
          listed_site (standing sys tiles n) p listed empty

      ready : IsReady sys tiles (standing sys tiles n) p
      ready = record { placed = tile_at-Contains tiles p.site p.tile tile; unlisted = unlisted; held = held }

      least : (q : Place) → IsReady sys tiles (standing sys tiles n) q → ¬ IsBefore q.site p.site
      least q is_ready before =
          let at_q : tile_at tiles q.site ≡ Some q.tile = Contains-tile_at tiles q can.distinct is_ready.placed in
          let number = index_of sys.area q.site (Fits-tile sys tiles q.site q.tile can.fits at_q).1 in
          let less = lower_number sys.area number.0 n q.site p.site wide number.2 here before in
          is_ready.unlisted (tile_at-Contains (standing sys tiles n) q.site q.tile (stands_below number.0 n q.site q.tile less number.2 at_q))

      pub turn_more : (more : List Place) → more ≡ new ++ p ∷ [] → ListsInTurn sys tiles first (n + 1) old more
      turn_more more pushed =
          let Ready : List Place → Type 0 = λ l. IsReady sys tiles l p in
          let Least : List Place → Type 0 = λ l. (q : Place) → IsReady sys tiles l q → ¬ IsBefore q.site p.site in
          let tile_here : tile_at tiles (site_at sys.area n) ≡ Some p.tile = subst (λ m. tile_at tiles m ≡ Some p.tile) (sym here) tile in
          let one : record { site = site_at sys.area n; tile = p.tile } ≡ p = ap (λ m. record { site = m; tile = p.tile }) here in
          let stood : standing sys tiles (n + 1) ≡ (standing sys tiles n ++ p ∷ []) = standing_more sys.area tiles sys.seeds n p.tile none_here tile_here ∙ ap (λ q. standing sys tiles n ++ q ∷ []) one in
          record {
            part = turn.part ++ p ∷ [];
            listed = pushed ∙ ap (λ l. l ++ p ∷ []) turn.listed ∙ append_assoc old turn.part (p ∷ []);
            stood = stood ∙ ap (λ l. l ++ p ∷ []) turn.stood ∙ append_assoc (standing sys tiles first) turn.part (p ∷ []);
            goes_on = goes_on-push sys tiles (standing sys tiles first) turn.part p turn.goes_on (subst Ready turn.stood ready) (subst Least turn.stood least);
            between = λ q contains. elim (Contains-push turn.part p q contains) [
              | inl in_part ↦ wider sys.area first n first (n + 1) q.site (omega arith) (omega arith) (turn.between q in_part)
              | inr same ↦ record { number = n; from = from; before = omega arith; site = here ∙ ap (λ r. r.site) same }
            ];
            few = omega (arith, turn.few, length-append turn.part (p ∷ []));
          }

    -- so it is what follows
    pub turn_listed : IsListedBehind sys tiles first n old new
    turn_listed = record {
      part = turn.part;
      listed = turn.listed;
      follows = follows_on sys tiles can.distinct can.valid.distinct_seeds (seeds_part sys tiles can.seeded) first n turn.part turn.goes_on turn.between;
    }

    -- and there is room for what is left
    pub turn_room : (end room : ℕ) → n ≤ end → length old + (end - first) ≤ room → length new + (end - n) ≤ room
    turn_room end room within enough = omega (arith, within, enough, turn.few, ap length turn.listed, length-append old turn.part)
