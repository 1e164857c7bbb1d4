-- What is left of a growth that was watched.
use Rattle.std.proofs.Common.{◌≡◌, ◌≢◌, ◌<◌, ◌≤◌, ◌+◌, ◌-◌, ◌^◌, ℕ, zero, suc, List, [], ◌++◌, append-nil, length, get_or, sum, bit_or, Contains, lit<, lit≤, sym, ◌∙◌, ap, subst, arith, inl, inr}
use Rattle.std.specs.Int.{bit_at}
use Rattle.std.proofs.lemmas.Bool.{cases_lt}
use Rattle.std.proofs.lemmas.Nat.Bits.{bit_at_above, bit_at_ones}
use Rattle.std.proofs.lemmas.List.Elements.{All-contains, Contains-append_left, Contains-append_right}
use Rattle.atam.specs.declared.place.Place.{Place}
use Rattle.atam.specs.Sites.{InBox}
use Rattle.atam.specs.Placements.{HasDistinctSites, IsPartOf, SamePlacements}
use Rattle.atam.specs.TileSystem.{TileSystem, IsType, IsValid}
use Rattle.atam.specs.Assembly.{Attaches}
use Rattle.atam.proofs.Canon.{producible_types}
use Rattle.atam.proofs.Closure.{closure_of_part}
use Rattle.atam.proofs.Tiles.{same_back}
use Rattle.assembly.specs.Grids.{TileGrid}
use Rattle.grow_core.specs.declared.placed_tile.PlacedTile.{PlacedTile}
use Rattle.grow_core.specs.Core.{ScoutState, Owns, greatest, placed_by}
use Rattle.grow_core.specs.Steps.{IsUnion}
use Rattle.grow_core.proofs.Numbers.{by_none}
use Rattle.site_table.specs.Seats.{SeatValue, GrownValue, Closes}
use Rattle.site_table.specs.Rule.{IsPossible}
use Rattle.frontier_seat.proofs.Looked.{closed_same}
use Rattle.grow_workers.specs.Workers.{GrewOn, WorkersWin, owned_number, worker_number}
use Rattle.grow_workers.proofs.Splitting.{rest_is, rest_small}
use Rattle.grow_workers.proofs.Winning.{all_won, ones-least, ones-worker, rejoined-owned}
use Rattle.watch_frames.specs.Frames.{AreFrames}
use Rattle.watch_frames.specs.Watched.{IsWatched}

-- what the growth has seen is all that stands, and the frames are a part of it
pub is_watched : (sys : TileSystem) (many : ℕ) (places : List Place) (counts : List ℕ) (old kept given joined : SeatValue) (start grid : TileGrid) (wins : List ℕ) (out : GrownValue) →
    IsValid sys → AreFrames sys places counts → length counts ≡ many → IsPartOf places given.scout.seen → IsUnion kept.scout given.scout joined.scout →
    SamePlacements sys.seeds start.tiles → GrewOn sys old start kept grid wins → HasDistinctSites grid.tiles → Closes sys joined.scout out → IsWatched sys many places counts out.grid.tiles
is_watched sys many places counts old kept given joined start grid wins out valid are taken part union seeds grew distinct closes =
    let tiles = out.grid.tiles in
    let grid_part : IsPartOf grid.tiles tiles = λ p in_grid. closes.seen p (union.seen.part p (Contains-append_left kept.scout.seen given.scout.seen p (grew.seen.whole p in_grid))) in
    let seeds_part : IsPartOf sys.seeds grid.tiles = λ p seed. grew.kept p (seeds.part p seed) in
    let none : (p : Place) → Contains tiles p → ¬ Attaches sys grid.tiles p.site p.tile = λ p stands attaches.
    grew.closed p.site p.tile (All-contains (λ q. InBox sys.area q.site) tiles p closes.inside stands)
    (record { kind = All-contains (λ q. IsType sys q.tile) tiles p (producible_types sys tiles closes.producible) stands; attaches = attaches })
    in
    let same : SamePlacements grid.tiles tiles = closure_of_part sys tiles grid.tiles valid.distinct_seeds closes.distinct distinct closes.producible grid_part seeds_part none in
    record {
      frames = are;
      taken = taken;
      part = λ p listed. closes.seen p (union.seen.part p (Contains-append_right kept.scout.seen given.scout.seen p (part p listed)));
      full = record {
        distinct = closes.distinct;
        inside = closes.inside;
        producible = closes.producible;
        closed = closed_same sys tiles grid.tiles closes.distinct distinct (same_back grid.tiles tiles same) grew.closed;
      };
    }

-- the two seats have all numbers again
joined_owned : (kept given joined : ScoutState) → kept.owned ≡ 2 ^ 64 - 1 - 2 ^ greatest (2 ^ 64 - 1) → given.owned ≡ 2 ^ greatest (2 ^ 64 - 1) → IsUnion kept given joined → joined.owned ≡ 2 ^ 64 - 1
joined_owned kept given joined rest top union =
    union.owned ∙ ap (λ (n : ℕ). bit_or n given.owned) rest ∙ ap (λ (n : ℕ). bit_or (2 ^ 64 - 1 - 2 ^ greatest (2 ^ 64 - 1)) n) top
    ∙ rejoined-owned (2 ^ 64 - 1) (lit< tt) (lit< tt)

no_tile : (sys : TileSystem) (kept : ScoutState) → IsPossible sys kept → kept.owned ≡ 2 ^ 64 - 1 - 2 ^ greatest (2 ^ 64 - 1) → placed_by 63 kept.mine ≡ []
no_tile sys kept possible rest = by_none 63 kept.mine (λ t in_mine placer.
    let own : Owns kept.owned t.placer = possible.scout.mine_owned t in_mine in
    let small : kept.owned < 2 ^ 63 = subst (λ (n : ℕ). n < 2 ^ 63) (sym rest) rest_small in
    let none : bit_at kept.owned 63 ≡ 0 = bit_at_above kept.owned 63 63 small (lit≤ tt) in
    let own63 : Owns kept.owned 63 = subst (Owns kept.owned) placer own in
    omega (arith, own63, none))

-- the workers beside a watcher, who counts as worker 1
beside_watcher : ℕ → ℕ
beside_watcher zero = zero
beside_watcher (suc w) = suc (suc w)

beside_fewer : (w workers : ℕ) → w < workers → beside_watcher w < workers + 1
unfolding beside_watcher
beside_fewer zero workers below = omega (arith, below)
beside_fewer (suc w) workers below = omega (arith, below)

-- which numbers they have on the other seat
number_is : (w : ℕ) → w < 16 → owned_number w (2 ^ 63 - 1) ≡ worker_number (beside_watcher w)
unfolding beside_watcher
number_is zero few = ones-least 62 (lit≤ tt)
number_is (suc w) few = let is = ones-worker w 62 (omega (arith, few)) (lit≤ tt) in omega (arith, is)

-- the watcher has placed nothing, and the seats have placed all tiles but the seeds
module _ (sys : TileSystem) (kept given joined : ScoutState) (out : GrownValue) (rest : kept.owned ≡ 2 ^ 64 - 1 - 2 ^ greatest (2 ^ 64 - 1)) (top : given.owned ≡ 2 ^ greatest (2 ^ 64 - 1))
    (union : IsUnion kept given joined) (closes : Closes sys joined out) where
  pub total : IsValid sys → sum out.won + length sys.seeds ≡ length out.grid.tiles
  total valid = all_won sys joined out valid (joined_owned kept given joined rest top union) closes

  pub watcher_won : (own : TileSystem) → IsPossible own kept → given.mine ≡ [] → get_or out.won 63 0 ≡ 0
  watcher_won own possible none =
      let owns : Owns joined.owned 63 = subst (λ (n : ℕ). Owns n 63) (sym (joined_owned kept given joined rest top union)) (bit_at_ones 64 63 (lit< tt)) in
      let mine : joined.mine ≡ kept.mine = union.mine ∙ ap (λ (l : List PlacedTile). kept.mine ++ l) none ∙ append-nil kept.mine in
      closes.own_counts 63 owns ∙ ap (λ (l : List PlacedTile). length (placed_by 63 l)) mine ∙ ap length (no_tile own kept possible rest)

  -- nor has a number that no worker has
  pub idle_won : (own : TileSystem) → IsPossible own kept → given.mine ≡ [] → (old : ScoutState) → old.owned ≡ kept.owned → old.mine ≡ [] →
      (wins : List ℕ) → WorkersWin old.mine kept.mine old.owned wins → (workers : ℕ) → length wins ≡ workers → workers ≤ 16 →
      (n : ℕ) → n < 64 → ((w : ℕ) → w < workers + 1 → n ≢ worker_number w) →
      get_or out.won n 0 ≡ 0
  idle_won own possible none old same_owned none_old wins win workers count few n within none_has = elim (cases_lt n 63) [
    | inl less ↦
        let all : old.owned ≡ 2 ^ 63 - 1 = same_owned ∙ rest ∙ rest_is in
        let owns_old : Owns old.owned n = subst (λ (o : ℕ). Owns o n) (sym all) (bit_at_ones 63 n less) in
        let rests : placed_by n kept.mine ≡ placed_by n old.mine = win.others n owns_old
        (λ w below. let worker : w < workers = subst (λ (m : ℕ). w < m) count below in
        λ e. none_has (beside_watcher w) (beside_fewer w workers worker) (e ∙ ap (owned_number w) all ∙ number_is w (omega (arith, worker, few)))) in
        let owns : Owns joined.owned n = subst (λ (o : ℕ). Owns o n) (sym (joined_owned kept given joined rest top union)) (bit_at_ones 64 n within) in
        let mine : joined.mine ≡ kept.mine = union.mine ∙ ap (λ (l : List PlacedTile). kept.mine ++ l) none ∙ append-nil kept.mine in
        closes.own_counts n owns ∙ ap (λ (l : List PlacedTile). length (placed_by n l)) mine ∙ ap length (rests ∙ ap (placed_by n) none_old)
    | inr more ↦
        let greatest_is : n ≡ 63 = omega (arith, more, within) in
        subst (λ (m : ℕ). get_or out.won m 0 ≡ 0) (sym greatest_is) (watcher_won own possible none)
  ]
