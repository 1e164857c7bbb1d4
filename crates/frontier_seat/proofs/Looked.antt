-- One look at a site, and the lists of sites.
use Rattle.std.proofs.Common.{true, ◌≡◌, ◌≢◌, ◌⊎◌, ◌<◌, ◌≤◌, ◌+◌, ◌-◌, ◌*◌, ◌^◌, ◌++◌, ℕ, List, [], ◌∷◌, length, length-append, Some, None, All, Contains, append-nil, append_assoc, get_or, pos, refl, sym, ◌∙◌, ap, subst, inl, inr, arith}
use Rattle.std.proofs.lemmas.List.Elements.{Contains-append_left, All-nil, All-cons, All-append, Contains-get_or, Contains-push, Contains-append_cases}
use Rattle.std.proofs.lemmas.Option.{none-some}
use Rattle.std.proofs.Math.Nat.{le_trans}
use Rattle.atam.specs.declared.site.Site.{Site}
use Rattle.atam.specs.declared.place.TypeId.{TypeId}
use Rattle.atam.specs.declared.place.Place.{Place}
use Rattle.atam.specs.Sites.{InBox}
use Rattle.tile_system.specs.declared.placed.Beside.{Beside}
use Rattle.tile_system.specs.Neighbors.{StandBeside}
use Rattle.atam.specs.Placements.{SamePlacements, HasDistinctSites, tile_at}
use Rattle.atam.specs.TileSystem.{TileSystem, IsType}
use Rattle.atam.specs.Growth.{IsCandidate, IsClosedInBox}
use Rattle.atam.proofs.Bonds.{pull-mono}
use Rattle.atam.proofs.Count.{count_in_box}
use Rattle.atam.proofs.Lists.{some_or_none}
use Rattle.atam.proofs.Placements.{Extends, Extends-IsPartOf, Contains-tile_at, empty_in_part, same_tiles}
use Rattle.atam.proofs.Sequences.{Fits-push}
use Rattle.atam.proofs.Tiles.{same_back, SameTiles-put, SamePlacements-push, SamePlacements-trans}
use Rattle.assembly.specs.Grids.{TileGrid}
use Rattle.atam.proofs.Opening.{IsCandidate-same, Fits-part}
use Rattle.grow_core.specs.declared.placed_tile.PlacedTile.{PlacedTile}
use Rattle.grow_core.specs.Core.{ScoutState, least, places}
use Rattle.grow_core.proofs.Listed.{unplaced, whole_place}
use Rattle.grow_core.specs.Steps.{place, tile_of, Supports, Sees, Wins}
use Rattle.site_table.specs.Seats.{GoesOn, IsSeatOf, SeatValue}
use Rattle.site_table.specs.Rule.{IsPossible}
use Rattle.site_table.proofs.Seen.{seen_fits}
use Rattle.frontier_seat.specs.declared.growing.Growing.{Growing}
use Rattle.frontier_seat.specs.Growths.{ClaimsNothing, EndsBurst, IsGrowing, GrowsOn}
use Rattle.frontier_seat.specs.declared.bursting.Burst.{Burst}
use Rattle.frontier_seat.specs.declared.bursting.Burst.TheVariants.{Quiet, Spent}
use Rattle.frontier_seat.specs.Inner.Looks.{CanLook, CatchesUp, Puts, ClaimsAt, ClaimsPick, HasListed, HasTaken, ListsOpen, LooksAt}
use Rattle.frontier_seat.specs.Inner.Pickers.{IsPickerOf}
use Rattle.frontier_seat.specs.declared.grower.Grower.{Grower}
use Rattle.frontier_seat.specs.declared.grower.Setting.{Setting}
use Rattle.frontier_seat.specs.declared.picking.Picker.{Picker}
use Rattle.number_set.specs.Numbers.{Numbers, IsIn, Removes}
use Rattle.assembly.specs.Cells.{cell_count}
use Rattle.frontier_seat.specs.declared.work_list.Spot.{Spot}
use Rattle.frontier_seat.specs.Inner.Listings.{ListsAround, IsSpot}
use Rattle.frontier_seat.proofs.Listing.{closed_none, taken_out}
use Rattle.frontier_seat.proofs.Filling.{beside_still, lists_filled, lists_unfilled}

-- a claim leaves what stands beside its site
pub still_beside : (sys : TileSystem) (old new : Growing) (m : Site) (beside : Beside) → ClaimsAt sys m old new → StandBeside old.grid.tiles m beside → StandBeside new.grid.tiles m beside
still_beside sys old new m beside claim stand = beside_still old.grid.tiles new.grid.tiles m claim.tile beside claim.tiles stand

-- the tiles of a grid over a box are few
pub few_tiles : (sys : TileSystem) (g : Growing) → IsGrowing sys g → length g.grid.tiles ≤ cell_count sys.area
few_tiles sys g growing = count_in_box sys.area g.grid.tiles growing.distinct growing.fits.sites

-- what attaches to the grid is held by what the seat has seen
pub supported : (sys : TileSystem) (g : Growing) (site : Site) (t : TypeId) → IsGrowing sys g → HasDistinctSites g.seat.scout.seen → IsCandidate sys g.grid.tiles site t → Supports sys g.seat.scout site t
supported sys g site t growing distinct grows =
    le_trans grows.attaches.held (pull-mono sys g.grid.tiles g.seat.scout.seen site t (Extends-IsPartOf g.grid.tiles g.seat.scout.seen distinct growing.seen.whole))

-- one tile more that both the seat and the grid have
pub grown_by : (sys : TileSystem) (old mid new : Growing) (site : Site) (t : TypeId) → IsGrowing sys old → InBox sys.area site → IsType sys t → GoesOn old.seat mid.seat → mid.grid ≡ old.grid →
    SamePlacements (old.seat.scout.seen ++ place site t ∷ []) mid.seat.scout.seen → Puts (place site t) mid new → mid.won ≤ length old.grid.tiles + 1 → IsGrowing sys new
grown_by sys old mid new site t growing inside kind goes grid seen puts few =
    let p : Place = place site t in
    let placements : SamePlacements (old.grid.tiles ++ p ∷ []) new.grid.tiles = subst (λ g. SamePlacements (g.tiles ++ p ∷ []) new.grid.tiles) grid puts.placements in
    let count : length new.grid.tiles ≡ length old.grid.tiles + 1 = puts.count ∙ ap (λ g. length g.tiles + 1) grid in
    let seen_new : SamePlacements new.seat.scout.seen new.grid.tiles =
    subst (λ (s : SeatValue). SamePlacements s.scout.seen new.grid.tiles) (sym puts.seat)
    (SamePlacements-trans mid.seat.scout.seen (old.seat.scout.seen ++ p ∷ []) new.grid.tiles (same_back (old.seat.scout.seen ++ p ∷ []) mid.seat.scout.seen seen)
    (SamePlacements-trans (old.seat.scout.seen ++ p ∷ []) (old.grid.tiles ++ p ∷ []) new.grid.tiles (SamePlacements-push old.seat.scout.seen old.grid.tiles p growing.seen) placements)) in
    let won = puts.won in
    record {
      system = ap (λ (s : SeatValue). s.sys) puts.seat ∙ (goes.sys ∙ growing.system);
      area = puts.area ∙ (ap (λ g. g.area) grid ∙ growing.area);
      seen = seen_new;
      distinct = puts.distinct;
      fits = Fits-part sys new.grid.tiles (old.grid.tiles ++ p ∷ []) placements.whole (Fits-push sys old.grid.tiles p growing.fits kind inside);
      some_tile = omega (arith, count);
      few_wins = omega (arith, count, won, few);
    }

-- the seat goes on, and wins these tiles
pub goes_by : (old mid new : Growing) (site : Site) (t : TypeId) (wins : List PlacedTile) → GoesOn old.seat mid.seat → mid.grid ≡ old.grid → Puts (place site t) mid new →
    mid.seat.scout.mine ≡ old.seat.scout.mine ++ wins → All (λ u. u.placer ≡ least old.seat.scout.owned) wins → mid.won ≡ old.won + length wins → GrowsOn old new
goes_by old mid new site t wins goes grid puts mine placer won = record {
  seat = subst (GoesOn old.seat) (sym puts.seat) goes;
  area = puts.area ∙ ap (λ g. g.area) grid;
  kept = λ p c. puts.placements.part p (Contains-append_left mid.grid.tiles (place site t ∷ []) p (subst (λ g. Contains g.tiles p) (sym grid) c));
  wins = wins;
  mine = ap (λ (s : SeatValue). s.scout.mine) puts.seat ∙ mine;
  placer = placer;
  won = puts.won ∙ won;
}

abbrev pub claimed_by : (sys : TileSystem) (old mid new : Growing) (site : Site) (t : TypeId) → mid.grid ≡ old.grid → Puts (place site t) mid new → IsGrowing sys new → GrowsOn old new → ClaimsAt sys site old new
claimed_by sys old mid new site t grid puts growing goes = record {
  growing = growing;
  goes = goes;
  tile = t;
  tiles = λ m. puts.tiles m ∙ ap (λ g. tile_at (g.tiles ++ place site t ∷ []) m) grid;
  placements = subst (λ g. SamePlacements (g.tiles ++ place site t ∷ []) new.grid.tiles) grid puts.placements;
  count = puts.count ∙ ap (λ g. length g.tiles + 1) grid;
}

-- a seat that did nothing
pub goes_nowhere : (g : Growing) → GrowsOn g g
goes_nowhere g = record {
  seat = record { table = refl; sys = refl; owned = refl };
  area = refl;
  kept = λ p c. c;
  wins = [];
  mine = sym (append-nil g.seat.scout.mine);
  placer = All-nil (λ (t : PlacedTile). t.placer ≡ least g.seat.scout.owned);
  won = omega arith;
}

-- one growth after another
pub goes_further : (a b c : Growing) → GrowsOn a b → GrowsOn b c → GrowsOn a c
goes_further a b c first second =
    let last = second.won in
    let before = first.won in
    let both = length-append first.wins second.wins in
    let same : least b.seat.scout.owned ≡ least a.seat.scout.owned = ap least first.seat.owned in
    record {
      seat = record { table = second.seat.table ∙ first.seat.table; sys = second.seat.sys ∙ first.seat.sys; owned = second.seat.owned ∙ first.seat.owned };
      area = second.area ∙ first.area;
      kept = λ p in_a. second.kept p (first.kept p in_a);
      wins = first.wins ++ second.wins;
      mine = second.mine ∙ (ap (λ l. l ++ second.wins) first.mine ∙ append_assoc a.seat.scout.mine first.wins second.wins);
      placer = All-append (λ (t : PlacedTile). t.placer ≡ least a.seat.scout.owned) first.wins second.wins first.placer (subst (λ n. All (λ (t : PlacedTile). t.placer ≡ n) second.wins) same second.placer);
      won = omega (arith, last, before, both);
    }

-- after a look it can look on
pub can_again : (lent : Setting) (before after : Grower) →
    CanLook lent before → GrowsOn before.growing after.growing → IsGrowing lent.sys.now after.growing → IsPickerOf lent.sys.now after.picker → after.work.area ≡ before.work.area →
    CanLook lent after
can_again lent before after can goes growing picker area = record {
  box = can.box;
  system = can.system;
  seat = record { table = goes.seat.table ∙ can.seat.table; sys = goes.seat.sys ∙ can.seat.sys };
  growing = growing;
  picker = picker;
  area = area ∙ can.area;
}

-- of a seat of the table
pub can_look : (lent : Setting) (g : Grower) → lent.area ≡ lent.sys.now.area → lent.table.now.sys ≡ lent.sys.now →
    IsSeatOf lent.table.now g.growing.seat → IsGrowing g.growing.seat.sys g.growing → IsPickerOf g.growing.seat.sys g.picker → g.work.area ≡ g.growing.seat.sys.area →
    CanLook lent g
can_look lent g box system seat growing picker area =
    let same : g.growing.seat.sys ≡ lent.sys.now = seat.sys ∙ system in
    record {
      box = box;
      system = system;
      seat = seat;
      growing = subst (λ (z : TileSystem). IsGrowing z g.growing) same growing;
      picker = subst (λ (z : TileSystem). IsPickerOf z g.picker) same picker;
      area = area ∙ ap (λ (z : TileSystem). z.area) same;
    }

-- where a type attaches and is claimed
pub looked_at_some : (sys : TileSystem) (before after : Grower) (spot : Spot) → HasTaken sys before spot → ClaimsAt sys spot.site before.growing after.growing →
    ListsAround sys.area after.growing.grid.tiles spot.site before.work.numbers after.work.numbers → LooksAt sys before after
looked_at_some sys before after spot taken claim around = record {
  goes = claim.goes;
  on = lists_filled sys before.growing.grid.tiles after.growing.grid.tiles spot claim.tile before.work.numbers after.work.numbers taken claim.tiles claim.count around;
}

-- where no type attaches
pub looked_at_none : (sys : TileSystem) (g : Grower) (picker : Picker) (spot : Spot) → HasTaken sys g spot →
    ((t : TypeId) → ¬ IsCandidate sys g.growing.grid.tiles spot.site t) → LooksAt sys g (record { growing = g.growing; picker = picker; work = g.work })
looked_at_none sys g picker spot taken none = record {
  goes = goes_nowhere g.growing;
  on = lists_unfilled sys g.growing.grid.tiles spot g.work.numbers taken none;
}

-- the work that is left
pub less_work : (cells before after rest new all : ℕ) → after ≤ cells → rest + 1 ≤ all → new + 4 * before ≤ rest + 4 * after →
    4 * (cells - after) + new < 4 * (cells - before) + all
less_work cells before after rest new all most one_less work = omega arith

anywhere : Place
anywhere = record { site = record { y = pos 0; x = pos 0 }; tile = record { 0 = 0 } }

-- what a seat has seen is not empty
pub real_some : (sys : TileSystem) (v : ScoutState) (tiles : List Place) → IsPossible sys v → SamePlacements v.seen tiles → 1 ≤ length tiles
real_some sys v tiles real same =
    let seed : Place = get_or sys.seeds 0 anywhere in
    let c = same.part seed (real.scout.seeds seed (Contains-get_or sys.seeds 0 anywhere real.valid.some_seed)) in
    let l = c.1 in omega (arith, l)

-- a tile is put
pub tile_put : (old : Growing) (grid : TileGrid) (p : Place) → grid.area ≡ old.grid.area → tile_at old.grid.tiles p.site ≡ None → tile_at grid.tiles p.site ≡ Some p.tile →
    ((m : Site) → m ≢ p.site → tile_at grid.tiles m ≡ tile_at old.grid.tiles m) → SamePlacements (old.grid.tiles ++ p ∷ []) grid.tiles → HasDistinctSites grid.tiles →
    length grid.tiles ≡ length old.grid.tiles + 1 → Puts p old (record { seat = old.seat; grid = grid; won = old.won })
tile_put old grid p area empty here others placements distinct count = record {
  seat = refl;
  won = refl;
  area = area;
  tiles = λ m. sym (SameTiles-put old.grid.tiles grid.tiles p empty here others m);
  placements = placements;
  distinct = distinct;
  count = count;
}

-- a claim that is won
pub claim_won : (sys : TileSystem) (old mid new : Growing) (site : Site) (t : TypeId) → IsGrowing sys old → InBox sys.area site → IsType sys t → GoesOn old.seat mid.seat → mid.grid ≡ old.grid →
    mid.won ≡ old.won + 1 → Wins old.seat.scout (place site t) mid.seat.scout → Puts (place site t) mid new → IsCandidate sys old.grid.tiles site t → ClaimsPick sys site old new true
claim_won sys old mid new site t growing inside kind goes grid won wins puts grows =
    let few = growing.few_wins in
    let n = least old.seat.scout.owned in
    record {
      claim = claimed_by sys old mid new site t grid puts
          (grown_by sys old mid new site t growing inside kind goes grid wins.seen puts (omega (arith, won, few)))
          (goes_by old mid new site t (tile_of (place site t) n ∷ []) goes grid puts wins.mine
          (All-cons (λ (u : PlacedTile). u.placer ≡ n) (tile_of (place site t) n) [] refl (All-nil (λ (u : PlacedTile). u.placer ≡ n))) (omega (arith, won)));
      attaches = λ _. grows;
      sole = λ _. refl;
    }

-- and one that is lost
abbrev pub claim_lost : (sys : TileSystem) (old mid new : Growing) (site : Site) (t : TypeId) → IsGrowing sys old → InBox sys.area site → IsType sys t → GoesOn old.seat mid.seat → mid.grid ≡ old.grid →
    mid.won ≡ old.won → Sees old.seat.scout (place site t) mid.seat.scout → Puts (place site t) mid new → ClaimsAt sys site old new
claim_lost sys old mid new site t growing inside kind goes grid won sees puts =
    let few = growing.few_wins in
    claimed_by sys old mid new site t grid puts
    (grown_by sys old mid new site t growing inside kind goes grid sees.seen puts (omega (arith, won, few)))
    (goes_by old mid new site t [] goes grid puts (sees.mine ∙ sym (append-nil old.seat.scout.mine)) (All-nil (λ (u : PlacedTile). u.placer ≡ least old.seat.scout.owned)) (omega (arith, won)))

-- who owns all numbers has seen each tile that stands, and no claim is lost
never_held : (sys : TileSystem) (v w : ScoutState) (m : Site) (t : TypeId) → IsPossible sys v → IsPossible sys w → tile_at v.seen m ≡ None → Sees v (place m t) w → v.owned ≢ 2 ^ 64 - 1
never_held sys v w m t before after empty sees all =
    let p : Place = place m t in
    let seen : Contains w.seen p = sees.seen.part p (Contains-push v.seen p) in
    let unseen : ¬ Contains v.seen p = λ c. none-some t (sym empty ∙ Contains-tile_at v.seen p before.scout.distinct c) in
    elim (Contains-append_cases sys.seeds (places w.mine) p (whole_place sys after.tiles w after.history after.scout (sees.owned ∙ all) p (after.scout.part p seen))) [
      | inl seed ↦ unseen (before.scout.seeds p seed)
      | inr won ↦
          let tile = unplaced w.mine p won in
          unseen (subst (Contains v.seen) tile.2 (before.scout.mine_seen tile.0 (subst (λ (l : List PlacedTile). Contains l tile.0) sees.mine tile.1)))
    ]

-- so it is at a site that is empty in the grid
pub never_lost : (sys : TileSystem) (old : Growing) (w : ScoutState) (m : Site) (t : TypeId) → IsGrowing sys old → IsPossible sys old.seat.scout → IsPossible sys w → tile_at old.grid.tiles m ≡ None → Sees old.seat.scout (place m t) w → old.seat.scout.owned ≢ 2 ^ 64 - 1
never_lost sys old w m t growing before after empty sees =
    let seen = old.seat.scout.seen in
    let same = same_tiles seen old.grid.tiles before.scout.distinct growing.distinct growing.seen in
    never_held sys old.seat.scout w m t before after (empty_in_part seen old.grid.tiles m same.0 empty) sees

-- a growth starts
pub growth_start : (sys : TileSystem) (seat : SeatValue) (grid : TileGrid) → seat.sys ≡ sys → grid.area ≡ sys.area → SamePlacements seat.scout.seen grid.tiles → HasDistinctSites grid.tiles → IsPossible seat.sys seat.scout →
    IsGrowing seat.sys (record { seat = seat; grid = grid; won = 0 })
growth_start sys seat grid system area seen distinct real = record {
  system = refl;
  area = area ∙ ap (λ (z : TileSystem). z.area) (sym system);
  seen = seen;
  distinct = distinct;
  fits = Fits-part seat.sys grid.tiles seat.scout.seen seen.whole (seen_fits seat.sys seat.scout real);
  some_tile = real_some seat.sys seat.scout grid.tiles real seen;
  few_wins = omega arith;
}

-- what stands in both at a site is one
SameTiles-extends : (a b : List Place) → Extends a b → Extends b a → (m : Site) → tile_at a m ≡ tile_at b m
SameTiles-extends a b one other m = elim (some_or_none (tile_at a m)) [
  | inr found ↦ found.1 ∙ sym (one m found.0 found.1)
  | inl none ↦ elim (some_or_none (tile_at b m)) [
    | inl bare ↦ none ∙ sym bare
    | inr found ↦ absurd (none-some found.0 (sym none ∙ other m found.0 found.1))
  ]
]

-- of two lists that are one assembly both are closed
pub closed_same : (sys : TileSystem) (a b : List Place) → HasDistinctSites a → HasDistinctSites b → SamePlacements a b → IsClosedInBox sys b → IsClosedInBox sys a
closed_same sys a b distinct_a distinct_b same closed m t inside grows =
    let both = same_tiles a b distinct_a distinct_b same in
    closed m t inside (IsCandidate-same sys a b m t (SameTiles-extends a b both.0 both.1) grows)

-- where the grid is closed, so is what the seat has seen
pub closed_seen : (sys : TileSystem) (g : Growing) → IsGrowing sys g → HasDistinctSites g.seat.scout.seen → IsClosedInBox sys g.grid.tiles → IsClosedInBox sys g.seat.scout.seen
closed_seen sys g growing distinct closed = closed_same sys g.seat.scout.seen g.grid.tiles distinct growing.distinct growing.seen closed

-- a burst that made fewer claims than it may ended with a closed box
pub ended_quiet : (sys : TileSystem) (old new : Growing) (most : ℕ) (burst : Burst) → length new.grid.tiles < length old.grid.tiles + most → EndsBurst sys old new most burst → IsClosedInBox sys new.grid.tiles
ended_quiet sys old new most Quiet fewer ends = ends
ended_quiet sys old new most Spent fewer ends = let all = ends.1 in absurd (omega (arith, fewer, all))

-- what another placed at a site is seen, and the listed sites follow
pub caught_up : (sys : TileSystem) (before after : Grower) (spot : Spot) (mid : Numbers) → IsSpot sys.area spot → tile_at before.growing.grid.tiles spot.site ≡ None → HasListed sys before → Removes before.work.numbers mid spot.number →
    ClaimsAt sys spot.site before.growing after.growing → ClaimsNothing before.growing after.growing → ListsAround sys.area after.growing.grid.tiles spot.site mid after.work.numbers → CatchesUp sys before after
caught_up sys before after spot mid is empty lists removes claim idle around =
    let taken = taken_out sys before.growing.grid.tiles before.work.numbers mid spot is empty removes lists in
    let on = lists_filled sys before.growing.grid.tiles after.growing.grid.tiles spot claim.tile mid after.work.numbers taken claim.tiles claim.count around in
    record {
      goes = claim.goes;
      more = let count = claim.count in omega (arith, count);
      idle = idle;
      lists = on.lists;
    }

-- step by step
pub caught_more : (sys : TileSystem) (a b c : Grower) → CatchesUp sys a b → CatchesUp sys b c → CatchesUp sys a c
caught_more sys a b c first second = record {
  goes = goes_further a.growing b.growing c.growing first.goes second.goes;
  more = le_trans first.more second.more;
  idle = record { mine = second.idle.mine ∙ first.idle.mine; won = second.idle.won ∙ first.idle.won };
  lists = second.lists;
}

-- nothing was seen yet
pub caught_none : (sys : TileSystem) (g : Grower) → HasListed sys g → CatchesUp sys g g
caught_none sys g lists = record { goes = goes_nowhere g.growing; more = omega arith; idle = record { mine = refl; won = refl }; lists = lists }

-- how a burst ends, by whether a type attaches still
pub ended_open : (sys : TileSystem) (old new : Growing) (most : ℕ) (numbers : Numbers) → ListsOpen sys new.grid.tiles numbers → ((n : ℕ) → ¬ IsIn numbers n) ⊎ (length new.grid.tiles ≡ length old.grid.tiles + most) →
    (¬ IsClosedInBox sys new.grid.tiles) → EndsBurst sys old new most Spent
ended_open sys old new most numbers lists done more = elim done [
  | inl none ↦ absurd (more (closed_none sys new.grid.tiles numbers none lists.all))
  | inr all ↦ (more, all)
]
