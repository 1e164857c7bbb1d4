-- Rounds of a growth, one after the other.
use Rattle.std.proofs.Common.{◌≡◌, ◌<◌, ◌≤◌, ◌+◌, ◌^◌, ℕ, List, [], ◌∷◌, ◌++◌, length, length-append, append-nil, append_assoc, get_or, All, Result, Ok, Err, IfOk, refl, sym, ◌∙◌, ap, subst, inl, inr, arith}
use Rattle.std.proofs.lemmas.List.{get_or_default}
use Rattle.std.proofs.lemmas.List.Elements.{Contains-append_left}
use Rattle.atam.specs.TileSystem.{TileSystem, IsValid}
use Rattle.atam.specs.declared.place.Place.{Place}
use Rattle.atam.specs.Placements.{SamePlacements, IsPartOf, HasDistinctSites}
use Rattle.atam.specs.Growth.{IsClosedInBox}
use Rattle.atam.proofs.Count.{count_in_part}
use Rattle.atam.proofs.Tiles.{same_back, SamePlacements-trans}
use Rattle.assembly.specs.Grids.{TileGrid}
use Rattle.tile_system.specs.declared.memory.NoMemory.{NoMemory}
use Rattle.grow_core.specs.declared.placed_tile.PlacedTile.{PlacedTile}
use Rattle.grow_core.specs.Core.{placed_by}
use Rattle.site_table.specs.Seats.{IsPartOfGrowth, IsSeatOf, SeatValue}
use Rattle.frontier_seat.specs.declared.growing.Growing.{Growing}
use Rattle.frontier_seat.specs.declared.bursting.Burst.{Burst}
use Rattle.frontier_seat.specs.declared.bursting.Burst.TheVariants.{Quiet, Spent}
use Rattle.frontier_seat.specs.Growths.{EndsBurst}
use Rattle.frontier_seat.proofs.Looked.{closed_same}
use Rattle.grow_workers.specs.declared.leavings.Part.{Part}
use Rattle.grow_workers.specs.declared.shared.Shared.{Shared}
use Rattle.grow_workers.specs.declared.starts.Start.{Start}
use Rattle.grow_workers.specs.Workers.{WinsUnder, WorkersWin, owned_number}
use Rattle.grow_workers.specs.Inner.Rounds.{AddsUp, AreRoundsOf, IsFar, IsRoundOf, WentOn}
use Rattle.grow_workers.specs.Inner.Sharing.{AreWorksOf, HasSeen, IsSeenPart, IsWorkOf, start_grid}
use Rattle.grow_workers.specs.Inner.Wins.{PartedGrowth}
use Rattle.grow_workers.proofs.Joined.{grew_from}
use Rattle.grow_workers.proofs.Numbering.{workers_win}
use Rattle.grow_workers.proofs.Whole.{nothing_comes}
use Rattle.grow_workers.proofs.Winning.{placed_few}

-- what is won under a number in two stages
wins_both : (a b c : List PlacedTile) (n j k : ℕ) → WinsUnder a b n j → WinsUnder b c n k → WinsUnder a c n (j + k)
wins_both a b c n j k first second =
    let one = first.many in
    let two = second.many in
    let both = length-append first.wins second.wins in
    record {
      wins = first.wins ++ second.wins;
      order = second.order ∙ (ap (λ l. l ++ second.wins) first.order ∙ append_assoc (placed_by n a) first.wins second.wins);
      many = omega (arith, one, two, both);
    }

-- two stages are one, in which each has won what it won in both
pub went_both : (sys : TileSystem) (old mid new : SeatValue) (start grid last : TileGrid) (one other sums : List ℕ) → length other ≡ length one → AddsUp one other sums → WentOn sys old start mid grid one → WentOn sys mid grid new last other →
    WentOn sys old start new last sums
went_both sys old mid new start grid last one other sums same adds first second =
    let owned : mid.scout.owned ≡ old.scout.owned = first.seat.owned in
    let later : WorkersWin mid.scout.mine new.scout.mine old.scout.owned other = subst (λ (n : ℕ). WorkersWin mid.scout.mine new.scout.mine n other) owned second.workers_win in
    let count = adds.count in
    record {
      seat = record { table = second.seat.table ∙ first.seat.table; sys = second.seat.sys ∙ first.seat.sys; owned = second.seat.owned ∙ owned };
      area = second.area;
      seen = second.seen;
      kept = λ p c. second.kept p (first.kept p c);
      workers_win = record {
        each = λ w within.
            let in_one : w < length one = omega (arith, within, count) in
            subst (λ (k : ℕ). WinsUnder old.scout.mine new.scout.mine (owned_number w old.scout.owned) k) (sym (adds.each w in_one))
            (wins_both old.scout.mine mid.scout.mine new.scout.mine (owned_number w old.scout.owned) (get_or one w 0) (get_or other w 0) (first.workers_win.each w in_one) (later.each w (omega (arith, in_one, same))));
        others = λ n own none.
            later.others n own (λ w within. none w (omega (arith, within, same, count))) ∙ first.workers_win.others n own (λ w within. none w (omega (arith, within, count)));
      };
    }

-- before the first round each has won nothing
started : (sys : TileSystem) (seat : SeatValue) (grid : TileGrid) (none : List ℕ) → grid.area ≡ sys.area → SamePlacements seat.scout.seen grid.tiles → ((i : ℕ) → i < length none → get_or none i 0 ≡ 0) → WentOn sys seat grid seat grid none
started sys seat grid none area seen zeros = record {
  seat = record { table = refl; sys = refl; owned = refl };
  area = area;
  seen = seen;
  kept = λ p c. c;
  workers_win = record {
    each = λ w within.
        subst (λ (k : ℕ). WinsUnder seat.scout.mine seat.scout.mine (owned_number w seat.scout.owned) k) (sym (zeros w within))
        (record { wins = []; order = sym (append-nil (placed_by (owned_number w seat.scout.owned) seat.scout.mine)); many = refl });
    others = λ n own none. refl;
  };
}

-- also where the seat and the grid are spelled otherwise
pub went_nowhere : (sys : TileSystem) (seat here : SeatValue) (grid there : TileGrid) (none : List ℕ) → here ≡ seat → there ≡ grid → grid.area ≡ sys.area → SamePlacements seat.scout.seen grid.tiles → ((i : ℕ) → i < length none → get_or none i 0 ≡ 0) →
    WentOn sys seat grid here there none
went_nowhere sys seat here grid there none same_seat same_grid area seen zeros =
    subst (λ (s : SeatValue). WentOn sys seat grid s there none) (sym same_seat) (subst (λ (g : TileGrid). WentOn sys seat grid seat g none) (sym same_grid) (started sys seat grid none area seen zeros))

-- what workers make of a seat that was parted among them
pub went_parted : (sys : TileSystem) (old new : SeatValue) (start grid : TileGrid) (first : ℕ) (others : List ℕ) → 0 < old.scout.owned → old.scout.owned < 2 ^ 64 → PartedGrowth sys old start new grid first others →
    WentOn sys old start new grid (first ∷ others)
went_parted sys old new start grid first others some small parted = record {
  seat = parted.seat;
  area = parted.area;
  seen = parted.seen;
  kept = parted.kept;
  workers_win = workers_win old.scout.mine new.scout.mine old.scout.owned first others some small parted.first_wins parted.others_win;
}

-- each has won at most as many tiles as the seat has
pub each_few : (old new : List PlacedTile) (owned : ℕ) (wins : List ℕ) → WorkersWin old new owned wins → All (λ (n : ℕ). n ≤ length new) wins
each_few old new owned wins win = λ k d within.
    let n = owned_number k owned in
    let under = win.each k within in
    let order = ap length under.order in
    let both = length-append (placed_by n old) under.wins in
    let many = under.many in
    let few = placed_few n new in
    let same : get_or wins k d ≡ get_or wins k 0 = get_or_default wins k d 0 within in
    omega (arith, order, both, many, few, same)

-- a burst of 4096 claims leaves the box closed, or takes as many sites
pub ends_far : (sys : TileSystem) (old new : Growing) (b : Burst) → EndsBurst sys old new 4096 b → IsFar sys (length old.grid.tiles + 4096) new.grid
ends_far sys old new Quiet closed = inl closed
ends_far sys old new Spent spent = let more = spent.1 in inr (omega (arith, more))

-- what a worker leaves whose burst came that far
pub round_of : {G : Type 0} (shared : Shared G) (start : Start) (grid : TileGrid) (part : Part) → SamePlacements (start_grid shared.sys.now start.seen).tiles grid.tiles → HasDistinctSites grid.tiles → IsSeenPart shared part →
    PartedGrowth shared.sys.now start.seat grid part.seat part.grid part.won [] → IsFar shared.sys.now (length grid.tiles + 4096) part.grid → IsRoundOf shared start part
round_of shared start grid part same distinct left grew far = record {
  work = record { left = left; grew = grew_from shared.sys.now start.seat part.seat (start_grid shared.sys.now start.seen) grid part.grid part.won [] same grew };
  far = λ tiles distinct_tiles is. elim far [
    | inl closed ↦ inl closed
    | inr long ↦ let few = count_in_part tiles grid.tiles distinct_tiles distinct (λ p c. same.part p (is.part p c)) in inr (omega (arith, few, long))
  ];
}

-- what a grid with more in it comes to is as far as the grid: where the box was closed nothing came
pub far_joined : (sys : TileSystem) (n : ℕ) (grid more both : TileGrid) (one other all : List Place) → IsValid sys → HasDistinctSites grid.tiles → HasDistinctSites both.tiles → IsPartOf sys.seeds one → SamePlacements one grid.tiles → SamePlacements other more.tiles →
    SamePlacements (one ++ other) all → IsPartOfGrowth sys all → SamePlacements (grid.tiles ++ more.tiles) both.tiles → IsFar sys n grid → IsFar sys n both
far_joined sys n grid more both one other all valid distinct distinct_both seeded first second joined growth merged far = elim far [
  | inl closed ↦
      let whole = nothing_comes sys grid.tiles more.tiles one other all valid distinct seeded first second joined closed growth in
      let same : SamePlacements both.tiles grid.tiles = SamePlacements-trans both.tiles (grid.tiles ++ more.tiles) grid.tiles (same_back (grid.tiles ++ more.tiles) both.tiles merged) whole in
      inl (closed_same sys both.tiles grid.tiles distinct_both distinct same closed)
  | inr long ↦
      let few = count_in_part grid.tiles both.tiles distinct distinct_both (λ p c. merged.part p (Contains-append_left grid.tiles more.tiles p c)) in
      inr (omega (arith, few, long))
]

-- each worker's part, by its start
far_part : {G : Type 0} (shared : Shared G) (tiles : List Place) (start : Start) (r : Result Part NoMemory) → HasDistinctSites tiles → SamePlacements tiles (start_grid shared.sys.now start.seen).tiles → IfOk r (IsRoundOf shared start) →
    IfOk r (λ part. IsFar shared.sys.now (length tiles + 4096) part.grid)
far_part shared tiles start (Ok part) distinct same round = round.far tiles distinct same
far_part shared tiles start (Err e) distinct same round = tt

work_part : {G : Type 0} (shared : Shared G) (start : Start) (r : Result Part NoMemory) → IfOk r (IsRoundOf shared start) → IfOk r (IsWorkOf shared start)
work_part shared start (Ok part) round = round.work
work_part shared start (Err e) round = tt

-- what all leave in a round is work
pub round_works : {G : Type 0} (shared : Shared G) (starts : List Start) (done : List (Result Part NoMemory)) → AreRoundsOf shared starts done → AreWorksOf shared starts done
round_works shared starts done rounds = record {
  count = rounds.count;
  each = λ i start part within. work_part shared (get_or starts i start) (get_or done i part) (rounds.each i start part within);
}

-- and each came as far
pub round_far : {G : Type 0} (shared : Shared G) (tiles : List Place) (starts : List Start) (done : List (Result Part NoMemory)) (some : Start) → HasDistinctSites tiles → All (λ start. SamePlacements tiles (start_grid shared.sys.now start.seen).tiles) starts →
    AreRoundsOf shared starts done → All (λ (d : Result Part NoMemory). IfOk d (λ part. IsFar shared.sys.now (length tiles + 4096) part.grid)) done
round_far shared tiles starts done some distinct same rounds i part within =
    let count = rounds.count in
    let in_starts : i < length starts = omega (arith, within, count) in
    far_part shared tiles (get_or starts i some) (get_or done i part) distinct (same i some in_starts) (rounds.each i some part in_starts)

-- a seat that went on is of its table, and has seen what its grid has
pub seen_went : {G : Type 0} (shared : Shared G) (old new : SeatValue) (start grid : TileGrid) (wins : List ℕ) → IsSeatOf shared.table.now old → WentOn shared.sys.now old start new grid wins → HasSeen shared new grid
seen_went shared old new start grid wins is went = record {
  at_table = record { table = went.seat.table ∙ is.table; sys = went.seat.sys ∙ is.sys };
  area = went.area;
  seen = went.seen;
}
