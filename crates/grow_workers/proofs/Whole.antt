-- A closed grid is all that stands, and what its log says of it.
use Rattle.std.proofs.Common.{◌≡◌, ◌≤◌, ◌++◌, ℕ, true, List, length, Option, Some, None, Contains, inl, inr, IfSome, refl, subst, sym}
use Rattle.std.specs.Option.{is_some}
use Rattle.std.proofs.lemmas.Bool.{false≢true}
use Rattle.std.proofs.lemmas.List.Elements.{All-contains, Contains-append_cases, Contains-append_left, Contains-append_right}
use Rattle.atam.specs.declared.place.Place.{Place}
use Rattle.atam.specs.TileSystem.{TileSystem, IsValid, IsType}
use Rattle.atam.specs.Sites.{InBox}
use Rattle.atam.specs.Placements.{SamePlacements, IsPartOf, HasDistinctSites}
use Rattle.atam.specs.Growth.{IsClosedInBox}
use Rattle.atam.proofs.Closure.{closure_of_part}
use Rattle.atam.proofs.Sequences.{IsLegal-distinct}
use Rattle.assembly.specs.Grids.{TileGrid}
use Rattle.site_table.specs.Seats.{GrownValue, IsPartOfGrowth, SeatValue}
use Rattle.frontier_seat.specs.Orders.{LoggedClaims}
use Rattle.grow_workers.specs.declared.prepared.Prepared.{Prepared}
use Rattle.grow_workers.specs.Workers.{GrewOn, IsGrownBy}
use Rattle.grow_workers.specs.Inner.Prepared.{GrewWhole, IsPrepared}
use Rattle.grow_workers.specs.Inner.Sharing.{IsLogOf, IsOrderLog}
use Rattle.grow_workers.proofs.Ordering.{claims_left, exact_left}

-- of a growth of which a closed grid with the seeds is a part, all is in the grid
pub held_by_closed : (sys : TileSystem) (grid all : List Place) → IsValid sys → HasDistinctSites grid → IsPartOf sys.seeds grid → IsPartOf grid all → IsClosedInBox sys grid → IsPartOfGrowth sys all → IsPartOf all grid
held_by_closed sys grid all valid distinct seeded part closed growth =
    let s = growth.producible.sequence in
    let legal = growth.producible.legal in
    let same = growth.producible.same in
    let distinct_s = IsLegal-distinct sys s valid.distinct_seeds legal in
    let in_box : (p : Place) → Contains s p → InBox sys.area p.site = λ p c. All-contains (λ (q : Place). InBox sys.area q.site) growth.tiles p growth.inside (same.part p c) in
    let is_s = closure_of_part sys s grid valid.distinct_seeds distinct_s distinct (record { sequence = s; legal = legal; same = record { part = λ p c. c; whole = λ p c. c } })
    (λ p c. same.whole p (growth.part p (part p c))) seeded
    (λ p c attaches. closed p.site p.tile (in_box p c) (record { kind = All-contains (λ (q : Place). IsType sys q.tile) s p legal.types c; attaches = attaches })) in
    λ p c. is_s.whole p (same.whole p (growth.part p c))

-- so what another has seen of it is there already
pub nothing_comes : (sys : TileSystem) (grid more one other all : List Place) → IsValid sys → HasDistinctSites grid → IsPartOf sys.seeds one → SamePlacements one grid → SamePlacements other more → SamePlacements (one ++ other) all →
    IsClosedInBox sys grid → IsPartOfGrowth sys all → SamePlacements (grid ++ more) grid
nothing_comes sys grid more one other all valid distinct seeded first second joined closed growth =
    let held = held_by_closed sys grid all valid distinct (λ p c. first.part p (seeded p c)) (λ p c. joined.part p (Contains-append_left one other p (first.whole p c))) closed growth in
    record {
      part = λ p c. elim (Contains-append_cases grid more p c) [
        | inl here ↦ here
        | inr there ↦ held p (joined.part p (Contains-append_right one other p (second.whole p there)))
      ];
      whole = λ p c. Contains-append_left grid more p c;
    }

-- the box is closed where there is a log
pub closed_by_log : (sys : TileSystem) (grid : TileGrid) (log : Option LoggedClaims) → IfSome log (IsLogOf sys grid) → is_some log ≡ true → IsClosedInBox sys grid.tiles
closed_by_log sys grid (Some l) is said = is.closed
closed_by_log sys grid None is said = absurd (false≢true said)

-- a log of a grid that stays
pub log_stays : (sys : TileSystem) (old new : TileGrid) (log : Option LoggedClaims) → IfSome log (IsLogOf sys old) → (is_some log ≡ true → new ≡ old) → IfSome log (IsLogOf sys new)
log_stays sys old new (Some l) is same = subst (λ (g : TileGrid). IsLogOf sys g l) (sym (same refl)) is
log_stays sys old new None is same = is

-- what so many workers have made of what was prepared is a whole growth, whose table is closed to one
pub whole_of : (sys : TileSystem) (prepared : Prepared) (workers : ℕ) (seat : SeatValue) (grid : TileGrid) (wins : List ℕ) (grown : GrownValue) → IsPrepared sys prepared → GrewOn sys prepared.seat prepared.seen seat grid wins → length wins ≡ workers → workers ≤ 16 →
    ((workers : ℕ) → GrewWhole prepared.table.sys workers seat grid → IsGrownBy prepared.table.sys workers grown) → IsGrownBy sys workers grown
whole_of sys prepared workers seat grid wins grown is grew count few closes =
    subst (λ z. IsGrownBy z workers grown) is.system
    (closes workers (record {
      old = prepared.seat;
      start = prepared.seen;
      wins = wins;
      owned = is.scout.owned;
      mine = is.scout.mine;
      grew = subst (λ z. GrewOn z prepared.seat prepared.seen seat grid wins) (sym is.system) grew;
      count = count;
      few = few;
    }))

-- and so is its log
pub log_of : (sys : TileSystem) (prepared : Prepared) (grid : TileGrid) (grown : GrownValue) (log : Option LoggedClaims) → IsPrepared sys prepared → IfSome log (IsLogOf sys grid) →
    ((log : LoggedClaims) → IsLogOf prepared.table.sys grid log → IsOrderLog prepared.table.sys grown.grid.tiles log) → IfSome log (IsOrderLog sys grown.grid.tiles)
log_of sys prepared grid grown (Some l) is log closes =
    subst (λ z. IsOrderLog z grown.grid.tiles l) is.system (closes l (subst (λ z. IsLogOf z grid l) (sym is.system) log))
log_of sys prepared grid grown None is log closes = tt

-- and what it says of the order is so of what is left of the grid
pub log_left : (sys : TileSystem) (grid : TileGrid) (left : List Place) (log : Option LoggedClaims) → SamePlacements grid.tiles left → IfSome log (IsLogOf sys grid) → IfSome log (IsOrderLog sys left)
log_left sys grid left (Some l) same is = record {
  order = λ said. claims_left sys grid.tiles left l.numbers same (is.orders.order said);
  clean = λ said exact s canonical. exact_left sys grid.tiles left s same (is.orders.clean said exact) canonical;
}
log_left sys grid left None same is = tt
