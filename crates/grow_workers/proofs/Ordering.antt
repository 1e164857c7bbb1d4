-- Growth by one worker alone.
use Rattle.std.proofs.Common.{◌≡◌, ◌-◌, ◌^◌, ◌++◌, ℕ, List, [], ◌∷◌, arith}
use Rattle.atam.specs.declared.place.Place.{Place}
use Rattle.atam.specs.TileSystem.{TileSystem}
use Rattle.atam.specs.Placements.{SamePlacements}
use Rattle.atam.specs.Canonical.{IsCanonical}
use Rattle.atam.specs.Growth.{IsClosedInBox}
use Rattle.atam.proofs.Canon.{canonical_too}
use Rattle.atam.proofs.Tiles.{same_back}
use Rattle.assembly.specs.Grids.{TileGrid}
use Rattle.type_cache.specs.Clean.{CameExact, GrewExact}
use Rattle.site_table.specs.Seats.{SeatValue}
use Rattle.frontier_seat.specs.Orders.{AreCanonicalClaims}
use Rattle.grow_workers.specs.Inner.Wins.{PartedGrowth}
use Rattle.grow_workers.specs.Workers.{GrewOn}
use Rattle.grow_workers.proofs.Numbering.{workers_win}

-- one worker alone, once the box is closed
pub grew_alone : (sys : TileSystem) (start : TileGrid) (old new : SeatValue) (grid : TileGrid) (won : ℕ) → old.scout.owned ≡ 2 ^ 64 - 1 → IsClosedInBox sys grid.tiles →
    PartedGrowth sys old start new grid won [] → GrewOn sys old start new grid (won ∷ [])
grew_alone sys start old new grid won all closed parted = record {
  seat = parted.seat;
  area = parted.area;
  seen = parted.seen;
  kept = parted.kept;
  closed = closed;
  workers_win = workers_win old.scout.mine new.scout.mine old.scout.owned won [] (omega (arith, all)) (omega (arith, all)) parted.first_wins parted.others_win;
}

-- the order of the claims is that of what is left
pub claims_left : (sys : TileSystem) (tiles left : List Place) (numbers : List ℕ) → SamePlacements tiles left → AreCanonicalClaims sys tiles numbers → AreCanonicalClaims sys left numbers
claims_left sys tiles left numbers same order = record {
  claims = order.claims;
  sites = order.sites;
  within = order.within;
  few = order.few;
  fits = order.fits;
  stand = λ p c. same.part p (order.stand p c);
  canonical = canonical_too sys tiles left same (sys.seeds ++ order.claims) order.canonical;
}

-- where what grew came clean, so did the canonical sequence of what is left
pub exact_left : (sys : TileSystem) (tiles left order : List Place) → SamePlacements tiles left → GrewExact sys tiles → IsCanonical sys left order → CameExact sys order
exact_left sys tiles left order same grew canonical = grew order (canonical_too sys left tiles (same_back tiles left same) order canonical)
