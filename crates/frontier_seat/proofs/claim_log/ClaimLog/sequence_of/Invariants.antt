use Rattle.std.proofs.Common.{◌≡◌, ◌≤◌, ◌+◌, ◌++◌, List, length, map, take}
use Rattle.atam.specs.declared.place.Place.{Place}
use Rattle.atam.specs.Placements.{IsPartOf}
use Rattle.assembly.specs.Cells.{cell_count, site_at}
use Rattle.assembly.specs.Rows.{IsRow}
use Rattle.frontier_seat.proofs.claim_log.ClaimLog.sequence_of.Given as goal

-- the claims so far are listed behind the seeds
abbrev pub invariant-loop-number : goal.invariant-loop-number
invariant-loop-number l = record {
  row : IsRow l.area l.row;
  room : length l.sys.seeds + cell_count l.sys.area ≤ l.log.room;
  places : (claims : List Place) → map (λ (p : Place). p.site) claims ≡ map (site_at l.sys.area) l.self.numbers → IsPartOf claims l.grid.tiles → l.log.places ≡ l.sys.seeds ++ take l.number-index claims;
}
