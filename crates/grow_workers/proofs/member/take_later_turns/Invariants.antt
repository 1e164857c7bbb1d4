use Rattle.site_table.specs.Seats.{IsSeatOf}
use Rattle.frontier_seat.specs.Growths.{GrowsOn}
use Rattle.grow_workers.proofs.member.take_later_turns.Given as goal

-- the seat stays the table's
abbrev pub invariant-loop-turn : goal.invariant-loop-turn
invariant-loop-turn g l = record {
  goes : GrowsOn l.fn.scout l.scout;
  seat : IsSeatOf l.shared.table.now l.scout.seat;
}
