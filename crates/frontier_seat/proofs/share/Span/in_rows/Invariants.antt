use Rattle.std.proofs.Common.{◌-◌}
use Rattle.frontier_seat.proofs.share.Span.in_rows.Given as goal

-- the rows that are left
abbrev pub decreases-loop-row : goal.decreases-loop-row
decreases-loop-row l = l.to - l.row
