use Rattle.std.proofs.Common.{None}
use Rattle.atam.specs.Growth.{IsLeastOpenAmong}
use Rattle.attach_rule.specs.Inner.Searches.{IsAtEnds}
use Rattle.attach_rule.proofs.Searched.{first_rows}
use Rattle.attach_rule.proofs.outside.least_at_ends.Given as goal

-- nothing is open at the ends of the rows so far
abbrev pub invariant-loop-row : goal.invariant-loop-row
invariant-loop-row g l = IsLeastOpenAmong l.sys (g.P.Placed.placements l.placed) (IsAtEnds (first_rows l.area l.row)) None
