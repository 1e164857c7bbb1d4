use Rattle.std.proofs.Common.{None}
use Rattle.atam.specs.Sites.{InBox}
use Rattle.atam.specs.Growth.{IsLeastOpenAmong}
use Rattle.attach_rule.specs.Inner.Searches.{row_at}
use Rattle.attach_rule.proofs.Searched.{first_columns}
use Rattle.attach_rule.proofs.outside.least_beside.Given as goal

-- nothing is open in the columns so far
abbrev pub invariant-loop-column : goal.invariant-loop-column
invariant-loop-column g l = IsLeastOpenAmong l.sys (g.P.Placed.placements l.placed) (InBox (first_columns (row_at l.area l.y) l.column)) None
