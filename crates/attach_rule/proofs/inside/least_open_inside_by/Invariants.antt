use Rattle.std.proofs.Common.{None}
use Rattle.atam.specs.Sites.{InBox}
use Rattle.atam.specs.Growth.{IsLeastOpenAmong}
use Rattle.attach_rule.proofs.Searched.{first_rows}
use Rattle.attach_rule.proofs.inside.least_open_inside_by.Given as goal

-- nothing is open in the rows so far
abbrev pub invariant-loop-row : goal.invariant-loop-row
invariant-loop-row g l = IsLeastOpenAmong l.sys (g.P.Placed.placements l.placed) (InBox (first_rows l.area l.row)) None
