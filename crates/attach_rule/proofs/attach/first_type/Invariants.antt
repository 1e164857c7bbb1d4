use Rattle.std.proofs.Common.{◌<◌}
use Rattle.atam.specs.declared.place.TypeId.{TypeId}
use Rattle.atam.specs.Growth.{IsCandidate}
use Rattle.attach_rule.proofs.attach.first_type.Given as goal

-- no type so far attaches
abbrev pub invariant-loop-index : goal.invariant-loop-index
invariant-loop-index g l = (t : TypeId) → t.0 < l.index → ¬ IsCandidate l.sys (g.P.Placed.placements l.placed) l.fn.site t
