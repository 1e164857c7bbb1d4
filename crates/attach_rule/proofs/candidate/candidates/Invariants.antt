use Rattle.std.proofs.Common.{◌≡◌}
use Rattle.attach_rule.proofs.Listed.{AreCandidatesBelow}
use Rattle.attach_rule.proofs.candidate.candidates.Given as goal

-- all candidates so far, with the room as it was
abbrev pub invariant-loop-index : goal.invariant-loop-index
invariant-loop-index g l = record {
  listed : AreCandidatesBelow l.sys (g.P.Placed.placements l.placed) l.fn.site l.index l.into.types;
  room : l.into.room ≡ l.fn.into.room;
}
