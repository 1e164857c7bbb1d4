use Rattle.std.proofs.Common.{◌≡◌, ◌≤◌, max, take}
use Rattle.local_check.specs.Inner.StoodSites.{TellsSites}
use Rattle.local_check.proofs.stood_sites.StoodSites.insert_range.Given as goal

-- the sites of the places so far are told, if those of the places before were
abbrev pub invariant-loop-index : goal.invariant-loop-index
invariant-loop-index l = record {
  within : l.index ≤ max l.start l.end;
  area : l.self.area ≡ l.fn.self.area;
  tells : TellsSites l.fn.self (take l.start l.seq) → TellsSites l.self (take l.index l.seq);
}
