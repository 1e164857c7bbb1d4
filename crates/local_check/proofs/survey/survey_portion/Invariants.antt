use Rattle.std.proofs.Common.{◌≡◌, ◌≤◌, ◌+◌, true, length, take, max, vec_capacity, None}
use Rattle.local_check.specs.Inner.PlaceFindings.{ArePlaceFindings}
use Rattle.local_check.specs.Inner.PlaceSides.{earlier_sets, output_sets}
use Rattle.local_check.specs.Inner.Ranges.{FindsInexactIn, FindsRivalIn}
use Rattle.local_check.specs.Inner.Sides.{AreEarlierFrom, AreOutputsFrom}
use Rattle.local_check.specs.Inner.StoodSites.{TellsSites}
use Rattle.local_check.proofs.survey.survey_portion.Given as goal

-- The sites of the seeds and of the places so far are told. Both sets of each place of the portion so far are there, with room for those of each of
-- its places. The first of these places that isn't held exactly was found, and the first that has a rival; until then rivals are sought.
abbrev pub invariant-loop-index : goal.invariant-loop-index
invariant-loop-index l = record {
  from : l.fn.places.start ≤ l.index;
  within : l.index ≤ l.fn.places.end;
  area : l.stood.area ≡ l.sys.area;
  stood : TellsSites l.stood (take (max (length l.sys.seeds) l.index) l.seq);
  count : l.fn.places.start + length l.sides.items ≡ l.index;
  room : l.fn.places.end ≤ l.fn.places.start + vec_capacity l.sides;
  earlier : AreEarlierFrom l.sys l.seq l.fn.places.start (earlier_sets l.sides.items);
  outputs : AreOutputsFrom l.sys l.seq l.fn.places.start (output_sets l.sides.items);
  known : ArePlaceFindings l.sys l.findings;
  seeks : l.breaches.rival ≡ None → l.findings.seeks ≡ true;
  inexact : FindsInexactIn l.sys l.seq l.fn.places.start l.index l.breaches.inexact;
  rival : FindsRivalIn l.sys l.seq l.fn.places.start l.index l.breaches.rival;
}
