use Rattle.std.proofs.Common.{◌≡◌, take}
use Rattle.local_check.specs.Inner.StoodSites.{TellsSites}
use Rattle.local_check.proofs.stood_sites.StoodSites.make.Given as goal

-- the sites of the places so far are told
abbrev pub invariant-loop-place : goal.invariant-loop-place
invariant-loop-place l = record {
  area : l.sites_stood.area ≡ l.area;
  tells : TellsSites l.sites_stood (take l.place-index l.places);
}
