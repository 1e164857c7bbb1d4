use Rattle.std.proofs.Common.{◌≡◌, ◌<◌, ℕ, Some, slice_get, Contains}
use Rattle.atam.specs.declared.place.Place.{Place}
use Rattle.cert_check.specs.Certificates.{places_of}
use Rattle.cert_check.proofs.verifying.first_unlisted.Given as goal

-- the seeds so far are entries' places
abbrev pub invariant-loop-seed : goal.invariant-loop-seed
invariant-loop-seed l = (k : ℕ) (p : Place) → k < l.seed-index → slice_get l.sys.seeds k ≡ Some p → Contains (places_of l.listing.entries) p
