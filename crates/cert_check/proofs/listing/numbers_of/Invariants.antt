use Rattle.std.proofs.Common.{◌≡◌, ◌<◌, ◌≤◌, ℕ, length, take, get_or}
use Rattle.assembly.specs.Cells.{cell_count, site_at}
use Rattle.cert_check.specs.Certificates.{entry_at}
use Rattle.cert_check.specs.Inner.Listings.{entry_numbered}
use Rattle.cert_check.proofs.listing.numbers_of.Given as goal

-- the entries so far are numbered
abbrev pub invariant-loop-index : goal.invariant-loop-index
invariant-loop-index l = record {
  count : length l.numbers.items ≡ cell_count l.area;
  within : (k : ℕ) → k < cell_count l.area → get_or l.numbers.items k 0 ≤ l.index;
  each : (k : ℕ) → k < cell_count l.area → entry_numbered l.cert (get_or l.numbers.items k 0) ≡ entry_at (take l.index l.cert) (site_at l.area k);
}
