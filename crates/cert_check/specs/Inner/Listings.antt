-- The entries of a certificate by the sites of a box.
use Rattle.std.specs.Prelude.{◌≡◌, ℕ, zero, suc, ◌<◌, ◌≤◌, List, length, Option, None, slice_get, slice_index, All}
use Rattle.atam.specs.declared.area.BoxArea.{BoxArea}
use Rattle.atam.specs.declared.site.Side.TheVariants.{North, East, South, West}
use Rattle.atam.specs.declared.site.Site.{Site}
use Rattle.atam.specs.Sites.{InBox, IsBox, neighbor}
use Rattle.atam.specs.Placements.{HasDistinctSites}
use Rattle.assembly.specs.Cells.{cell_count, site_at}
use Rattle.cert_check.specs.declared.entry.Entry.{Entry}
use Rattle.cert_check.specs.declared.listing.EntriesBeside.{EntriesBeside}
use Rattle.cert_check.specs.Certificates.{places_of, entry_at}

-- entries and a box that has their sites
pub record EntryTable : Type 0 where
  pub area : BoxArea
  pub entries : List Entry

-- the entry with this number, counted from one; none has the number 0
abbrev pub entry_numbered : List Entry → ℕ → Option Entry
entry_numbered c zero = None
entry_numbered c (suc k) = slice_get c k

-- for each site of the box the number of the entry there
pub record AreNumbersOf (area : BoxArea) (c : List Entry) (numbers : List ℕ) : Type 0 where
  pub count : length numbers ≡ cell_count area
  pub within : (k : ℕ) → k < cell_count area → slice_index numbers k ≤ length c
  pub each : (k : ℕ) → k < cell_count area → entry_numbered c (slice_index numbers k) ≡ entry_at c (site_at area k)

-- entries with distinct sites in the box, and their numbers
pub record IsListing (area : BoxArea) (c : List Entry) (numbers : List ℕ) : Type 0 where
  pub limits : IsBox area
  pub distinct : HasDistinctSites (places_of c)
  pub inside : All (λ p. InBox area p.site) (places_of c)
  pub numbered : AreNumbersOf area c numbers

-- each is the entry in that direction, if there is one
pub record AreBeside (c : List Entry) (m : Site) (beside : EntriesBeside) : Type 0 where
  pub north : beside.north ≡ entry_at c (neighbor m North)
  pub east : beside.east ≡ entry_at c (neighbor m East)
  pub south : beside.south ≡ entry_at c (neighbor m South)
  pub west : beside.west ≡ entry_at c (neighbor m West)
