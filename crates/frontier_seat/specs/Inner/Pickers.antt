-- What a scout looks types up by.
use Rattle.std.specs.Prelude.{ℕ, ◌<◌, List, length}
use Rattle.atam.specs.declared.site.Site.{Site}
use Rattle.atam.specs.declared.place.TypeId.{TypeId}
use Rattle.atam.specs.declared.place.Place.{Place}
use Rattle.atam.specs.TileSystem.{TileSystem}
use Rattle.attach_rule.specs.Candidates.{AreCandidates}
use Rattle.type_index.specs.Indexes.{IsIndexOf}
use Rattle.type_cache.specs.Findings.{AreFindings, IsHeldList}
use Rattle.frontier_seat.specs.declared.picking.Picker.{Picker}

-- the index is of the system, what is cached was found in it, and so was what is listed
pub record IsPickerOf (sys : TileSystem) (picker : Picker) : Type 0 where
  pub types : IsIndexOf sys picker.types
  pub known : AreFindings sys picker.cache
  pub list : IsHeldList sys picker.list

-- more types than so many attach at the site
pub record HasMoreThan (sys : TileSystem) (tiles : List Place) (m : Site) (n : ℕ) : Type 0 where
  pub types : List TypeId
  pub are : AreCandidates sys tiles m types
  pub more : n < length types
