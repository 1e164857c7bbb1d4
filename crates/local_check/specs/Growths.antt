-- A full growth that is to be judged.
use Rattle.std.specs.Prelude.{◌≡◌, Option}
use Rattle.atam.specs.declared.site.Site.{Site}
use Rattle.atam.specs.declared.place.TypeId.{TypeId}
use Rattle.atam.specs.Placements.{SamePlacements}
use Rattle.atam.specs.Assembly.{Fits}
use Rattle.atam.specs.Growth.{IsLegal, IsClosedInBox, IsLeastOpenOutside}
use Rattle.type_index.specs.Indexes.{IsIndexOf}
use Rattle.local_check.specs.declared.laid_out.LaidOut.{LaidOut}

-- a legal sequence that fits, with the grid of its places, which nothing extends in the box, an
-- index of the system's types, and the least open site outside the box
pub record IsLaidGrowth (laid : LaidOut) (outside : Option (Site × TypeId)) : Type 0 where
  pub legal : IsLegal laid.sys.now laid.seq.now
  pub fits : Fits laid.sys.now laid.seq.now
  pub area : laid.grid.now.area ≡ laid.sys.now.area
  pub placements : SamePlacements laid.seq.now laid.grid.now.tiles
  pub closed : IsClosedInBox laid.sys.now laid.grid.now.tiles
  pub index : IsIndexOf laid.sys.now laid.types.now
  pub least : IsLeastOpenOutside laid.sys.now laid.grid.now.tiles outside
