-- What contracts see of the machine of the core.
use Rattle.std.specs.Prelude.{ℕ, List, Option, find, option_map}
use Rattle.atam.specs.declared.site.Site.{Site}
use Rattle.atam.specs.declared.area.BoxArea.{BoxArea}
use Rattle.atam.specs.Sites.{same_site}
use Rattle.grow_core.specs.declared.placed_tile.PlacedTile.{PlacedTile}
use Rattle.grow_core.specs.Core.{CoreState}

-- a state of the core, and its box
pub record BoxedCore : Type 0 where
  pub area : BoxArea
  pub state : CoreState

-- the number that placed the tile at a site
abbrev pub placer_at : List PlacedTile → Site → Option ℕ
placer_at tiles m = option_map (λ t. t.placer) (find (λ t. same_site t.place.site m) tiles)
