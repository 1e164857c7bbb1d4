-- What a seat has seen, and lists with the same placements.
use Rattle.std.proofs.Common.{◌≤◌, List}
use Rattle.std.proofs.Math.Nat.{le_trans}
use Rattle.std.proofs.lemmas.List.Elements.{All-map}
use Rattle.atam.specs.declared.site.Site.{Site}
use Rattle.atam.specs.declared.place.TypeId.{TypeId}
use Rattle.atam.specs.declared.place.Place.{Place}
use Rattle.atam.specs.Sites.{InBox}
use Rattle.atam.specs.TileSystem.{TileSystem}
use Rattle.atam.specs.Placements.{SamePlacements}
use Rattle.atam.specs.Assembly.{Fits, pull}
use Rattle.atam.proofs.Bonds.{pull-mono}
use Rattle.atam.proofs.Placements.{Extends-IsPartOf}
use Rattle.atam.proofs.Opening.{Fits-part}
use Rattle.grow_core.specs.declared.placed_tile.PlacedTile.{PlacedTile}
use Rattle.grow_core.specs.Core.{ScoutState, places}
use Rattle.grow_core.specs.Steps.{Supports}
use Rattle.site_table.specs.Rule.{IsPossible}

-- it fits the system
pub seen_fits : (sys : TileSystem) (v : ScoutState) → IsPossible sys v → Fits sys v.seen
seen_fits sys v possible = Fits-part sys v.seen (places possible.tiles) possible.scout.part
    (record {
      types = possible.history.legal.types;
      sites = All-map (λ (q : Place). InBox sys.area q.site) (λ (t : PlacedTile). t.place) possible.tiles possible.history.inside;
    })

-- and so does a list of the same places, which supports what the seat does
pub same_fits : (sys : TileSystem) (v : ScoutState) (tiles : List Place) → IsPossible sys v → SamePlacements v.seen tiles → Fits sys tiles
same_fits sys v tiles possible same = Fits-part sys tiles v.seen same.whole (seen_fits sys v possible)

pub same_supports : (sys : TileSystem) (v : ScoutState) (tiles : List Place) (m : Site) (t : TypeId) → IsPossible sys v → SamePlacements v.seen tiles → sys.tau ≤ pull sys tiles m t → Supports sys v m t
same_supports sys v tiles m t possible same held = le_trans held (pull-mono sys tiles v.seen m t (Extends-IsPartOf tiles v.seen possible.scout.distinct same.whole))
