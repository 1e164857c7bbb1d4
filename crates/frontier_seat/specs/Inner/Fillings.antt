-- Growth on a grid alone, at the least open site.
use Rattle.std.specs.Prelude.{◌≡◌, ℕ, ◌+◌, ◌<◌, ◌⊎◌, Bool, true, None, List, [], ◌∷◌, ◌++◌, All, map, Contains}
use Rattle.atam.specs.declared.site.Side.{Side}
use Rattle.atam.specs.declared.site.Site.{Site}
use Rattle.atam.specs.declared.place.TypeId.{TypeId}
use Rattle.atam.specs.declared.place.Place.{Place}
use Rattle.atam.specs.declared.area.BoxArea.{BoxArea}
use Rattle.atam.specs.Sites.{neighbor}
use Rattle.atam.specs.TileSystem.{TileSystem}
use Rattle.atam.specs.Placements.{SamePlacements, HasDistinctSites, tile_at}
use Rattle.atam.specs.Assembly.{Fits}
use Rattle.atam.specs.Growth.{IsCandidate, IsLegal}
use Rattle.atam.specs.LeastFirst.{FillsLeast}
use Rattle.assembly.specs.Cells.{cell_count, site_at}
use Rattle.assembly.specs.Grids.{TileGrid}
use Rattle.grow_core.specs.Steps.{place}
use Rattle.number_set.specs.Numbers.{Numbers, IsIn}
use Rattle.type_cache.specs.Clean.{CameExact}
use Rattle.frontier_seat.specs.declared.in_order.Filler.{Filler}
use Rattle.frontier_seat.specs.Orders.{LoggedClaims}
use Rattle.frontier_seat.specs.Inner.Logs.{LoggedTiles}
use Rattle.frontier_seat.specs.Inner.Pickers.{IsPickerOf}
use Rattle.frontier_seat.specs.Inner.Looks.{KeepsClean}

-- the grid is over the box, and its tiles are the system's
pub record IsFilling (sys : TileSystem) (grid : TileGrid) : Type 0 where
  pub area : grid.area ≡ sys.area
  pub distinct : HasDistinctSites grid.tiles
  pub fits : Fits sys grid.tiles

-- and what types are picked by and the sites that are to be looked at are the system's too
pub record CanFill (sys : TileSystem) (filler : Filler) : Type 0 where
  pub filling : IsFilling sys filler.grid
  pub picker : IsPickerOf sys filler.picker
  pub area : filler.work.area ≡ sys.area

-- the empty sites of the box beside these places are listed
abbrev pub ListsBeside : BoxArea → List Place → Numbers → List Place → Type 0
ListsBeside area tiles numbers places = (p : Place) (n : ℕ) (d : Side) → Contains places p → n < cell_count area → site_at area n ≡ neighbor p.site d → tile_at tiles (site_at area n) ≡ None → IsIn numbers n

-- a tile more, of a type that attached at its site, and it is listed behind the others
pub record Fills (sys : TileSystem) (site : Site) (before after old new : List Place) : Type 0 where
  pub tile : TypeId
  pub grows : IsCandidate sys before site tile
  pub placements : SamePlacements (before ++ place site tile ∷ []) after
  pub logged : new ≡ old ++ place site tile ∷ []

-- and it is logged
pub record FillsSeen (sys : TileSystem) (site : Site) (before after : List Place) (old new : LoggedTiles) : Type 0 where
  pub fills : Fills sys site before after old.places new.places
  pub clean : KeepsClean sys before site old.clean new.clean

-- or nothing
abbrev pub MayFill : TileSystem → Site → List Place → List Place → LoggedTiles → LoggedTiles → Type 0
MayFill sys site before after old new = FillsSeen sys site before after old new ⊎ ((after ≡ before) × (new ≡ old))

-- The tiles are those of a sequence that is legal and fills the least open site of the box at each step.
pub record GrewInOrder (sys : TileSystem) (tiles order : List Place) : Type 0 where
  pub legal : IsLegal sys order
  pub least : FillsLeast sys order
  pub same : SamePlacements order tiles

-- If it is said so, each of them came clean, held by exactly the temperature.
pub record GrewSeen (sys : TileSystem) (tiles order : List Place) (clean : Bool) : Type 0 where
  pub grew : GrewInOrder sys tiles order
  pub exact : clean ≡ true → CameExact sys order

-- The same where the tiles behind the seeds are the logged claims.
pub record GrewByLog (sys : TileSystem) (tiles : List Place) (log : LoggedClaims) : Type 0 where
  pub claims : List Place
  pub sites : map (λ p. p.site) claims ≡ map (site_at sys.area) log.numbers
  pub within : All (λ n. n < cell_count sys.area) log.numbers
  pub seen : GrewSeen sys tiles (sys.seeds ++ claims) log.clean
