-- The words of the grid: one for each site of the box, by rows.
use Rattle.std.specs.Prelude.{◌≡◌, ℕ, ◌+◌, ◌-◌, ◌*◌, ◌/◌, ◌%◌, ◌<◌, ◌==◌, ◌&&◌, not, Bool, List, map, length, slice_index, count_by, Option, find}
use Rattle.std.specs.Option.{option_map_or}
use Rattle.atam.specs.declared.site.Site.{Site}
use Rattle.atam.specs.declared.place.TypeId.{TypeId}
use Rattle.atam.specs.declared.place.Place.{Place}
use Rattle.atam.specs.declared.area.BoxArea.{BoxArea}
use Rattle.atam.specs.Sites.{same_site}
use Rattle.assembly.specs.Cells.{cell_count, site_at}
use Rattle.assembly.specs.Grids.{places_of}
use Rattle.grow_core.specs.declared.placed_tile.PlacedTile.{PlacedTile}
use Rattle.grow_core.specs.Core.{placed_by}

-- the low 32 bits are the type's index and 1, the high ones the placer
abbrev pub code : TypeId → ℕ → ℕ
code t n = t.0 + 1 + n * 4294967296

abbrev pub word_of : PlacedTile → ℕ
word_of t = code t.place.tile t.placer

-- the type in a word that is not 0
abbrev pub type_in : ℕ → TypeId
type_in word = record { 0 = word % 4294967296 - 1 }

abbrev pub tile_on : List PlacedTile → Site → Option PlacedTile
tile_on tiles m = find (λ t. same_site t.place.site m) tiles

-- the word of a site: 0 where it is empty
abbrev pub word_at : List PlacedTile → Site → ℕ
word_at tiles m = option_map_or word_of (tile_on tiles m) 0

-- the word is of a tile that this number placed
abbrev pub is_by : ℕ → ℕ → Bool
is_by n word = not (word == 0) && (word / 4294967296 == n)

-- the words are those of the tiles, and there are as many of each number
pub record Spells (area : BoxArea) (words : List ℕ) (tiles : List PlacedTile) : Type 0 where
  pub count : length words ≡ cell_count area
  pub each : (i : ℕ) → i < length words → slice_index words i ≡ word_at tiles (site_at area i)
  pub counted : (n : ℕ) → count_by (is_by n) words ≡ length (placed_by n tiles)

-- the types of words, as a grid keeps them: 0 for none, and else one more than the index
abbrev pub kinds : List ℕ → List ℕ
kinds words = map (λ word. word % 4294967296) words

-- the places of the words
abbrev pub spelled : BoxArea → List ℕ → List Place
spelled area words = places_of (site_at area) 0 (kinds words)
