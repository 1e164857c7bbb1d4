-- The text of a growth: what each kept line is, and which checks it has to pass. It follows a system text, and names the types of that system.
use Rattle.std.specs.Prelude.{◌≡◌, ℕ, ◌==◌, Bool, true, false, not, ◌||◌, nat_le, List, [], ◌∷◌, map, filter_map, codes, is_none, Option, Some, None, Result, Ok}
use Rattle.tile_io.specs.declared.fault.Cause.{Cause}
use Rattle.tile_io.specs.declared.fault.Cause.TheVariants.{OutsideBox, DoubleSite}
use Rattle.tile_io.specs.declared.mark.Mark.{Mark}
use Rattle.tile_io.specs.Formats.{Format, Reads}
use Rattle.tile_io.specs.Checks.{◌>>=◌, require, field, behind, Keyword, Table, table_of_lines, table_format, row}
use Rattle.atam.specs.declared.place.Place.{Place}
use Rattle.atam.specs.Placements.{tile_at, SamePlacements}
use Rattle.atam.specs.TileSystem.{TileSystem}
use Rattle.assembly.specs.Grids.{TileGrid}
use Rattle.tile_text.specs.Fields.{place_field}
use Rattle.tile_text.specs.SystemText.{is_in_box}

-- what a kept line of a growth text is: its keyword, and its place where it has one
abbrev pub GrowthItem : Type 0
GrowthItem = List ℕ × Option Place

-- the names of the types of a system
abbrev pub names_of : TileSystem → List (List ℕ)
names_of sys = map (λ t. t.name) sys.types

-- The fields of a `place` line, and the checks of the whole line. Where sites have to differ, none
-- stands yet at its site.
unfoldable pub place_in : Bool → TileSystem → List Place → List (List ℕ) → Result Place Cause
place_in distinct sys earlier words = do
  p ← place_field (names_of sys) (field words 1) (field words 2) (field words 3)
  _ ← require (is_in_box sys.area p.site) OutsideBox
  _ ← require (not distinct || is_none (tile_at earlier p.site)) DoubleSite
  Ok p

-- whether a line comes first, or stands right behind one of these keywords
abbrev pub first_or_behind : List (List ℕ) → Option GrowthItem → Bool
first_or_behind keywords before = is_none before || behind (λ item. item.0) keywords before

-- The table of keywords. A row has the word, how many words its line has, behind which lines it may
-- stand, the limit of its kind, and its fields with the checks of the whole line.
abbrev pub growth_rows : Bool → TileSystem → List (Keyword (List GrowthItem) GrowthItem)
growth_rows distinct sys =
    row (codes "place") (λ n. n == 4) (first_or_behind (codes "place" ∷ []))
    (λ earlier words. true) (λ earlier words. do
      p ← place_in distinct sys (filter_map (λ item. item.1) earlier) words
      Ok (codes "place", Some p))
    ∷ row (codes "closed") (nat_le 2) (first_or_behind (codes "place" ∷ []))
    (λ earlier words. true) (λ earlier words. Ok (codes "closed", None))
    ∷ row (codes "unique") (nat_le 2) (first_or_behind (codes "place" ∷ codes "closed" ∷ []))
    (λ earlier words. true) (λ earlier words. Ok (codes "unique", None))
    ∷ []

-- there is no header and no end line, and the input may end after any line
unfoldable pub growth_table : Bool → TileSystem → Table GrowthItem
growth_table distinct sys = table_of_lines (growth_rows distinct sys)

-- as a sequence, whose sites may repeat
abbrev pub sequence_format : TileSystem → Format GrowthItem
sequence_format sys = table_format (growth_table false sys)

-- as a grid, whose sites differ
abbrev pub grid_format : TileSystem → Format GrowthItem
grid_format sys = table_format (growth_table true sys)

-- the text from a mark on, up to its end, reads as lines with these places, whose sites may repeat
-- unless they have to be distinct
pub record ReadsPlaces (distinct : Bool) (sys : TileSystem) (text : List ℕ) (from : Mark)
    (places : List Place) : Type 0 where
  pub items : List GrowthItem
  pub to : Mark
  pub reads : Reads (table_format (growth_table distinct sys)) text from items to
  pub places_are : places ≡ filter_map (λ item. item.1) items

-- the grid has the system's box and exactly the placements that the text reads as
pub record ReadsGrid (sys : TileSystem) (text : List ℕ) (from : Mark) (grid : TileGrid) : Type 0 where
  pub area : grid.area ≡ sys.area
  pub places : List Place
  pub reads : ReadsPlaces true sys text from places
  pub same : SamePlacements places grid.tiles
