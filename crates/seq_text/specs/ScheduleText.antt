-- The text of a schedule: which event each kept line is, and which checks it has to pass. It follows a system text, and names the types of that system.
use Rattle.std.specs.Prelude.{ℕ, ◌==◌, true, List, [], ◌∷◌, codes, Ok}
use Rattle.tile_io.specs.declared.mark.Mark.{Mark}
use Rattle.tile_io.specs.Formats.{Format, Reads}
use Rattle.tile_io.specs.Checks.{◌>>=◌, field, count_in, Keyword, Table, table_of_lines, table_format, row}
use Rattle.atam.specs.TileSystem.{TileSystem}
use Rattle.tile_text.specs.Fields.{site_field, place_field}
use Rattle.atam.specs.declared.event.Event.{Event}
use Rattle.atam.specs.declared.event.Event.TheVariants.{Look, Claim, Split, Join}
use Rattle.seq_text.specs.GrowthText.{names_of}

-- The table of keywords: the word, how many words its line has, and its fields from left to right.
-- The lines stand in any order, and neither a scout that isn't there nor a site outside the box is
-- a fault of the text.
abbrev pub schedule_rows : TileSystem → List (Keyword (List Event) Event)
schedule_rows sys =
    row (codes "look") (λ n. n == 4) (λ before. true) (λ earlier words. true) (λ earlier words. do
      w ← count_in 0 4294967295 (field words 1)
      m ← site_field (field words 2) (field words 3)
      Ok (Look w m))
    ∷ row (codes "claim") (λ n. n == 5) (λ before. true) (λ earlier words. true) (λ earlier words. do
      w ← count_in 0 4294967295 (field words 1)
      p ← place_field (names_of sys) (field words 2) (field words 3) (field words 4)
      Ok (Claim w p.site p.tile))
    ∷ row (codes "split") (λ n. n == 2) (λ before. true) (λ earlier words. true) (λ earlier words. do
      w ← count_in 0 4294967295 (field words 1)
      Ok (Split w))
    ∷ row (codes "join") (λ n. n == 3) (λ before. true) (λ earlier words. true) (λ earlier words. do
      w ← count_in 0 4294967295 (field words 1)
      v ← count_in 0 4294967295 (field words 2)
      Ok (Join w v))
    ∷ []

-- there is no header and no end line, and the input may end after any line
unfoldable pub schedule_table : TileSystem → Table Event
schedule_table sys = table_of_lines (schedule_rows sys)

abbrev pub schedule_format : TileSystem → Format Event
schedule_format sys = table_format (schedule_table sys)

-- the text from a mark on, up to its end, reads as exactly these events
pub record ReadsEvents (sys : TileSystem) (text : List ℕ) (from : Mark) (events : List Event) : Type 0 where
  pub to : Mark
  pub reads : Reads (schedule_format sys) text from events to
