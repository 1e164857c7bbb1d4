-- The text of a system: what each kept line is, which checks it has to pass, and the items of a system.
use Rattle.std.specs.Prelude.{◌≡◌, ◌≢◌, ℕ, ◌==◌, Bool, true, not, ◌&&◌, ◌⊎◌, nat_lt, is_none, if◌then◌else◌, List, [], ◌∷◌, ◌++◌, length, map, filter_map, codes, bytes_eq, Option, Some, None, Result, Ok, Err, pos, ◌+ℤ◌, int_le}
use Rattle.std.specs.List.{list_any}
use Rattle.std.specs.Option.{option_map_or}
use Rattle.tile_io.specs.declared.fault.Cause.{Cause}
use Rattle.tile_io.specs.declared.fault.Cause.TheVariants.{DoubleName, DoubleSite, NoHeader, OutOfRange, SeedOutside}
use Rattle.tile_io.specs.declared.fault.TextStop.{TextStop}
use Rattle.tile_io.specs.declared.fault.TextStop.TheVariants as stops
use Rattle.tile_io.specs.declared.mark.Mark.{Mark}
use Rattle.tile_io.specs.Formats.{Format, Fault, Reads}
use Rattle.tile_io.specs.Checks.{◌>>=◌, require, field, count_in, declared, referred, behind, last_of, Keyword, Table, table_to_end, table_format, row}
use Rattle.atam.specs.declared.site.Site.{Site}
use Rattle.atam.specs.Sites.{same_site}
use Rattle.atam.specs.declared.place.GlueId.{GlueId}
use Rattle.atam.specs.declared.place.GluePair.{GluePair}
use Rattle.atam.specs.declared.place.Place.{Place}
use Rattle.atam.specs.declared.area.BoxArea.{BoxArea}
use Rattle.atam.specs.TileSystem.{TileSystem, Glue, TileType, is_name, is_pair_of}
use Rattle.tile_text.specs.declared.version.Version.{Version}
use Rattle.tile_text.specs.declared.version.Version.TheVariants.{One, Two}
use Rattle.tile_text.specs.Fields.{box_field, place_field}

-- what a kept line of a system text is
pub data SystemItem : Type 0 where
  Header : SystemItem
  TauLine : (tau : ℕ) → SystemItem
  GlueLine : (glue : Glue) → SystemItem
  PairLine : (pair : GluePair) → SystemItem
  TileLine : (type : TileType) → SystemItem
  BoxLine : (area : BoxArea) → SystemItem
  SeedLine : (seed : Place) → SystemItem
  EndLine : SystemItem

-- the keyword of its line
abbrev pub word_of : SystemItem → List ℕ
word_of Header = codes "tiles"
word_of (TauLine tau) = codes "tau"
word_of (GlueLine glue) = codes "glue"
word_of (PairLine pair) = codes "pair"
word_of (TileLine type) = codes "tile"
word_of (BoxLine area) = codes "box"
word_of (SeedLine seed) = codes "seed"
word_of EndLine = codes "end"

-- the kept lines of the text of a system, one by one
unfoldable pub system_items : TileSystem → List SystemItem
system_items sys =
    (Header ∷ TauLine sys.tau ∷ []) ++ map GlueLine sys.glues ++ map PairLine sys.pairs ++ map TileLine sys.types
    ++ (BoxLine sys.area ∷ []) ++ map SeedLine sys.seeds ++ (EndLine ∷ [])

abbrev pub glue_of : SystemItem → Option Glue
glue_of (GlueLine g) = Some g
glue_of _ = None

abbrev pub pair_of : SystemItem → Option GluePair
pair_of (PairLine p) = Some p
pair_of _ = None

abbrev pub seed_of : SystemItem → Option Place
seed_of (SeedLine p) = Some p
seed_of _ = None

abbrev pub type_of : SystemItem → Option TileType
type_of (TileLine t) = Some t
type_of _ = None

abbrev pub area_of : SystemItem → Option BoxArea
area_of (BoxLine area) = Some area
area_of _ = None

-- the names that are declared before a line
unfoldable pub glue_names : List SystemItem → List (List ℕ)
glue_names earlier = map (λ g. g.name) (filter_map glue_of earlier)

unfoldable pub type_names : List SystemItem → List (List ℕ)
type_names earlier = map (λ t. t.name) (filter_map type_of earlier)

-- a side: the glue of this name, or none where the word is `-`
abbrev pub side : List SystemItem → List ℕ → Result (Option GlueId) Cause
side earlier word =
    if bytes_eq word (codes "-") then Ok None
    else (referred is_name (glue_names earlier) word >>= (λ g. Ok (Some (record { 0 = g }))))

abbrev pub is_in_box : BoxArea → Site → Bool
is_in_box area m = int_le area.x0 m.x && int_le m.x area.x1 && int_le area.y0 m.y && int_le m.y area.y1

abbrev pub version_word : Version → List ℕ
version_word One = codes "1"
version_word Two = codes "2"

-- what version 2 has beside version 1: pairs, and further seeds
abbrev pub if_two : {X : Type 0} → Version → X → List X
if_two One x = []
if_two Two x = x ∷ []

-- The table of keywords of a version. A row has the word, how many words its line has, behind which
-- lines it may stand, the limit of its kind, and its fields with the checks of the whole line. A box
-- has 1 to 1024 columns and rows.
abbrev pub system_rows : Version → List (Keyword (List SystemItem) SystemItem)
system_rows version =
    row (codes "tiles") (λ n. n == 2) is_none (λ earlier words. true) (λ earlier words. do
      _ ← require (bytes_eq (field words 1) (version_word version)) NoHeader
      Ok Header)
    ∷ row (codes "tau") (λ n. n == 2) (behind word_of (codes "tiles" ∷ [])) (λ earlier words. true)
    (λ earlier words. do
      n ← count_in 1 1000 (field words 1)
      Ok (TauLine n))
    ∷ row (codes "glue") (λ n. n == 3) (behind word_of (codes "tau" ∷ codes "glue" ∷ []))
    (λ earlier words. nat_lt (length (glue_names earlier)) 8192) (λ earlier words. do
      name ← declared is_name (glue_names earlier) (field words 1)
      n ← count_in 0 250 (field words 2)
      Ok (GlueLine (record { name = name; strength = n })))
    ∷ row (codes "tile") (λ n. n == 6)
    (behind word_of (codes "tau" ∷ codes "glue" ∷ codes "pair" ∷ codes "tile" ∷ []))
    (λ earlier words. nat_lt (length (type_names earlier)) 16384) (λ earlier words. do
      name ← declared is_name (type_names earlier) (field words 1)
      n ← side earlier (field words 2)
      e ← side earlier (field words 3)
      s ← side earlier (field words 4)
      w ← side earlier (field words 5)
      Ok (TileLine (record { name = name; north = n; east = e; south = s; west = w })))
    ∷ row (codes "box") (λ n. n == 5) (behind word_of (codes "tile" ∷ [])) (λ earlier words. true)
    (λ earlier words. do
      area ← box_field (field words 1) (field words 2) (field words 3) (field words 4)
      _ ← require (int_le area.x0 area.x1 && int_le area.y0 area.y1
          && int_le area.x1 (area.x0 +ℤ pos 1023) && int_le area.y1 (area.y0 +ℤ pos 1023)) OutOfRange
      Ok (BoxLine area))
    ∷ row (codes "seed") (λ n. n == 4)
    (behind word_of (codes "box" ∷ if_two version (codes "seed")))
    (λ earlier words. nat_lt (length (filter_map seed_of earlier)) 4096) (λ earlier words. do
      seed ← place_field (type_names earlier) (field words 1) (field words 2) (field words 3)
      _ ← require (option_map_or (λ area. is_in_box area seed.site)
          (last_of (filter_map area_of earlier)) true) SeedOutside
      _ ← require (not (list_any (λ p. same_site p.site seed.site) (filter_map seed_of earlier))) DoubleSite
      Ok (SeedLine seed))
    ∷ row (codes "end") (λ n. n == 1) (behind word_of (codes "seed" ∷ [])) (λ earlier words. true)
    (λ earlier words. Ok EndLine)
    -- a pair is of two glues that differ and aren't paired yet
    ∷ if_two version (row (codes "pair") (λ n. n == 4)
    (behind word_of (codes "glue" ∷ codes "pair" ∷ []))
    (λ earlier words. nat_lt (length (filter_map pair_of earlier)) 65536) (λ earlier words. do
      g ← referred is_name (glue_names earlier) (field words 1)
      h ← referred is_name (glue_names earlier) (field words 2)
      n ← count_in 0 250 (field words 3)
      _ ← require (not (g == h) && not (list_any (λ p. is_pair_of p (record { 0 = g }) (record { 0 = h }))
          (filter_map pair_of earlier))) DoubleName
      Ok (PairLine (record { first = record { 0 = g }; second = record { 0 = h }; strength = n }))))

-- only the end line completes a text
unfoldable pub system_table : Version → Table SystemItem
system_table version = table_to_end word_of (system_rows version)

-- the format of system texts of a version
abbrev pub system_format : Version → Format SystemItem
system_format version = table_format (system_table version)

-- version 1 has the systems of one seed and without pairs, version 2 has all
abbrev pub IsSystemOf : Version → TileSystem → Type 0
IsSystemOf One sys = (length sys.seeds ≡ 1) × (sys.pairs ≡ [])
IsSystemOf Two sys = Unit {0}

-- the text from a mark on is a text of this version and of this system, up to the mark after its end line
abbrev pub ReadsVersion : Version → List ℕ → Mark → TileSystem → Mark → Type 0
ReadsVersion version text from sys to = Reads (system_format version) text from (system_items sys) to

abbrev pub ReadsSystem : List ℕ → Mark → TileSystem → Mark → Type 0
ReadsSystem text from sys to = ReadsVersion One text from sys to

-- it has not the header of version 1
abbrev pub HasOtherHeader : List ℕ → Mark → Type 0
HasOtherHeader text from = (number : ℕ) × Fault (system_format One) text from number NoHeader

-- The text is one of either version: of the first, or else, where it has another header, of the second.
abbrev pub ReadsAny : List ℕ → Mark → TileSystem → Mark → Type 0
ReadsAny text from sys to =
    Reads (system_format One) text from (system_items sys) to
    ⊎ (HasOtherHeader text from × Reads (system_format Two) text from (system_items sys) to)

-- Its fault is that of version 1, and else, where it has another header, that of version 2.
abbrev pub FaultAny : List ℕ → Mark → ℕ → Cause → Type 0
FaultAny text from number cause =
    (Fault (system_format One) text from number cause × (cause ≢ NoHeader))
    ⊎ (HasOtherHeader text from × Fault (system_format Two) text from number cause)

-- the text is one of either version, of some system
abbrev pub IsReadAny : List ℕ → Mark → Type 0
IsReadAny text from = (sys : TileSystem) × (to : Mark) × ReadsAny text from sys to

-- the text has some fault under both versions
abbrev pub IsFaultyAny : List ℕ → Mark → Type 0
IsFaultyAny text from = (number : ℕ) × (cause : Cause) × FaultAny text from number cause

-- the text reads by either version as what is answered; or it has the fault that is answered; or there was no memory
abbrev pub ReadsAnyOrStops : {Answer : Type 0} → List ℕ → Mark → (Answer → Type 0) → Result Answer TextStop → Type 0
ReadsAnyOrStops text from IsReadAs (Ok answer) = IsReadAs answer
ReadsAnyOrStops text from IsReadAs (Err (stops.Fault fault)) = FaultAny text from fault.line fault.cause
ReadsAnyOrStops text from IsReadAs (Err stops.NoMemory) = Unit {0}
