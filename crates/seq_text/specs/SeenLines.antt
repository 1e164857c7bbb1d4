-- The lines on what scouts are told.
use Rattle.std.specs.Prelude.{ℕ, List, [], ◌∷◌, codes, decimal, flat_map, IfSome, Result, Ok, Err}
use Rattle.std.specs.Option.{option_map_or}
use Rattle.tile_io.specs.Lines.{line_of}
use Rattle.atam.specs.TileSystem.{TileSystem, IsType, type_name}
use Rattle.atam.specs.declared.event.Seen.{Seen}
use Rattle.atam.specs.declared.event.Seen.TheVariants.{Saw, Won, Held, Divided, Joined}
use Rattle.atam.specs.declared.event.CoreStop.{CoreStop}
use Rattle.atam.specs.declared.event.CoreStop.TheVariants.{NoSuchScout, NotSupported, OutsideBox, NoNumberLeft, NoMemory}

-- The answer to an event: the type that was seen at a site, or `-` where there is none, that a
-- claim was won or which type holds the site, and the name of the new or of the joined scout; or
-- why the event is refused, by its number, and for a claim that isn't supported its pull. Want of
-- memory has no line.
abbrev pub seen_line : TileSystem → Result Seen CoreStop → List ℕ
seen_line sys (Ok (Saw there)) =
    line_of (codes "saw" ∷ option_map_or (type_name sys) there (codes "-") ∷ [])
seen_line sys (Ok Won) = line_of (codes "won" ∷ [])
seen_line sys (Ok (Held t)) = line_of (codes "held" ∷ type_name sys t ∷ [])
seen_line sys (Ok (Divided name)) = line_of (codes "split" ∷ decimal name ∷ [])
seen_line sys (Ok (Joined name)) = line_of (codes "joined" ∷ decimal name ∷ [])
seen_line sys (Err NoSuchScout) = line_of (codes "refused" ∷ codes "1" ∷ [])
seen_line sys (Err (NotSupported pull)) = line_of (codes "refused" ∷ codes "2" ∷ decimal pull ∷ [])
seen_line sys (Err OutsideBox) = line_of (codes "refused" ∷ codes "3" ∷ [])
seen_line sys (Err NoNumberLeft) = line_of (codes "refused" ∷ codes "4" ∷ [])
seen_line sys (Err NoMemory) = []

-- the answers to the events of a schedule, in its order
abbrev pub seen_lines : TileSystem → List (Result Seen CoreStop) → List ℕ
seen_lines sys answers = flat_map (seen_line sys) answers

-- the answer has a line, which names a type of the system if any: each has but want of memory
abbrev pub HasLine : TileSystem → Result Seen CoreStop → Type 0
HasLine sys (Ok (Saw there)) = IfSome there (IsType sys)
HasLine sys (Ok (Held t)) = IsType sys t
HasLine sys (Err NoMemory) = ⊥
HasLine sys _ = Unit {0}
