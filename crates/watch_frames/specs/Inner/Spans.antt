-- Frames one by one, as they are printed.
use Rattle.std.specs.Prelude.{ℕ, ◌+◌, List, [], ◌∷◌, ◌++◌, codes, decimal, take, drop}
use Rattle.tile_io.specs.Lines.{line_of}
use Rattle.atam.specs.declared.place.Place.{Place}
use Rattle.atam.specs.TileSystem.{TileSystem}
use Rattle.seq_text.specs.GrowthLines.{place_lines}
use Rattle.watch_frames.specs.declared.printing.FrameSpan.{FrameSpan}

-- the frames with these counts, from one with this number on, behind so many places
abbrev pub spans_from : ℕ → ℕ → List ℕ → List FrameSpan
spans_from number before [] = []
spans_from number before (count ∷ counts) =
    record { number = number; before = before; count = count } ∷ spans_from (number + 1) count counts

-- the first one tells of all its places
abbrev pub spans : List ℕ → List FrameSpan
spans counts = spans_from 1 0 counts

-- the lines of a frame: its number and how many places it has, and then the places that it adds
abbrev pub span_lines : TileSystem → List Place → FrameSpan → List ℕ
span_lines sys places span = line_of (codes "frame" ∷ decimal span.number ∷ decimal span.count ∷ [])
    ++ place_lines sys (drop span.before (take span.count places))
