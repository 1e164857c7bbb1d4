-- What is printed of a counter that was grown.
use Rattle.std.specs.Prelude.{ℕ, List, [], ◌∷◌, ◌++◌, codes, decimal, Option}
use Rattle.atam.specs.declared.site.Site.{Site}
use Rattle.atam.specs.declared.place.TypeId.{TypeId}
use Rattle.atam.specs.declared.verdict.Verdict.{Verdict}
use Rattle.atam.specs.TileSystem.{TileSystem}
use Rattle.tile_io.specs.Lines.{line_of}
use Rattle.seq_text.specs.GrowthLines.{closed_line}
use Rattle.seq_text.specs.VerdictLines.{verdict_line}

-- the number with its counter's bits and start, the number of tiles, what is open outside the box, and the verdict
abbrev pub load_text : ℕ → ℕ → ℕ → ℕ → TileSystem → Option (Site × TypeId) → Verdict → List ℕ
load_text number bits start tiles sys outside verdict =
    (line_of (codes "load" ∷ decimal number ∷ codes "bits" ∷ decimal bits
    ∷ codes "start" ∷ decimal start ∷ []) ++ line_of (codes "tiles" ∷ decimal tiles ∷ []))
    ++ (closed_line sys outside ++ verdict_line sys verdict)
