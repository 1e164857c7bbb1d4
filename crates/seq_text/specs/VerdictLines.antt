-- The line on local determinism.
use Rattle.std.specs.Prelude.{ℕ, List, [], ◌∷◌, codes, decimal}
use Rattle.std.specs.Fmt.{signed_decimal}
use Rattle.tile_io.specs.Lines.{line_of}
use Rattle.atam.specs.declared.site.Site.{Site}
use Rattle.atam.specs.TileSystem.{TileSystem, type_name}
use Rattle.atam.specs.declared.verdict.Verdict.{Verdict}
use Rattle.atam.specs.declared.verdict.Verdict.TheVariants.{Yes, NotExact, Rival, NotTerminal}

-- the number of the condition that fails, the site where it fails, and what fails there
abbrev pub failed_line : List ℕ → Site → List ℕ → List ℕ
failed_line condition m what =
    line_of (codes "unique" ∷ codes "no" ∷ condition ∷ signed_decimal m.x ∷ signed_decimal m.y ∷ what ∷ [])

-- yes, or the first condition that fails: with the sum that holds a tile, the type of its rival, or a type that attaches
abbrev pub verdict_line : TileSystem → Verdict → List ℕ
verdict_line sys Yes = line_of (codes "unique" ∷ codes "yes" ∷ [])
verdict_line sys (NotExact m sum) = failed_line (codes "1") m (decimal sum)
verdict_line sys (Rival m t) = failed_line (codes "2") m (type_name sys t)
verdict_line sys (NotTerminal m t) = failed_line (codes "3") m (type_name sys t)
