use Rattle.std.proofs.Common.{◌∙◌, ◌∷◌, [], codes, ℕ, List, ap}
use Rattle.tile_io.specs.Lines.{line_of}
use Rattle.tile_io.proofs.Printing.{Prints-text}
use Rattle.tilebench.proofs.commands.load.print_tiles.Goals as goal

pub returns : goal.returns
returns g c =
    let line : List ℕ → List ℕ = λ number. line_of (codes "tiles" ∷ number ∷ []) in
    Prints-text (ap line (c.as_bytes.ensures.value ∙ c.format.ensures.text)) c.print_line.ensures
