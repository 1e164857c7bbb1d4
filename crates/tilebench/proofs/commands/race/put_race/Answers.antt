use Rattle.std.proofs.Common.{◌∙◌, ◌∷◌, [], codes, ℕ, List, ap}
use Rattle.tile_io.specs.Lines.{line_of}
use Rattle.tile_io.proofs.Printing.{PassesOn-text, PassesOn-then}
use Rattle.tilebench.proofs.commands.race.put_race.Goals as goal

pub returns : goal.returns
returns g c =
    let line : List ℕ → List ℕ = λ number. line_of (codes "total" ∷ number ∷ []) in
    PassesOn-then c.put_line.result c.in_ok-put_wins.ensures (PassesOn-text (ap line (c.as_bytes.ensures.value ∙ c.format.ensures.text)) c.put_line.ensures)
