use Rattle.std.proofs.Common.{◌≡◌, ◌∷◌, [], codes, decimal, ℕ, List, rules}
use Rattle.tile_io.specs.Causes.{cause_name}
use Rattle.tile_io.specs.Lines.{line_of}
use Rattle.tile_io.proofs.Printing.{Prints-text}
use Rattle.tilebench.proofs.telling.print_fault.Goals as goal

-- a line of the same words
same_line : (number cause a b : List ℕ) → number ≡ a → cause ≡ b →
    line_of (codes "refused" ∷ codes "text" ∷ codes "line" ∷ number ∷ cause ∷ []) ≡ line_of (codes "refused" ∷ codes "text" ∷ codes "line" ∷ a ∷ b ∷ [])
same_line number cause a b same_number same_cause = cc

pub returns : goal.returns
returns g c =
    let same_number : c.as_bytes-line.result.now ≡ decimal c.args.fault.line = search rules in
    let same_cause : c.as_bytes-cause.result.now ≡ cause_name c.args.fault.cause = search rules in
    Prints-text (same_line _ _ _ _ same_number same_cause) c.print_line.ensures
