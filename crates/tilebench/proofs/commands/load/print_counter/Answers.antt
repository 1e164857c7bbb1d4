use Rattle.std.proofs.Common.{◌≡◌, ◌∷◌, [], codes, decimal, ℕ, List, rules}
use Rattle.tile_io.specs.Lines.{line_of}
use Rattle.tile_io.proofs.Printing.{Prints-text}
use Rattle.tilebench.proofs.commands.load.print_counter.Goals as goal

abbrev line : List ℕ → List ℕ → List ℕ → List ℕ
line number bits start = line_of (codes "load" ∷ number ∷ codes "bits" ∷ bits ∷ codes "start" ∷ start ∷ [])

same_line : (number bits start a b d : List ℕ) → number ≡ a → bits ≡ b → start ≡ d → line number bits start ≡ line a b d
same_line number bits start a b d same_number same_bits same_start = cc

pub returns : goal.returns
returns g c =
    let same_number : c.as_bytes-number.result.now ≡ decimal c.args.number = search rules in
    let same_bits : c.as_bytes-bits.result.now ≡ decimal c.args.counter.bits = search rules in
    let same_start : c.as_bytes-start.result.now ≡ decimal c.args.counter.start = search rules in
    Prints-text (same_line _ _ _ _ _ _ same_number same_bits same_start) c.print_line.ensures
