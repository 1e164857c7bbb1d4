use Rattle.std.proofs.Common.{List, ℕ, Ok, ap, sym, ◌∙◌}
use Rattle.tile_io.specs.Lines.{words_of}
use Rattle.quadrant_compile.proofs.take.take_bottom_line.Goals as goal

pub returns : goal.returns
returns c = c.keep_bottom.ensures (words_of c.args.line.now) (c.in_ok-symbols.ensures ∙ ap (λ (l : List ℕ). Ok l) (sym c.as_slice.ensures.value))
