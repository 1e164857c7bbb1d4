use Rattle.std.proofs.Common.{List, ℕ, Ok, ap, sym, ◌∙◌}
use Rattle.quadrant_compile.proofs.take.take_left.Goals as goal

pub returns : goal.returns
returns c = c.keep_left.ensures c.args.words.now (c.in_ok-symbols.ensures ∙ ap (λ (l : List ℕ). Ok l) (sym c.as_slice.ensures.value))
