use Rattle.std.proofs.Common.{ap, refl, sym, ◌∙◌}
use Rattle.tile_io.specs.Checks.{count_in}
use Rattle.quadrant_compile.proofs.take.take_size.Goals as goal

pub returns : goal.returns
returns c =
    let width = ap (count_in 1 1023) (sym c.word.ensures) ∙ sym c.in_ok-width.ensures.value in
    let height = ap (count_in 1 1023) (sym c.word-2.ensures) ∙ sym c.in_ok-height.ensures.value in
    rw (width, height) refl
