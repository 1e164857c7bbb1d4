use Rattle.std.proofs.Common.{ap, refl, sym, ◌∙◌}
use Rattle.tile_io.specs.Checks.{count_in}
use Rattle.machine_text.proofs.take.take_cells.Goals as goal

pub returns : goal.returns
returns c =
    let read = ap (count_in 1 512) (sym c.word.ensures) ∙ sym c.in_ok-parts.ensures.value in
    rw read refl
