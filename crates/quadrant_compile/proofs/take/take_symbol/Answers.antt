use Rattle.std.proofs.Common.{◌≡◌, Ok, ap, refl, sym, ◌∙◌}
use Rattle.tile_io.specs.Checks.{declared, field}
use Rattle.machine_text.specs.Machines.{is_short_name}
use Rattle.quadrant_compile.proofs.take.take_symbol.Goals as goal

pub returns-in-Ok : goal.returns-in-Ok
returns-in-Ok c =
    let name = c.word-name.result.now in
    let parts = c.args.parts.now in
    let read : declared is_short_name parts.symbols (field c.args.words.now 1) ≡ Ok name = ap (declared is_short_name parts.symbols) (sym c.word-name.ensures) ∙ c.in_ok-check_new.ensures in
    rw (read, c.in-Ok.ensures.ok) refl
