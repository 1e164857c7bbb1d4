use Rattle.std.proofs.Common.{subst}
use Rattle.tile_io.specs.declared.mark.Mark.{Mark}
use Rattle.tile_text.specs.SystemText.{ReadsAny}
use Rattle.tilebench.proofs.input.read_front.Goals as goal

pub returns-clause-read : goal.returns-clause-read
returns-clause-read c =
    let found = c.in_ok-read_any.field-0 in
    let From : Mark → Type 0 = λ from. ReadsAny c.args.input.now from found.0 found.1 in
    subst From c.start.ensures.value c.in_ok-read_any.ensures.read
