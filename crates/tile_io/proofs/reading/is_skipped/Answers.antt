use Rattle.std.proofs.Common.{ap, sym, ◌∙◌}
use Rattle.tile_io.specs.Lines.{is_skipped}
use Rattle.tile_io.proofs.Cuts.{skipped_by_first}
use Rattle.tile_io.proofs.reading.is_skipped.Goals as goal

pub returns : goal.returns
returns c =
    c.is_remark.ensures ∙ sym (skipped_by_first c.without_spaces.result.now c.without_spaces.ensures.front) ∙ ap is_skipped c.without_spaces.ensures.words
