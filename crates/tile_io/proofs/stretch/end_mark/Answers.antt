use Rattle.tile_io.proofs.Walks.{mark_within}
use Rattle.tile_io.proofs.Progress.{same_marks}
use Rattle.tile_io.specs.Lines.{lines_from, mark_after}
use Rattle.std.proofs.Common.{length}
use Rattle.tile_io.proofs.TextEnds.{end_place}
use Rattle.tile_io.specs.declared.mark.Mark.{Mark}
use Rattle.tile_io.proofs.stretch.end_mark.Goals as goal

pub returns : goal.returns
returns c =
    let text = c.args.text.now in
    let from = c.args.from in
    let made : Mark = record { at = length text; line = c.end_number.result } in
    same_marks made (mark_after (lines_from text from) from (length (lines_from text from))) (end_place text from (mark_within text from c.requires.mark).0) c.end_number.ensures
