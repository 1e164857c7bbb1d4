use Rattle.tile_io.proofs.Progress.{reads_is_mark}
use Rattle.quadrant_compile.specs.QuadrantText.{quadrant_format}
use Rattle.tilebench.proofs.input.read_quadrant_alone.Goals as goal

pub check_rest-requires-clause-mark : goal.check_rest-requires-clause-mark
check_rest-requires-clause-mark c =
    let read = c.in_ok-quadrant.ensures.read in
    reads_is_mark quadrant_format c.args.input.now c.start.result c.in_ok-quadrant.end read.items (c.start.ensures.mark c.args.input.now) read.reads
