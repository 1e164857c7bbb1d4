use Rattle.std.proofs.Common.{subst}
use Rattle.tile_io.specs.Formats.{Reads}
use Rattle.tile_io.proofs.Progress.{reads_is_mark}
use Rattle.job_board.specs.declared.position.Position.{Position}
use Rattle.job_board.specs.BatchLines.{batch_format}
use Rattle.job_board.specs.Inner.FoundLines.{IsFoundAt}
use Rattle.job_board.proofs.batch_line.read_line.Goals as goal

pub returns : goal.returns
returns c =
    let read = c.in_ok-to.ensures.read in
    let format = batch_format c.args.position in
    record {
      reads = subst (λ items. Reads format c.args.text.now c.args.from items c.in_ok-to.to) read.held.items_are read.reads;
      is_at = subst (λ (position : Position). IsFoundAt position c.read_text.new.reader.taken) c.in_ok-to.ensures.context read.held.found;
      mark = reads_is_mark format c.args.text.now c.args.from c.in_ok-to.to read.items c.requires.mark read.reads;
    }
