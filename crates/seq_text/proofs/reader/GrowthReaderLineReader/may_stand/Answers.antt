use Rattle.std.proofs.Common.{◌∙◌}
use Rattle.std.specs.Prelude.{is_some}
use Rattle.tile_io.specs.Checks.{last_of}
use Rattle.seq_text.proofs.Growths.{follows_kind}
use Rattle.seq_text.proofs.reader.GrowthReaderLineReader.may_stand.Goals as goal

pub returns : goal.returns
returns c = λ items held.
    let r = c.args.self.now in
    c.may_stand.ensures ∙ follows_kind (is_some r.grid) r.system.now c.args.kind r.last (last_of items) held.kind
