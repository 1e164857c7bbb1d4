use Rattle.std.proofs.Common.{ap, ◌∙◌}
use Rattle.std.specs.Prelude.{option_map, is_some}
use Rattle.seq_text.specs.Inner.Kinds.{row_of}
use Rattle.seq_text.proofs.Growths.{row_named}
use Rattle.seq_text.proofs.reader.GrowthReaderLineReader.kind_of.Goals as goal

pub returns : goal.returns
returns c =
    let r = c.args.self.now in
    ap (option_map (row_of (is_some r.grid) r.system.now)) c.of.ensures ∙ row_named (is_some r.grid) r.system.now c.args.word.now
