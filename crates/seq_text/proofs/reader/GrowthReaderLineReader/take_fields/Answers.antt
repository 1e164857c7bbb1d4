use Rattle.std.proofs.Common.{refl}
use Rattle.std.specs.Prelude.{is_some}
use Rattle.seq_text.specs.GrowthText.{growth_table}
use Rattle.seq_text.proofs.Growths.{holds_other, ending_line}
use Rattle.seq_text.proofs.reader.GrowthReaderLineReader.take_fields.Goals as goal

pub returns-in-Closed : goal.returns-in-Closed
unfolding growth_table
returns-in-Closed c = record {
  taken = λ items held.
      let r = c.args.self.now in
      let line = ending_line (is_some r.grid) r.system.now c.args.kind c.in-Closed.is items c.args.words.now in
      (line.0, line.3, refl, holds_other r.system.now r.sequence r.grid r.last items c.args.kind line.0 line.1 line.2 held);
  context = refl;
}
