use Rattle.std.proofs.Common.{refl, arith}
use Rattle.tile_io.specs.Checks.{table_format}
use Rattle.tile_io.proofs.Stretching.{nothing_so_far, whole_rest}
use Rattle.tile_io.proofs.whole_text.read_text.Goals as goal

pub returns-clause-read : goal.returns-clause-read
returns-clause-read g c =
    let text = c.args.text.now in
    let from = c.args.from in
    let format = table_format (g.R.LineReader.table (g.R.LineReader.context c.args.reader.now)) in
    let Holds = g.R.LineReader.holds c.read_last_lines.new.reader in
    let none = nothing_so_far format text from (g.R.LineReader.holds c.args.reader.now) c.requires.empty in
    whole_rest format text from Holds c.read_last_lines.result
    (c.read_last_lines.ensures.read text 0 0 from none.items refl (omega arith) none.progress none.held none.missing_is)
