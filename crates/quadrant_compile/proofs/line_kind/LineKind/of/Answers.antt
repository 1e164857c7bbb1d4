use Rattle.std.proofs.Common.{List, ℕ, codes, sym, ap, arith, find, bytes_eq, Option}
use Rattle.std.proofs.lemmas.Slice.Eq.{text_from_reads}
use Rattle.tile_io.specs.Checks.{Keyword, Table}
use Rattle.quadrant_compile.specs.QuadrantText.{QuadrantItem, quadrant_table}
use Rattle.quadrant_compile.proofs.line_kind.LineKind.of.Goals as goal

abbrev found : Table QuadrantItem → List ℕ → Option (Keyword (List QuadrantItem) QuadrantItem)
found table word = find (λ row. bytes_eq word row.word) table.keywords

pub returns-in-symbol : goal.returns-in-symbol
unfolding quadrant_table
returns-in-symbol c =
    let is = text_from_reads c.args.word.now (codes "symbol") (omega arith) (omega arith, (omega arith, (omega arith, (omega arith, (omega arith, (omega arith, tt)))))) in
    sym (ap (found quadrant_table) is)

pub returns-in-bottom : goal.returns-in-bottom
unfolding quadrant_table
returns-in-bottom c =
    let is = text_from_reads c.args.word.now (codes "bottom") (omega arith) (omega arith, (omega arith, (omega arith, (omega arith, (omega arith, (omega arith, tt)))))) in
    sym (ap (found quadrant_table) is)

pub returns-in-quadrant : goal.returns-in-quadrant
unfolding quadrant_table
returns-in-quadrant c =
    let is = text_from_reads c.args.word.now (codes "quadrant") (omega arith) (omega arith, (omega arith, (omega arith, (omega arith, (omega arith, (omega arith, (omega arith, (omega arith, tt)))))))) in
    sym (ap (found quadrant_table) is)
