use Rattle.std.proofs.Common.{◌≡◌, Some, sym, ap, subst, ◌∙◌}
use Rattle.tile_io.specs.Lines.{words_of}
use Rattle.std.specs.Prelude.{find, bytes_eq}
use Rattle.tile_io.specs.Checks.{field}
use Rattle.quadrant_compile.specs.QuadrantText.{quadrant_table}
use Rattle.quadrant_compile.specs.Inner.Keywords.{row_of}
use Rattle.quadrant_compile.specs.Inner.Borders.{HasPlace, border_kind}
use Rattle.quadrant_compile.specs.Inner.SoFar.{quadrant_in}
use Rattle.quadrant_compile.proofs.Borders.{border_taken, border_stopped}
use Rattle.quadrant_compile.proofs.reader.QuadrantReaderLineReader.take_plain.Goals as goal

pub returns-in-Ok-clause-taken : goal.returns-in-Ok-clause-taken
unfolding quadrant_table
returns-in-Ok-clause-taken c = λ items held.
    let r = c.args.self.now in
    let border = c.in_ok-border.border in
    let line = c.cut-words.ensures in
    let place = subst (HasPlace border (quadrant_in r.parts) r.last) line (c.has_place.ensures c.if-not-has_place.false) in
    let keyword : find (λ row. bytes_eq (field (words_of c.args.line.now) 0) row.word) quadrant_table.keywords ≡ Some (row_of (border_kind border)) = ap (λ w. find (λ row. bytes_eq (field w 0) row.word) quadrant_table.keywords) (sym line) ∙ c.in_ok-border.ensures in
    let took = border_taken border (quadrant_in r.parts) r.last items (words_of c.args.line.now) place held (quadrant_in c.take_border.new.parts) keyword (c.in-Ok.ensures items held.quadrant) in
    rw c.kind.ensures took

pub returns-in-Err-clause-taken : goal.returns-in-Err-clause-taken
unfolding quadrant_table
returns-in-Err-clause-taken c = λ items held.
    let r = c.args.self.now in
    let border = c.in_ok-border.border in
    let line = c.cut-words.ensures in
    let place = subst (HasPlace border (quadrant_in r.parts) r.last) line (c.has_place.ensures c.if-not-has_place.false) in
    let keyword : find (λ row. bytes_eq (field (words_of c.args.line.now) 0) row.word) quadrant_table.keywords ≡ Some (row_of (border_kind border)) = ap (λ w. find (λ row. bytes_eq (field w 0) row.word) quadrant_table.keywords) (sym line) ∙ c.in_ok-border.ensures in
    border_stopped border (quadrant_in r.parts) r.last items (words_of c.args.line.now) place held (quadrant_in c.take_border.new.parts) c.in-Err.stop keyword (c.in-Err.ensures items held.quadrant)
