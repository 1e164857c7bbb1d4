use Rattle.std.proofs.Common.{◌≡◌, true, Ok, sym, ap, subst, ◌∙◌}
use Rattle.quadrant_compile.specs.Quadrants.{RuleQuadrant}
use Rattle.quadrant_compile.specs.QuadrantText.{QuadrantItem, quadrant_table}
use Rattle.quadrant_compile.specs.Inner.Keywords.{word_of_kind, row_of, may_stand_after}
use Rattle.quadrant_compile.specs.Inner.SoFar.{quadrant_in}
use Rattle.quadrant_compile.proofs.Lines.{IsLine}
use Rattle.quadrant_compile.proofs.Built.{holds-push, last_is}
use Rattle.quadrant_compile.proofs.Fits.{line_of, room_by_quadrant, follows_is}
use Rattle.quadrant_compile.proofs.reader.QuadrantReaderLineReader.take_fields.Goals as goal

pub returns-clause-taken : goal.returns-clause-taken
unfolding quadrant_table
returns-clause-taken c = λ items held.
    let q = quadrant_in c.args.self.now.parts in
    let last = c.args.self.now.last in
    let kind = c.args.kind in
    let words = c.args.words.now in
    let may = c.requires in
    let item : QuadrantItem = (word_of_kind kind, quadrant_in c.take_item.new.parts) in
    let check : (row_of kind).fields items words ≡ Ok item = c.in_ok-take_item.ensures items held.quadrant in
    let room = room_by_quadrant kind items may.items words (sym held.quadrant ∙ may.held.quadrant) ∙ may.room in
    let line : IsLine q kind item = subst (λ (v : RuleQuadrant). IsLine v kind item) (sym held.quadrant) (line_of kind items words item room check) in
    let stands : may_stand_after kind last ≡ true = sym (ap (row_of kind).may_follow may.held.last_item ∙ follows_is kind last q) ∙ may.follows in
    (item, check, last_is kind ∙ sym c.is_last.ensures, holds-push q last kind items item held stands line)
