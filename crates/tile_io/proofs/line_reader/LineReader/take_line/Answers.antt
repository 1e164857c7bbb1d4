use Rattle.std.proofs.Common.{◌<◌, length, Result, refl, sym, ap, subst, ◌∙◌, arith}
use Rattle.std.specs.Prelude.{bytes_eq, find}
use Rattle.tile_io.specs.declared.fault.Cause.{Cause}
use Rattle.tile_io.specs.LineReader.{TakesItem}
use Rattle.tile_io.proofs.Rows.{check_line_by, line_at, row_at}
use Rattle.tile_io.proofs.Checking.{check_keyword}
use Rattle.tile_io.proofs.line_reader.LineReader.take_line.Goals as goal

pub returns-clause-taken : goal.returns-clause-taken
returns-clause-taken g c = λ items held.
    let words = c.args.words.now in
    let context = g.Self.LineReader.context c.args.self.now in
    let table = g.Self.LineReader.table context in
    let row = g.Self.LineReader.row context c.in-Some.kind in
    let some : 0 < length words = omega (arith, c.len.ensures) in
    let found = c.in-Some.ensures ∙ ap (λ w. find (λ row. bytes_eq w row.word) table.keywords) c.word.ensures in
    let count = ap row.has_words (sym c.len-2.ensures) ∙ sym c.has_words.ensures ∙ c.if-not-has_words.false in
    let line = check_line_by table.keywords row items words some found count (sym (c.may_stand.ensures items held) ∙ c.if-not-may_stand.false) (sym (c.has_room.ensures items held) ∙ c.if-not-has_room.false) in
    let Taken : Result g.Self.LineReader.Item Cause → Type 0 = λ check. TakesItem table.is_end (g.Self.LineReader.holds c.take_fields.new.self) items check c.take_fields.result in
    subst Taken (sym line) (c.take_fields.ensures.taken items held)

pub returns-in_default-clause-taken : goal.returns-in_default-clause-taken
returns-in_default-clause-taken g c = λ items held.
    let words = c.args.words.now in
    let context = g.Self.LineReader.context c.args.self.now in
    let table = g.Self.LineReader.table context in
    let some : 0 < length words = omega (arith, c.len.ensures) in
    let none = c.in_default.ensures ∙ ap (λ w. find (λ row. bytes_eq w row.word) table.keywords) c.word.ensures in
    (line_at table.keywords items words some ∙ ap (λ r. check_keyword r items words) (sym none), held)

pub returns-then-not-has_words-clause-taken : goal.returns-then-not-has_words-clause-taken
returns-then-not-has_words-clause-taken g c = λ items held.
    let words = c.args.words.now in
    let context = g.Self.LineReader.context c.args.self.now in
    let table = g.Self.LineReader.table context in
    let row = g.Self.LineReader.row context c.in-Some.kind in
    let some : 0 < length words = omega (arith, c.len.ensures) in
    let found = c.in-Some.ensures ∙ ap (λ w. find (λ row. bytes_eq w row.word) table.keywords) c.word.ensures in
    let count = ap row.has_words (sym c.len-2.ensures) ∙ sym c.has_words.ensures ∙ c.if-not-has_words.true in
    (row_at table.keywords row items words some found ∙ rw count refl, held)

pub returns-then-not-may_stand-clause-taken : goal.returns-then-not-may_stand-clause-taken
returns-then-not-may_stand-clause-taken g c = λ items held.
    let words = c.args.words.now in
    let context = g.Self.LineReader.context c.args.self.now in
    let table = g.Self.LineReader.table context in
    let row = g.Self.LineReader.row context c.in-Some.kind in
    let some : 0 < length words = omega (arith, c.len.ensures) in
    let found = c.in-Some.ensures ∙ ap (λ w. find (λ row. bytes_eq w row.word) table.keywords) c.word.ensures in
    let count = ap row.has_words (sym c.len-2.ensures) ∙ sym c.has_words.ensures ∙ c.if-not-has_words.false in
    let stands = sym (c.may_stand.ensures items held) ∙ c.if-not-may_stand.true in
    (row_at table.keywords row items words some found ∙ rw (count, stands) refl, held)

pub returns-then-not-has_room-clause-taken : goal.returns-then-not-has_room-clause-taken
returns-then-not-has_room-clause-taken g c = λ items held.
    let words = c.args.words.now in
    let context = g.Self.LineReader.context c.args.self.now in
    let table = g.Self.LineReader.table context in
    let row = g.Self.LineReader.row context c.in-Some.kind in
    let some : 0 < length words = omega (arith, c.len.ensures) in
    let found = c.in-Some.ensures ∙ ap (λ w. find (λ row. bytes_eq w row.word) table.keywords) c.word.ensures in
    let count = ap row.has_words (sym c.len-2.ensures) ∙ sym c.has_words.ensures ∙ c.if-not-has_words.false in
    let stands = sym (c.may_stand.ensures items held) ∙ c.if-not-may_stand.false in
    let room = sym (c.has_room.ensures items held) ∙ c.if-not-has_room.true in
    (row_at table.keywords row items words some found ∙ rw (count, stands, room) refl, held)
