use Rattle.std.proofs.Common.{Some, arith, refl, subst, sym}
use Rattle.type_index.specs.declared.cursor.Way.{Way}
use Rattle.type_index.specs.Inner.Cursors.{GoesBy}
use Rattle.type_index.proofs.Cursors.{cursor_past}
use Rattle.type_index.proofs.Walks.{behind_on}
use Rattle.type_index.proofs.side_lists.SideLists.pass_to.Goals as goal

pub returns-then-cursor-bound-clause-cursor : goal.returns-then-cursor-bound-clause-cursor
returns-then-cursor-bound-clause-cursor c =
    behind_on c.args.sys.now c.args.side c.args.glue c.args.bound c.args.cursor.now c.requires.cursor c.if-cursor-bound.true

pub returns-in-Bearers-clause-cursor : goal.returns-in-Bearers-clause-cursor
returns-in-Bearers-clause-cursor c =
    let sys = c.args.sys.now in
    let cursor = c.args.cursor.now in
    let Goes : Way → Type 0 = λ way. GoesBy sys c.args.side c.args.self.now.meetings.meetings (Some c.in-Some.glue) cursor way in
    let alone = subst Goes c.in-Bearers.is (rw (sym c.in-Some.is) c.requires.way) in
    rw c.in-Some.is (
    cursor_past sys c.args.side c.recall_valid.ensures.valid c.in-Some.glue c.requires.cursor.from c.args.bound cursor _ (omega (arith, c.if-cursor-bound.false, c.requires.within)) (rw (sym c.in-Some.is) c.requires.cursor.is) alone
    c.next_from-cursor.ensures refl refl
    )
