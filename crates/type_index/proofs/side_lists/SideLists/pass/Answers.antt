use Rattle.type_index.proofs.Cursors.{cursor_stays}
use Rattle.type_index.proofs.side_lists.SideLists.pass.Goals as goal

pub returns-then-cursor-index-clause-cursor : goal.returns-then-cursor-index-clause-cursor
returns-then-cursor-index-clause-cursor c =
    cursor_stays c.args.sys.now c.args.side c.recall_valid.ensures.valid c.args.glue c.args.index c.args.cursor.now c.requires.cursor c.if-cursor-index.true
