use Rattle.std.proofs.Common.{ap, Some, ◌∙◌}
use Rattle.type_index.proofs.Cursors.{cursor_next}
use Rattle.type_index.proofs.side_lists.SideLists.start_known.Goals as goal

pub returns-in-Alone-clause-cursor : goal.returns-in-Alone-clause-cursor
returns-in-Alone-clause-cursor c =
    let lone = c.requires.glues.kinds.lone c.args.glue (c.kind.ensures ∙ ap Some c.in-Alone.is) in
    cursor_next c.args.sys.now c.args.side c.recall_valid.ensures.valid c.args.glue 0 _ lone c.strength-strength.ensures.value c.strength-strength.ensures.value c.first.ensures
