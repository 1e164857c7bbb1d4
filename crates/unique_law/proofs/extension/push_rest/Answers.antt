use Rattle.std.proofs.Common.{append_assoc, arith}
use Rattle.std.proofs.lemmas.Grind.{common_steps}
use Rattle.unique_law.proofs.Rests.{rest_of-more}
use Rattle.unique_law.proofs.extension.push_rest.Goals as goal
use Rattle.unique_law.proofs.extension.push_rest.Goals.{then-is_none+in_ok-push, else-is_none}

pub loop-index-preserved : goal.loop-index-preserved
loop-index-preserved c =
    rw (rest_of-more c.args.grid.now.tiles c.args.places.now c.loop-index.index c.get-place.result c.get-place.ensures)
    (elim c.if-is_none.branch [
      | then-is_none+in_ok-push w ↦ grind (arith, common_steps, append_assoc)
      | else-is_none w ↦ grind (arith, common_steps)
    ])
