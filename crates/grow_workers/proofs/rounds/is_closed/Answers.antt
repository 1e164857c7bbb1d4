use Rattle.std.proofs.Common.{◌∙◌, subst}
use Rattle.site_table.specs.Rule.{IsPossible}
use Rattle.site_table.proofs.Seen.{same_fits}
use Rattle.grow_workers.proofs.rounds.is_closed.Goals as goal

pub least_open_inside_by-requires-clause-fits : goal.least_open_inside_by-requires-clause-fits
least_open_inside_by-requires-clause-fits g c =
    let shared = c.args.shared.now in
    let stage = c.args.stage.now in
    let real : IsPossible shared.sys.now stage.seat.scout = subst (λ z. IsPossible z stage.seat.scout) (c.requires.seen.at_table.sys ∙ c.requires.shared.system) c.recall_possible.ensures.possible in
    same_fits shared.sys.now stage.seat.scout stage.grid.tiles real c.requires.seen.seen
