use Rattle.std.proofs.Common.{◌≤◌, ◌∙◌, subst, sym, arith}
use Rattle.atam.specs.TileSystem.{TileSystem}
use Rattle.atam.specs.Assembly as model
use Rattle.grow_core.specs.Steps.{Supports}
use Rattle.site_table.specs.Rule.{IsPossible}
use Rattle.site_table.proofs.Seen.{same_fits, same_supports}
use Rattle.table_tests.proofs.claims.is_held.Goals as goal

pub pull-requires-clause-fits : goal.pull-requires-clause-fits
pull-requires-clause-fits c =
    let sys = c.args.sys.now in
    let possible : IsPossible sys c.args.seat.now.scout = subst (λ z. IsPossible z c.args.seat.now.scout) (c.requires.seat.sys ∙ c.requires.system) c.recall_possible.ensures.possible in
    same_fits sys c.args.seat.now.scout c.args.seen.now.tiles possible c.requires.seen

pub returns : goal.returns
returns c _ =
    let sys = c.args.sys.now in
    let possible : IsPossible sys c.args.seat.now.scout = subst (λ z. IsPossible z c.args.seat.now.scout) (c.requires.seat.sys ∙ c.requires.system) c.recall_possible.ensures.possible in
    let value = c.pull.ensures.value in
    let tau = c.tau.ensures.tau in
    let enough = c.if-pull-tau.false in
    let held : sys.tau ≤ model.pull sys c.args.seen.now.tiles c.args.site c.args.tile = omega (arith, value, tau, enough) in
    subst (λ (z : TileSystem). Supports z c.args.seat.now.scout c.args.site c.args.tile) (sym c.requires.system)
    (same_supports sys c.args.seat.now.scout c.args.seen.now.tiles c.args.site c.args.tile possible c.requires.seen held)
