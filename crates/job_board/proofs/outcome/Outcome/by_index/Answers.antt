use Rattle.std.proofs.Common.{◌≡◌, List, sym, subst}
use Rattle.atam.specs.declared.place.Place.{Place}
use Rattle.job_board.specs.Answers.{Answers}
use Rattle.job_board.proofs.outcome.Outcome.by_index.Goals as goal

pub returns : goal.returns
returns g c =
    let sys = c.args.sys.now in
    let inside = c.outcome.inside in
    subst (λ (order : List Place).
    Answers sys (record { order = order; outside = inside.outside; verdict = inside.verdict }))
    (sym c.shrink_to_fit.ensures) (subst (Answers sys) (sym c.outcome.view_is) c.in_ok-outcome.ensures)
