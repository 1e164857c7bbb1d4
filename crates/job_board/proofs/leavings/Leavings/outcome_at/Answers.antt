use Rattle.std.proofs.Common.{◌≡◌, ◌<◌, List, Some, length, slice_get, refl, ap, sym, ◌∙◌, subst, arith}
use Rattle.std.proofs.Math.ListN.{set}
use Rattle.std.proofs.lemmas.Option.{slice_get_read}
use Rattle.job_board.specs.declared.job.Job.{Job}
use Rattle.job_board.specs.declared.state.State.{State}
use Rattle.job_board.specs.declared.state.State.TheVariants.{Done}
use Rattle.job_board.specs.Boards.{EachAnswers}
use Rattle.job_board.proofs.Steps.{EachAnswers-without}
use Rattle.job_board.proofs.leavings.Leavings.outcome_at.Goals as goal
use Rattle.job_board.proofs.leavings.Leavings.outcome_at.Goals.{in-Done, in_default}

pub invariant_of-self : goal.invariant_of-self
invariant_of-self c =
    let jobs = c.self.inside.jobs.now in
    let states = c.self.inside.states.items in
    let within : c.args.number < length states = omega arith in
    let Without : State → Type 0 = λ state. EachAnswers jobs (set states c.args.number state) in
    subst Without (sym c.replace.ensures.after) (EachAnswers-without jobs states c.args.number within c.self.invariant)

pub returns-clause-answers : goal.returns-clause-answers
returns-clause-answers c =
    let jobs = c.self.inside.jobs.now in
    let states = c.self.inside.states.items in
    let within : c.args.number < length states = omega arith in
    elim c.match-replace.branch [
      | in-Done w ↦ rw w.result-is (λ job here.
          let own : slice_get jobs c.args.number ≡ Some job = ap (λ (v : List Job × List State). slice_get v.0 c.args.number) c.self.view_is ∙ here in
          let there : slice_get states c.args.number ≡ Some (Done w.in-Done.outcome) =
          slice_get_read states _ c.args.number c.index_mut.result.now refl within c.index_mut.ensures.value ∙ ap (λ (state : State). Some state) (sym c.replace.ensures.value ∙ w.in-Done.is)
          in
          c.self.invariant c.args.number job w.in-Done.outcome own there)
      | in_default w ↦ rw w.result-is tt
    ]
