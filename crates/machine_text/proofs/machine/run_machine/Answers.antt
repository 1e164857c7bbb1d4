use Rattle.std.proofs.Common.{◌≡◌, suc, None, sym, ap, ◌∙◌, arith, option_and_then}
use Rattle.machine_text.specs.Machines.{next, after}
use Rattle.machine_text.proofs.Steps.{stays_stopped}
use Rattle.machine_text.proofs.machine.run_machine.Goals as goal

pub next-requires : goal.next-requires
next-requires c = c.loop-step.invariant.config

pub returns-then-not-next-clause-run : goal.returns-then-not-next-clause-run
returns-then-not-next-clause-run c =
    let M = c.args.machine.now in
    let stopped : after M (suc c.loop-step._step) ≡ None = ap (option_and_then (next M)) c.loop-step.invariant.there ∙ c.next.ensures.none c.if-not-next.true in
    sym (stays_stopped M (suc c.loop-step._step) c.args.steps (omega (arith, c.loop-step-test.true)) stopped)

pub returns-clause-run : goal.returns-clause-run
returns-clause-run c =
    let same : c.loop-step._step ≡ c.args.steps = omega (arith, c.loop-step-test.false, c.loop-step.auto._step-end) in
    sym c.loop-step.invariant.there ∙ ap (after c.args.machine.now) same

pub returns-clause-config : goal.returns-clause-config
returns-clause-config c = c.loop-step.invariant.config
