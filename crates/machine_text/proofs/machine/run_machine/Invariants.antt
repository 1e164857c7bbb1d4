use Rattle.std.proofs.Common.{◌≡◌, Some}
use Rattle.machine_text.specs.Machines.{IsConfigOf, after}
use Rattle.machine_text.proofs.machine.run_machine.Given as goal

-- the configuration after the steps so far
abbrev pub invariant-loop-step : goal.invariant-loop-step
invariant-loop-step l = record {
  there : after l.machine l._step ≡ Some l.config;
  config : IsConfigOf l.machine l.config;
}
