use Rattle.std.proofs.Common.{ap, arith}
use Rattle.site_table.specs.Inner.Tallies.{TallyValue}
use Rattle.site_table.proofs.Tallies.{run_few}
use Rattle.site_table.proofs.tally.Tally.add.Goals as goal

pub overflow_add-self : goal.overflow_add-self
overflow_add-self c =
    let few = run_few c.args.self.now 2147483648 c.requires.few in
    let run = ap (λ (t : TallyValue). t.run) c.self.view_is in
    omega (arith, few, run)
