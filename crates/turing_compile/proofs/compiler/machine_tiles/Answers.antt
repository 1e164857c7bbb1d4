use Rattle.std.proofs.Common.{subst, sym, Contains}
use Rattle.turing_compile.specs.declared.kind.Kind.TheVariants.{First}
use Rattle.turing_compile.proofs.Listed.{is_tile_set}
use Rattle.turing_compile.proofs.Named.{within_limits, seed_listed}
use Rattle.turing_compile.proofs.compiler.machine_tiles.Goals as goal

pub new-requires-clause-numbered : goal.new-requires-clause-numbered
new-requires-clause-numbered c = is_tile_set c.args.machine c.states.ensures.valid

pub new-requires-clause-limits : goal.new-requires-clause-limits
new-requires-clause-limits c = within_limits c.args.machine c.states.ensures.valid

pub new-requires-clause-seed : goal.new-requires-clause-seed
new-requires-clause-seed c = subst (λ ks. Contains ks (First 0)) (sym c.in_ok-kinds.ensures) (seed_listed c.args.machine c.states.ensures.valid)
