use Rattle.std.proofs.Common.{subst, sym, Contains}
use Rattle.quadrant_compile.specs.declared.tile.Kind.TheVariants.{Corner}
use Rattle.quadrant_compile.proofs.Listed.{is_tile_set}
use Rattle.quadrant_compile.proofs.Named.{within_limits, seed_listed}
use Rattle.quadrant_compile.proofs.compiler.quadrant_tiles.Goals as goal

pub new-requires-clause-numbered : goal.new-requires-clause-numbered
new-requires-clause-numbered c = is_tile_set c.args.quadrant c.symbols.ensures.valid

pub new-requires-clause-limits : goal.new-requires-clause-limits
new-requires-clause-limits c = within_limits c.args.quadrant c.symbols.ensures.valid

pub new-requires-clause-seed : goal.new-requires-clause-seed
new-requires-clause-seed c = subst (λ ks. Contains ks Corner) (sym c.in_ok-kinds.ensures) (seed_listed c.args.quadrant c.symbols.ensures.valid)
