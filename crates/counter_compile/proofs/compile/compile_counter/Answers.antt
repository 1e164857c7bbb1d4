use Rattle.std.proofs.Common.{arith}
use Rattle.counter_compile.proofs.Listed.{is_tile_set}
use Rattle.counter_compile.proofs.Limits.{within_limits}
use Rattle.counter_compile.proofs.compile.compile_counter.Goals as goal

pub build_system-requires-clause-numbered : goal.build_system-requires-clause-numbered
build_system-requires-clause-numbered c = is_tile_set _ _

pub build_system-requires-clause-limits : goal.build_system-requires-clause-limits
build_system-requires-clause-limits c = let fits = c.in_ok-check_counter.ensures.accepted in let most = fits.most in within_limits _ _ (omega (arith, most))
