use Rattle.std.proofs.Common.{arith}
use Rattle.counter_compile.proofs.Listed.{is_tile_set}
use Rattle.counter_compile.proofs.Limits.{within_limits}
use Rattle.counter_compile.proofs.compile.counter_tiles.Goals as goal

pub new-requires-clause-numbered : goal.new-requires-clause-numbered
new-requires-clause-numbered c = is_tile_set _ _

pub new-requires-clause-limits : goal.new-requires-clause-limits
new-requires-clause-limits c = let fits = c.in_ok-check_counter.ensures.accepted in let most = fits.most in within_limits _ _ (omega (arith, most))
