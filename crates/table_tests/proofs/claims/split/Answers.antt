use Rattle.std.proofs.Common.{◌≢◌, ◌-◌, ◌^◌, ◌∙◌, ℕ, List, subst, sym, ap, arith}
use Rattle.atam.specs.declared.place.Place.{Place}
use Rattle.atam.specs.Placements.{SamePlacements}
use Rattle.atam.proofs.Tiles.{SamePlacements-trans, same_back}
use Rattle.grow_core.specs.Core.{OwnsTwoOrMore, greatest}
use Rattle.grow_core.proofs.Numbers.{two-all}
use Rattle.grow_workers.specs.Workers.{OwnsAtLeast}
use Rattle.grow_workers.proofs.Splitting.{rest_owns}
use Rattle.table_tests.proofs.claims.split.Goals as goal

-- who has seen the same as one that has seen the seeds
from_seeds : (seeds seen part tiles : List Place) → SamePlacements seeds seen → SamePlacements seen part → SamePlacements seeds tiles → SamePlacements part tiles
from_seeds seeds seen part tiles whole same grid = SamePlacements-trans part seen tiles (same_back seen part same) (SamePlacements-trans seen seeds tiles (same_back seeds seen whole) grid)

pub split-requires-clause-two : goal.split-requires-clause-two
split-requires-clause-two c = subst OwnsTwoOrMore (sym c.requires.whole.owned) two-all

pub returns-clause-first_seen : goal.returns-clause-first_seen
returns-clause-first_seen c = from_seeds c.args.table.now.sys.seeds c.args.seat.scout.seen c.split.result.0.scout.seen c.args.seeds.now.tiles c.requires.whole.seen c.split.ensures.kept.seen c.requires.seeds

pub returns-clause-second_seen : goal.returns-clause-second_seen
returns-clause-second_seen c = from_seeds c.args.table.now.sys.seeds c.args.seat.scout.seen c.split.result.1.scout.seen c.args.seeds.now.tiles c.requires.whole.seen c.split.ensures.given.seen c.requires.seeds

pub returns-clause-numbers : goal.returns-clause-numbers
returns-clause-numbers c =
    let rest = c.split.ensures.kept.owned ∙ ap (λ (o : ℕ). o - 2 ^ greatest o) c.requires.whole.owned in
    subst (OwnsAtLeast 2) (sym rest) (rest_owns 2 (omega arith))
