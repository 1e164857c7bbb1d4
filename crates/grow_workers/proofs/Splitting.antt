-- A whole seat of which the greatest number is split off.
use Rattle.std.proofs.Common.{◌≡◌, ◌≤◌, ◌<◌, ◌-◌, ◌^◌, ℕ, List, lit<, refl, sym, subst}
use lib.Count.{count_leading_zeros}
use Rattle.atam.specs.declared.place.Place.{Place}
use Rattle.atam.specs.Placements.{SamePlacements}
use Rattle.atam.proofs.Tiles.{SamePlacements-trans, same_back}
use Rattle.grow_core.specs.Core.{greatest}
use Rattle.grow_workers.specs.Workers.{OwnsAtLeast}
use Rattle.grow_workers.proofs.Numbering.{owns_least}

-- a part of a seat that has seen just the seeds
pub seeds_seen : (seeds first part tiles : List Place) → SamePlacements seeds first → SamePlacements first part → SamePlacements seeds tiles → SamePlacements part tiles
seeds_seen seeds first part tiles one two put = SamePlacements-trans part first tiles (same_back first part two) (SamePlacements-trans first seeds tiles (same_back seeds first one) put)

-- the numbers that are left
pub rest_is : 2 ^ 64 - 1 - 2 ^ greatest (2 ^ 64 - 1) ≡ 2 ^ 63 - 1
unfolding count_leading_zeros
rest_is = refl

-- they are 63
pub rest_owns : (count : ℕ) → count ≤ 63 → OwnsAtLeast count (2 ^ 64 - 1 - 2 ^ greatest (2 ^ 64 - 1))
rest_owns count few = subst (OwnsAtLeast count) (sym rest_is) (owns_least 63 count few)

-- and not the greatest
pub rest_small : 2 ^ 64 - 1 - 2 ^ greatest (2 ^ 64 - 1) < 2 ^ 63
unfolding count_leading_zeros
rest_small = lit< tt
