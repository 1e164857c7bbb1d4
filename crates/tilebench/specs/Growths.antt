-- What a system grows into.
use Rattle.std.specs.Prelude.{List}
use Rattle.atam.specs.declared.place.Place.{Place}
use Rattle.atam.specs.TileSystem.{TileSystem}
use Rattle.replay_order.specs.ReplayAnswers.{IsWholeOrder}
use Rattle.unique_law.specs.Outcomes.{Outcome, IsOutcome}

-- The system grew into these tiles with this outcome: their canonical sequence is a legal one with exactly their
-- placements, which fit the system.
pub record IsGrowth (sys : TileSystem) (tiles : List Place) (outcome : Outcome) : Type 0 where
  pub outcome_is : IsOutcome sys tiles outcome
  pub ordered : IsWholeOrder sys tiles outcome.order
