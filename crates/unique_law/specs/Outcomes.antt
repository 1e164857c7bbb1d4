-- What is told of a producible assembly that nothing extends in the box.
use Rattle.std.specs.Prelude.{List, Option}
use Rattle.atam.specs.declared.site.Site.{Site}
use Rattle.atam.specs.declared.place.TypeId.{TypeId}
use Rattle.atam.specs.declared.place.Place.{Place}
use Rattle.atam.specs.Placements.{SamePlacements}
use Rattle.atam.specs.TileSystem.{TileSystem}
use Rattle.atam.specs.Growth.{IsFullGrowth, IsLeastOpenOutside}
use Rattle.atam.specs.Canonical.{IsCanonical}
use Rattle.atam.specs.Determinism.{IsLocallyDeterministic}
use Rattle.atam.specs.declared.verdict.Verdict.{Verdict}
use Rattle.local_check.specs.Judgement.{IsVerdict}

-- a canonical sequence, the least open site outside the box, and the verdict on the sequence
pub record Outcome : Type 0 where
  pub order : List Place
  pub outside : Option (Site × TypeId)
  pub verdict : Verdict

-- those of a full growth
pub record IsOutcome (sys : TileSystem) (tiles : List Place) (outcome : Outcome) : Type 0 where
  pub full : IsFullGrowth sys tiles
  pub canonical : IsCanonical sys tiles outcome.order
  pub least : IsLeastOpenOutside sys tiles outcome.outside
  pub judged : IsVerdict sys outcome.order outcome.verdict

-- some order of exactly these placements is locally deterministic
pub record IsDeterministicInSomeOrder (sys : TileSystem) (tiles : List Place) : Type 0 where
  pub sequence : List Place
  pub deterministic : IsLocallyDeterministic sys sequence
  pub same : SamePlacements sequence tiles
