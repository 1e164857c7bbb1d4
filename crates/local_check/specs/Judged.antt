-- What is found of a sequence: the verdict on a legal one, or what breaks legality first.
use Rattle.std.specs.Prelude.{◌≢◌, List}
use Rattle.atam.specs.declared.place.Place.{Place}
use Rattle.atam.specs.TileSystem.{TileSystem}
use Rattle.atam.specs.Growth.{IsLegal}
use Rattle.atam.specs.declared.legality.Legality.TheVariants as legality
use Rattle.replay_order.specs.Legalities.{IsLegalityAnswer}
use Rattle.local_check.specs.declared.once.Judged.{Judged}
use Rattle.local_check.specs.declared.once.Judged.TheVariants.{Legal, Breach}
use Rattle.local_check.specs.Judgement.{IsVerdict}

abbrev pub IsJudged : TileSystem → List Place → Judged → Type 0
IsJudged sys s (Legal verdict) = IsLegal sys s × IsVerdict sys s verdict
IsJudged sys s (Breach breach) = (breach ≢ legality.Legal) × IsLegalityAnswer sys s breach
