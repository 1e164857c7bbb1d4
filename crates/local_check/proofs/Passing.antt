-- No place of a legal sequence breaks legality.
use Rattle.std.proofs.Common.{◌≢◌, List, refl}
use Rattle.atam.specs.declared.place.Place.{Place}
use Rattle.atam.specs.declared.legality.Legality.{Legality}
use Rattle.atam.specs.declared.legality.Legality.TheVariants as legality
use Rattle.atam.specs.TileSystem.{TileSystem}
use Rattle.atam.specs.Growth.{IsLegal}
use Rattle.replay_order.specs.Legalities.{IsLegalityAnswer}
use Rattle.replay_order.proofs.Sequences.{taken_illegal, weak_illegal}

pub breach_illegal : (sys : TileSystem) (s : List Place) (breach : Legality) →
    breach ≢ legality.Legal → IsLegalityAnswer sys s breach → ¬ IsLegal sys s
breach_illegal sys s legality.Legal other is legal = other refl
breach_illegal sys s legality.WrongSeed other is legal = is legal.seeds
breach_illegal sys s (legality.SiteTaken index) other is legal = taken_illegal sys s index is legal
breach_illegal sys s (legality.TooWeak index pull) other is legal =
    weak_illegal sys s index pull is legal
