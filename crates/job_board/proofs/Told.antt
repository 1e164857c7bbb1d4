-- What is known of a full growth and its canonical sequence.
use Rattle.std.proofs.Common.{All, List, IfSome}
use Rattle.atam.specs.declared.place.Place.{Place}
use Rattle.atam.specs.TileSystem.{TileSystem, IsType}
use Rattle.atam.specs.Assembly.{Fits}
use Rattle.atam.specs.Growth.{IsFullGrowth, IsLegal}
use Rattle.atam.specs.Canonical.{IsCanonical}
use Rattle.atam.specs.Placements.{HasDistinctSites, SamePlacements}
use Rattle.atam.proofs.Canon.{canonical_IsLegal, canonical_same, producible_types}
use Rattle.atam.proofs.Opening.{Fits-part}
use Rattle.atam.specs.Verdicts.{NamesTypes}
use Rattle.local_check.proofs.Verdicts.{verdict_types}
use Rattle.seq_text.proofs.NamedTypes.{open_type}
use Rattle.unique_law.specs.Outcomes.{Outcome}
use Rattle.job_board.specs.Answers.{Answers}

-- it fits its system
pub full_fits : (sys : TileSystem) (tiles : List Place) → IsFullGrowth sys tiles → Fits sys tiles
full_fits sys tiles full = record { types = producible_types sys tiles full.producible; sites = full.inside }

-- the sequence has exactly its placements
pub order_same : (sys : TileSystem) (tiles order : List Place) → HasDistinctSites sys.seeds → IsFullGrowth sys tiles → IsCanonical sys tiles order → SamePlacements order tiles
order_same sys tiles order seeds full canonical = canonical_same sys tiles order seeds full.distinct full.producible canonical

-- so it fits too
pub order_fits : (sys : TileSystem) (tiles order : List Place) → HasDistinctSites sys.seeds → IsFullGrowth sys tiles → IsCanonical sys tiles order → Fits sys order
order_fits sys tiles order seeds full canonical = Fits-part sys order tiles (order_same sys tiles order seeds full canonical).part (full_fits sys tiles full)

-- and it is legal
pub order_legal : (sys : TileSystem) (tiles order : List Place) → HasDistinctSites sys.seeds → IsFullGrowth sys tiles → IsCanonical sys tiles order → IsLegal sys order
order_legal sys tiles order seeds full canonical = canonical_IsLegal sys tiles order full.distinct (producible_types sys tiles full.producible) seeds canonical

-- an answer is of types of its system
pub answer_order : (sys : TileSystem) (outcome : Outcome) → HasDistinctSites sys.seeds → Answers sys outcome → All (λ p. IsType sys p.tile) outcome.order
answer_order sys outcome seeds answers = (order_fits sys answers.tiles outcome.order seeds answers.told.full answers.told.canonical).types

pub answer_outside : (sys : TileSystem) (outcome : Outcome) → Answers sys outcome → IfSome outcome.outside (λ found. IsType sys found.1)
answer_outside sys outcome answers = open_type sys answers.tiles outcome.outside answers.told.least

pub answer_verdict : (sys : TileSystem) (outcome : Outcome) → Answers sys outcome → NamesTypes sys outcome.verdict
answer_verdict sys outcome answers = verdict_types sys outcome.order outcome.verdict answers.told.judged
