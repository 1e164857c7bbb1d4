-- What a system grew into, and what is told of it.
use Rattle.std.proofs.Common.{◌≡◌, All, List, ap, refl, subst}
use Rattle.atam.specs.declared.place.Place.{Place}
use Rattle.atam.specs.declared.area.BoxArea.{BoxArea}
use Rattle.atam.specs.Sites.{InBox}
use Rattle.atam.specs.TileSystem.{TileSystem}
use Rattle.atam.specs.Assembly.{Fits}
use Rattle.atam.specs.Growth.{IsProducible}
use Rattle.atam.proofs.Canon.{producible_types}
use Rattle.site_table.specs.Seats.{GrownValue}
use Rattle.local_check.specs.declared.once.Judged.{Judged}
use Rattle.local_check.specs.declared.once.Judged.TheVariants.{Legal, Breach}
use Rattle.local_check.specs.Judged.{IsJudged}
use Rattle.local_check.proofs.Verdicts.{verdict_types}
use Rattle.tilebench.specs.declared.growth.Growth.{Growth}
use Rattle.tilebench.specs.Commands.Grow.{IsGrowthText}
use Rattle.job_board.specs.AnswerText.{growth_text, is_unique}
use Rattle.tilebench.specs.Growths.{IsGrowth}
use Rattle.tilebench.specs.Inner.Rooms.{GrowsTo, NamesItsTypes, outcome_of}

-- a producible assembly in the box is of types of its system
pub producible_fits : (sys : TileSystem) (area : BoxArea) (tiles : List Place) → area ≡ sys.area → All (λ p. InBox area p.site) tiles → IsProducible sys tiles → Fits sys tiles
producible_fits sys area tiles same inside producible = record {
  types = producible_types sys tiles producible;
  sites = subst (λ (a : BoxArea). All (λ p. InBox a p.site) tiles) same inside;
}

-- the type that the judgement on a sequence names is one of its system
pub judged_types : (sys : TileSystem) (s : List Place) (judged : Judged) → IsJudged sys s judged → NamesItsTypes sys judged
judged_types sys s (Legal verdict) judged = verdict_types sys s verdict judged.1
judged_types sys s (Breach breach) judged = tt

-- what a system grew into is told by its text
pub growth_told : (sys : TileSystem) (table : GrownValue) (growth : Growth) → GrowsTo sys table.grid.tiles growth →
    IsGrowthText sys table (is_unique growth.verdict) (growth_text growth.sys (outcome_of growth))
growth_told sys table growth grows = record {
  outcome = outcome_of growth;
  grown = subst (λ (s : TileSystem). IsGrowth s table.grid.tiles (outcome_of growth)) grows.same grows.grown;
  printed = ap (λ (s : TileSystem). growth_text s (outcome_of growth)) grows.same;
  answer = refl;
}
