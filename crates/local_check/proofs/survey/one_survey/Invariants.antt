use Rattle.std.proofs.Common.{ℕ, List}
use Rattle.atam.specs.declared.place.Place.{Place}
use Rattle.atam.specs.TileSystem.{TileSystem}
use Rattle.fan_out.specs.Portions.{InARow}
use Rattle.local_check.specs.Inner.Portions.{SurveysPortion}
use Rattle.local_check.specs.Inner.Surveys.{IsSurvey}
use Rattle.local_check.proofs.survey.one_survey.Given as goal

-- the portions before some place are united, and the others follow
abbrev pub invariant-loop-survey : goal.invariant-loop-survey
invariant-loop-survey l =
    (sys : TileSystem) (s : List Place) (end : ℕ) → InARow (SurveysPortion sys s) 0 0 end l.fn.surveys.items →
    (worker middle : ℕ) × IsSurvey sys s 0 middle l.whole × InARow (SurveysPortion sys s) worker middle end l.survey-iterator.rest.items
