-- Surveys of portions of the places of a sequence.
use Rattle.std.specs.Prelude.{ℕ, List, Result, IfOk}
use Rattle.atam.specs.declared.place.Place.{Place}
use Rattle.tile_system.specs.declared.memory.NoMemory.{NoMemory}
use Rattle.atam.specs.TileSystem.{TileSystem}
use Rattle.local_check.specs.declared.survey.Survey.{Survey}
use Rattle.local_check.specs.Inner.Surveys.{IsSurvey}

-- what a worker found in its portion, if it had memory for it
abbrev pub SurveysPortion : TileSystem → List Place → ℕ → ℕ → ℕ → Result Survey NoMemory → Type 0
SurveysPortion sys s worker start end found = IfOk found (IsSurvey sys s start end)
