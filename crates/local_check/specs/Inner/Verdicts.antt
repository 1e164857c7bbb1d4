-- What the conditions on the places of a sequence say of its verdict.
use Rattle.std.specs.Prelude.{List, Option, MatchOption}
use Rattle.atam.specs.declared.place.Place.{Place}
use Rattle.atam.specs.declared.verdict.Verdict.{Verdict}
use Rattle.atam.specs.TileSystem.{TileSystem}
use Rattle.atam.specs.Determinism.{HasExactInputs, HasNoRivals}
use Rattle.local_check.specs.Judgement.{IsVerdict}

-- the verdict that the first or the second condition fails, or none where both hold
abbrev pub FindsBreach : TileSystem → List Place → Option Verdict → Type 0
FindsBreach sys s found =
    MatchOption found (HasExactInputs sys s × HasNoRivals sys s) (IsVerdict sys s)
