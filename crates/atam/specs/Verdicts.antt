-- What a verdict names.
use Rattle.atam.specs.TileSystem.{TileSystem, IsType}
use Rattle.atam.specs.declared.verdict.Verdict.{Verdict}
use Rattle.atam.specs.declared.verdict.Verdict.TheVariants.{Yes, NotExact, Rival, NotTerminal}

-- a type that the verdict names is one of the system
abbrev pub NamesTypes : TileSystem → Verdict → Type 0
NamesTypes sys Yes = Unit {0}
NamesTypes sys (NotExact m sum) = Unit {0}
NamesTypes sys (Rival m t) = IsType sys t
NamesTypes sys (NotTerminal m t) = IsType sys t
