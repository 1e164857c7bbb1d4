-- Laws of the verdict.
use Rattle.std.specs.Prelude.{◌≡◌, ◌≤◌, ◌↔◌, List}
use Rattle.atam.specs.declared.place.Place.{Place}
use Rattle.atam.specs.Placements.{HasDistinctSites}
use Rattle.atam.specs.TileSystem.{TileSystem}
use Rattle.atam.specs.Growth.{IsLegal}
use Rattle.atam.specs.Determinism.{HasNoRivals, IsLocallyDeterministic}
use Rattle.atam.specs.declared.verdict.Verdict.{Verdict}
use Rattle.atam.specs.declared.verdict.Verdict.TheVariants.{Yes}
use Rattle.local_check.specs.Judgement.{IsVerdict}
use Rattle.type_cache.specs.Clean.{HasCleanPlaces}

-- a legal sequence of a system whose temperature isn't 0 has a verdict
abbrev pub HasVerdict : Type 0
HasVerdict = (sys : TileSystem) (s : List Place) → 1 ≤ sys.tau → IsLegal sys s → (v : Verdict) × IsVerdict sys s v

-- and no other one
abbrev pub HasOneVerdict : Type 0
HasOneVerdict = (sys : TileSystem) (s : List Place) (v w : Verdict) → IsVerdict sys s v → IsVerdict sys s w → v ≡ w

-- it is yes exactly where the sequence is locally deterministic
abbrev pub IsYesWhereDeterministic : Type 0
IsYesWhereDeterministic = (sys : TileSystem) (s : List Place) (v : Verdict) → IsVerdict sys s v → (v ≡ Yes) ↔ IsLocallyDeterministic sys s

-- where each place of a legal sequence came clean, none has a rival
abbrev pub HasNoRivalsWhereClean : Type 0
HasNoRivalsWhereClean = (sys : TileSystem) (s : List Place) → HasDistinctSites sys.seeds → IsLegal sys s → HasCleanPlaces sys s → HasNoRivals sys s
