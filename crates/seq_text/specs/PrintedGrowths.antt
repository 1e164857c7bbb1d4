-- The text of a growth as it is printed: its places, and then maybe what is open outside the box and the line on local determinism.
use Rattle.std.specs.Prelude.{◌^◌, ◌<◌, ℕ, List, [], ◌++◌, IfSome, Option, Some, None}
use Rattle.atam.specs.declared.site.Site.{Site}
use Rattle.atam.specs.declared.place.TypeId.{TypeId}
use Rattle.atam.specs.declared.place.Place.{Place}
use Rattle.atam.specs.Sites.{IsNearSite}
use Rattle.atam.specs.Assembly.{Fits}
use Rattle.atam.specs.TileSystem.{TileSystem, IsType}
use Rattle.atam.specs.declared.verdict.Verdict.{Verdict}
use Rattle.atam.specs.declared.verdict.Verdict.TheVariants.{Yes, NotExact, Rival, NotTerminal}
use Rattle.seq_text.specs.GrowthLines.{place_lines, closed_line}
use Rattle.seq_text.specs.VerdictLines.{verdict_line}

-- a line, where there is one
abbrev pub line_or_none : {X : Type 0} → (X → List ℕ) → Option X → List ℕ
line_or_none line None = []
line_or_none line (Some x) = line x

abbrev pub growth_lines : TileSystem → List Place → Option (Option (Site × TypeId)) → Option Verdict → List ℕ
growth_lines sys places closed verdict = place_lines sys places ++ line_or_none (closed_line sys) closed ++ line_or_none (verdict_line sys) verdict

-- nothing is open outside the box, or a type of the system at a site near it
abbrev pub MayBeOpen : TileSystem → Option (Site × TypeId) → Type 0
MayBeOpen sys found = IfSome found (λ open_site. IsType sys open_site.1 × IsNearSite open_site.0)

-- the verdict speaks of a site near the box, of a type of the system, and of a sum of the machine's numbers
abbrev pub MayBeTold : TileSystem → Verdict → Type 0
MayBeTold sys Yes = Unit {0}
MayBeTold sys (NotExact m sum) = IsNearSite m × (sum < 2 ^ 32)
MayBeTold sys (Rival m t) = IsNearSite m × IsType sys t
MayBeTold sys (NotTerminal m t) = IsNearSite m × IsType sys t

-- what may be printed of a growth in the system's box
pub record MayBePrinted (sys : TileSystem) (places : List Place) (closed : Option (Option (Site × TypeId))) (verdict : Option Verdict) : Type 0 where
  pub fits : Fits sys places
  pub open_site : IfSome closed (MayBeOpen sys)
  pub told : IfSome verdict (MayBeTold sys)
