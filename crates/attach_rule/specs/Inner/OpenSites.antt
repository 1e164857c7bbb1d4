-- Open sites that were found, by their order.
use Rattle.std.specs.Prelude.{Option, Some, None}
use Rattle.atam.specs.declared.site.Site.{Site}
use Rattle.atam.specs.declared.place.TypeId.{TypeId}
use Rattle.atam.specs.Sites.{IsBefore}

-- a site was found, and no other or a later one
abbrev pub Precedes : Option (Site × TypeId) → Option (Site × TypeId) → Type 0
Precedes None other = ⊥
Precedes (Some found) None = Unit {0}
Precedes (Some found) (Some other) = IsBefore found.0 other.0
