-- Systems with one seed and no pair of unlike glues, in the words in which the model is mostly written.
use Rattle.std.specs.Prelude.{◌≡◌, ◌≢◌, ℕ, ◌+◌, ◌≤◌, ◌↔◌, Bool, false, not, ◌&&◌, ◌==◌, nat_lt, if◌then◌else◌, List, [], ◌∷◌, take, Option, Some, None, slice_get, filter, All}
use Rattle.std.specs.List.{list_any}
use Rattle.std.specs.Option.{option_map_or}
use Rattle.atam.specs.declared.site.Side.{Side}
use Rattle.atam.specs.declared.site.Side.TheVariants.{North, East, South, West}
use Rattle.atam.specs.declared.site.Site.{Site}
use Rattle.atam.specs.declared.place.GlueId.{GlueId}
use Rattle.atam.specs.declared.place.TypeId.{TypeId}
use Rattle.atam.specs.declared.place.Place.{Place}
use Rattle.atam.specs.Sites.{neighbor, opposite, directions, same_site}
use Rattle.atam.specs.TileSystem.{TileSystem, IsType, side_glue, strength_of}
use Rattle.atam.specs.Placements.{tile_at}
use Rattle.atam.specs.Assembly.{interaction, glue_at, bond, pull}
use Rattle.atam.specs.Growth.{IsLegal}
use Rattle.atam.specs.Determinism.{index_at, IsLocallyDeterministic}

-- equal glues interact with their strength, unlike ones with 0, and a side without a glue never does
abbrev pub equal_glues : TileSystem → Option GlueId → Option GlueId → ℕ
equal_glues sys None b = 0
equal_glues sys (Some g) None = 0
equal_glues sys (Some g) (Some h) = if g.0 == h.0 then strength_of sys g else 0

-- the strength that a tile of type t at m so has with the tile beside it in direction d
abbrev pub equal_bond : TileSystem → List Place → Site → TypeId → Side → ℕ
equal_bond sys tiles m t d = equal_glues sys (side_glue sys t d) (glue_at sys tiles (neighbor m d) (opposite d))

-- the sum over the four directions
abbrev pub equal_pull : TileSystem → List Place → Site → TypeId → ℕ
equal_pull sys tiles m t = equal_bond sys tiles m t North + equal_bond sys tiles m t East + equal_bond sys tiles m t South + equal_bond sys tiles m t West

-- the site is empty, and the sum is at least the temperature
pub record AttachesByEqual (sys : TileSystem) (tiles : List Place) (m : Site) (t : TypeId) : Type 0 where
  pub empty : tile_at tiles m ≡ None
  pub held : sys.tau ≤ equal_pull sys tiles m t

-- it begins with the seed, and each later tile attaches to those before it
pub record IsLegalFrom (sys : TileSystem) (seed : Place) (s : List Place) : Type 0 where
  pub first : slice_get s 0 ≡ Some seed
  pub types : All (λ p. IsType sys p.tile) s
  pub each : (i : ℕ) (p : Place) → 1 ≤ i → slice_get s i ≡ Some p → AttachesByEqual sys (take i s) p.site p.tile

-- whether side d of place i bonds with a tile placed before it: whether it is in IN of the place
abbrev pub is_in : TileSystem → List Place → ℕ → Side → Bool
is_in sys s i d = option_map_or (λ p. nat_lt 0 (equal_bond sys (take i s) p.site p.tile d)) (slice_get s i) false

-- whether the neighbour at side d of place i so bonds with it: whether d is in OUT of the place
abbrev pub is_out : TileSystem → List Place → ℕ → Side → Bool
is_out sys s i d = option_map_or (λ p. option_map_or (λ j. is_in sys s j (opposite d)) (index_at s (neighbor p.site d)) false) (slice_get s i) false

-- the sequence without place i, at m, and the neighbours at the sides in its OUT
abbrev pub without_out : TileSystem → List Place → ℕ → Site → List Place
without_out sys s i m = filter (λ q. not (same_site q.site m) && not (list_any (λ d. is_out sys s i d && same_site q.site (neighbor m d)) directions)) s

-- each tile but the first is held by exactly the temperature, and by none of another type in its place, and nothing attaches to them all
pub record IsLocallyDeterministicFrom (sys : TileSystem) (seed : Place) (s : List Place) : Type 0 where
  pub legal : IsLegalFrom sys seed s
  pub exact : (i : ℕ) (p : Place) → 1 ≤ i → slice_get s i ≡ Some p → equal_pull sys (take i s) p.site p.tile ≡ sys.tau
  pub no_rival : (i : ℕ) (p : Place) (t : TypeId) → 1 ≤ i → slice_get s i ≡ Some p → t ≢ p.tile → IsType sys t → ¬ AttachesByEqual sys (without_out sys s i p.site) p.site t
  pub terminal : (m : Site) (t : TypeId) → IsType sys t → ¬ AttachesByEqual sys s m t

-- without pairs only equal glues interact
abbrev pub OnlyEqualGluesInteract : Type 0
OnlyEqualGluesInteract = (sys : TileSystem) (a b : Option GlueId) → sys.pairs ≡ [] → interaction sys a b ≡ equal_glues sys a b

-- so bonds and pulls are those of equal glues
abbrev pub BondsAreOfEqualGlues : Type 0
BondsAreOfEqualGlues = (sys : TileSystem) (tiles : List Place) (m : Site) (t : TypeId) → sys.pairs ≡ [] →
    ((d : Side) → bond sys tiles m t d ≡ equal_bond sys tiles m t d) × (pull sys tiles m t ≡ equal_pull sys tiles m t)

-- with one seed as well, a sequence is legal where it is so from the seed
abbrev pub IsLegalFromOneSeed : Type 0
IsLegalFromOneSeed = (sys : TileSystem) (seed : Place) (s : List Place) → sys.pairs ≡ [] → sys.seeds ≡ seed ∷ [] → IsLegal sys s ↔ IsLegalFrom sys seed s

-- and locally deterministic where it is so from the seed
abbrev pub IsDeterministicFromOneSeed : Type 0
IsDeterministicFromOneSeed = (sys : TileSystem) (seed : Place) (s : List Place) → sys.pairs ≡ [] → sys.seeds ≡ seed ∷ [] →
    IsLocallyDeterministic sys s ↔ IsLocallyDeterministicFrom sys seed s
