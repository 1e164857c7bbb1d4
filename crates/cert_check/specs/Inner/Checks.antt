-- What is looked at in turn at an entry of a certificate.
use Rattle.std.specs.Prelude.{◌≡◌, ◌⊎◌, ℕ, ◌+◌, Bool, false, not, ◌&&◌, ◌||◌, nat_lt, if◌then◌else◌, List, Option, Some, None, Result, IfOk}
use Rattle.std.specs.Option.{option_map_or}
use Rattle.atam.specs.declared.site.Side.{Side}
use Rattle.atam.specs.declared.site.Side.TheVariants.{North, East, South, West}
use Rattle.atam.specs.declared.place.GlueId.{GlueId}
use Rattle.atam.specs.Sites.{opposite}
use Rattle.atam.specs.Placements.{SamePlacements}
use Rattle.atam.specs.TileSystem.{TileSystem, IsValid}
use Rattle.atam.specs.Assembly.{Fits}
use Rattle.tile_system.specs.declared.memory.NoMemory.{NoMemory}
use Rattle.attach_rule.specs.declared.bonding.Strengths.{Strengths}
use Rattle.attach_rule.specs.declared.facing.FacingGlues.{FacingGlues}
use Rattle.type_index.specs.Indexes.{IsIndexOf}
use Rattle.type_cache.specs.SideSets.{SideSet}
use Rattle.cert_check.specs.declared.checks.Checker.{Checker}
use Rattle.cert_check.specs.declared.entry.Entry.{Entry}
use Rattle.cert_check.specs.declared.verdict.CertVerdict.{CertVerdict}
use Rattle.cert_check.specs.declared.verdict.CertVerdict.TheVariants.{Yes}
use Rattle.cert_check.specs.declared.listing.EntriesBeside.{EntriesBeside}
use Rattle.cert_check.specs.Certificates.{states, places_of, IsSeed, StatesNone, IsHeldThroughout, IsHeldExactly, HasNoLooseBond, HasNoRival, IsSound}
use Rattle.cert_check.specs.Judgement.{IsFault, IsChunkVerdict}

-- entries that fit a valid system, listed over its box, with its seeds in a grid and an index of its types
pub record CanCheck (checker : Checker) : Type 0 where
  pub valid : IsValid checker.sys.now
  pub area : checker.listing.now.area ≡ checker.sys.now.area
  pub fits : Fits checker.sys.now (places_of checker.listing.now.entries)
  pub grid : checker.seeds.now.area ≡ checker.sys.now.area
  pub seeded : SamePlacements checker.sys.now.seeds checker.seeds.now.tiles
  pub index : IsIndexOf checker.sys.now checker.types.now

-- whether the entry beside another in direction d, if there is one, states the side towards it
abbrev pub waits : Option Entry → Side → Bool
waits beside d = option_map_or (λ f. states f (opposite d)) beside false

-- whether a stated side has a positive bond with an entry of lesser rank
abbrev pub is_held_on : Entry → Side → Option Entry → ℕ → Bool
is_held_on e d beside bond = not (states e d) || (nat_lt 0 bond && option_map_or (λ f. nat_lt f.rank e.rank) beside false)

-- the sides on which the entries beside another wait
abbrev pub waiting_sides : EntriesBeside → SideSet
waiting_sides beside = record {
  north = waits beside.north North;
  east = waits beside.east East;
  south = waits beside.south South;
  west = waits beside.west West;
}

-- whether a side, if it is stated, leads to an entry of lesser rank
abbrev pub is_ranked_on : Entry → Side → Option Entry → Bool
is_ranked_on e d beside = not (states e d) || option_map_or (λ f. nat_lt f.rank e.rank) beside false

-- whether each side does
abbrev pub is_ranked : Entry → EntriesBeside → Bool
is_ranked e beside =
    is_ranked_on e North beside.north && (is_ranked_on e East beside.east
    && (is_ranked_on e South beside.south && is_ranked_on e West beside.west))

-- whether an unstated side has a positive bond with an entry that doesn't wait
abbrev pub is_loose_on : Entry → Side → Option Entry → ℕ → Bool
is_loose_on e d beside bond = not (states e d) && (nat_lt 0 bond && not (waits beside d))

-- whether each stated side has one
abbrev pub is_held : Entry → EntriesBeside → Strengths → Bool
is_held e beside bonds =
    is_held_on e North beside.north bonds.north && (is_held_on e East beside.east bonds.east
    && (is_held_on e South beside.south bonds.south && is_held_on e West beside.west bonds.west))

-- the first unstated side that has one, in the order of the bits
abbrev pub first_loose : Entry → EntriesBeside → Strengths → Option Side
first_loose e beside bonds =
    if is_loose_on e North beside.north bonds.north then Some North
    else if is_loose_on e East beside.east bonds.east then Some East
    else if is_loose_on e South beside.south bonds.south then Some South
    else if is_loose_on e West beside.west bonds.west then Some West
    else None

-- the sum of the strengths on the stated sides
abbrev pub bond_on : Entry → Side → ℕ → ℕ
bond_on e d bond = if states e d then bond else 0

abbrev pub stated_sum : Entry → Strengths → ℕ
stated_sum e bonds = bond_on e North bonds.north + bond_on e East bonds.east + bond_on e South bonds.south + bond_on e West bonds.west

-- the glue that faces a side, unless the entry there waits
abbrev pub kept_glue : Option GlueId → Option Entry → Side → Option GlueId
kept_glue glue beside d = if not (waits beside d) then glue else None

-- the glues of the entries that don't wait
abbrev pub kept_glues : FacingGlues → EntriesBeside → FacingGlues
kept_glues glues beside = record {
  north = kept_glue glues.north beside.north North;
  east = kept_glue glues.east beside.east East;
  south = kept_glue glues.south beside.south South;
  west = kept_glue glues.west beside.west West;
}

-- an entry that isn't a seed's passes the checks of its own sides and site
abbrev pub IsAttached : TileSystem → List Entry → Entry → Type 0
IsAttached sys c e = IsHeldThroughout sys c e × IsHeldExactly sys c e × HasNoLooseBond sys c e × HasNoRival sys c e

-- yes where it passes, or the first check that it fails
abbrev pub IsAttachedVerdict : TileSystem → List Entry → Entry → CertVerdict → Type 0
IsAttachedVerdict sys c e v = ((v ≡ Yes) × IsAttached sys c e) ⊎ IsFault sys c e v

-- an entry passes those that are its own
pub record PassesOwn (sys : TileSystem) (c : List Entry) (e : Entry) : Type 0 where
  pub bare : IsSeed sys e → StatesNone e
  pub attached : ¬ IsSeed sys e → IsAttached sys c e

-- the same of those
abbrev pub IsOwnVerdict : TileSystem → List Entry → Entry → CertVerdict → Type 0
IsOwnVerdict sys c e v = ((v ≡ Yes) × PassesOwn sys c e) ⊎ IsFault sys c e v

-- the same of all checks of the entry
abbrev pub IsEntryVerdict : TileSystem → List Entry → Entry → CertVerdict → Type 0
IsEntryVerdict sys c e v = ((v ≡ Yes) × IsSound sys c e) ⊎ IsFault sys c e v

-- what was found in the entries from one index up to another
pub record IsChecked (sys : TileSystem) (c : List Entry) (start end : ℕ) (v : CertVerdict) : Type 0 where
  pub verdict : IsChunkVerdict sys c start end v

-- what a worker found in its portion of the entries, if it had memory for it
abbrev pub ChecksPortion : TileSystem → List Entry → ℕ → ℕ → ℕ → Result CertVerdict NoMemory → Type 0
ChecksPortion sys c worker start end found = IfOk found (IsChecked sys c start end)
