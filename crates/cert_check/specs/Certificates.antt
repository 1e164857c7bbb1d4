-- Certificates: for each place of an assembly the sides that are stated to hold it, and a rank.
use Rattle.std.specs.Prelude.{◌≡◌, ◌≢◌, ℕ, ◌+◌, ◌<◌, ◌≤◌, Bool, true, false, not, ◌&&◌, ◌==◌, bit_and, if◌then◌else◌, List, map, Option, Some, slice_get, find, filter, Contains, All}
use Rattle.std.specs.List.{list_any, enumerate_from, zip}
use Rattle.std.specs.Option.{option_map_or}
use Rattle.atam.specs.declared.site.Side.{Side}
use Rattle.atam.specs.declared.site.Side.TheVariants.{North, East, South, West}
use Rattle.atam.specs.declared.site.Site.{Site}
use Rattle.atam.specs.declared.place.TypeId.{TypeId}
use Rattle.atam.specs.declared.place.Place.{Place}
use Rattle.atam.specs.Sites.{neighbor, opposite, directions, same_site}
use Rattle.atam.specs.Placements.{HasDistinctSites, IsPartOf}
use Rattle.atam.specs.TileSystem.{TileSystem, IsType}
use Rattle.atam.specs.Assembly.{bond, pull}
use Rattle.atam.specs.Growth.{IsCandidate}
use Rattle.atam.specs.Determinism.{is_input}
use Rattle.cert_check.specs.declared.entry.Entry.{Entry}

-- the bit of a side
abbrev pub bit_of : Side → ℕ
bit_of North = 1
bit_of East = 2
bit_of South = 4
bit_of West = 8

-- whether an entry states a side
unfoldable pub states : Entry → Side → Bool
states e d = not (bit_and e.sides (bit_of d) == 0)

abbrev pub places_of : List Entry → List Place
places_of c = map (λ e. e.place) c

-- the entries of these places, each with the sides at its index, and with its index as its rank
unfoldable pub entries_in_order : List Place → List ℕ → List Entry
entries_in_order order sides = map (λ e. record { place = e.1.0; sides = e.1.1; rank = e.0 }) (enumerate_from 0 (zip order sides))

-- no two entries have one site, and they state no sides but the four
pub record AreEntries (c : List Entry) : Type 0 where
  pub distinct : HasDistinctSites (places_of c)
  pub sides : All (λ e. e.sides < 16) c

abbrev pub entry_at : List Entry → Site → Option Entry
entry_at c m = find (λ e. same_site e.place.site m) c

-- whether an entry stands beside a site in direction d, and states the side towards it
abbrev pub is_waiting : List Entry → Site → Side → Bool
is_waiting c m d = option_map_or (λ e. states e (opposite d)) (entry_at c (neighbor m d)) false

-- the bond of an entry's tile on a stated side, and their sum
unfoldable pub stated_bond : TileSystem → List Entry → Entry → Side → ℕ
stated_bond sys c e d = if states e d then bond sys (places_of c) e.place.site e.place.tile d else 0

unfoldable pub stated_pull : TileSystem → List Entry → Entry → ℕ
stated_pull sys c e = stated_bond sys c e North + stated_bond sys c e East + stated_bond sys c e South + stated_bond sys c e West

-- the places but that at a site and those beside it that state the side towards it
abbrev pub without_waiting : List Entry → Site → List Place
without_waiting c m =
    filter (λ q. not (same_site q.site m) && not (list_any (λ d. is_waiting c m d && same_site q.site (neighbor m d)) directions)) (places_of c)

-- its place is a seed's
abbrev pub IsSeed : TileSystem → Entry → Type 0
IsSeed sys e = Contains sys.seeds e.place

-- an entry of lesser rank stands beside it on this side, and the bond is positive
pub record IsHeld (sys : TileSystem) (c : List Entry) (e : Entry) (d : Side) : Type 0 where
  pub from : Entry
  pub listed : Contains c from
  pub beside : from.place.site ≡ neighbor e.place.site d
  pub lesser : from.rank < e.rank
  pub bonded : 0 < bond sys (places_of c) e.place.site e.place.tile d

-- an unstated side has a bond, and what stands beside it doesn't state the side towards it
pub record IsLoose (sys : TileSystem) (c : List Entry) (e : Entry) (d : Side) : Type 0 where
  pub unstated : states e d ≡ false
  pub bonded : 0 < bond sys (places_of c) e.place.site e.place.tile d
  pub unanswered : is_waiting c e.place.site d ≡ false

-- another type would be held at its site by the entries that don't wait for it
pub record IsRivalOf (sys : TileSystem) (c : List Entry) (e : Entry) (t : TypeId) : Type 0 where
  pub other : t ≢ e.place.tile
  pub kind : IsType sys t
  pub held : sys.tau ≤ pull sys (without_waiting c e.place.site) e.place.site t

-- the checks of an entry: those of a seed's, those of every other one, and that nothing attaches beside it
abbrev pub StatesNone : Entry → Type 0
StatesNone e = (d : Side) → states e d ≡ false

abbrev pub IsHeldThroughout : TileSystem → List Entry → Entry → Type 0
IsHeldThroughout sys c e = (d : Side) → states e d ≡ true → IsHeld sys c e d

abbrev pub IsHeldExactly : TileSystem → List Entry → Entry → Type 0
IsHeldExactly sys c e = stated_pull sys c e ≡ sys.tau

abbrev pub HasNoLooseBond : TileSystem → List Entry → Entry → Type 0
HasNoLooseBond sys c e = (d : Side) → ¬ IsLoose sys c e d

abbrev pub HasNoRival : TileSystem → List Entry → Entry → Type 0
HasNoRival sys c e = (t : TypeId) → ¬ IsRivalOf sys c e t

abbrev pub IsClosedBeside : TileSystem → List Entry → Entry → Type 0
IsClosedBeside sys c e = (d : Side) (t : TypeId) → ¬ IsCandidate sys (places_of c) (neighbor e.place.site d) t

-- an entry passes them
pub record IsSound (sys : TileSystem) (c : List Entry) (e : Entry) : Type 0 where
  pub bare : IsSeed sys e → StatesNone e
  pub attached : ¬ IsSeed sys e →
      IsHeldThroughout sys c e × IsHeldExactly sys c e × HasNoLooseBond sys c e × HasNoRival sys c e
  pub closed : IsClosedBeside sys c e

-- each seed is an entry's place, and each entry passes
pub record IsGood (sys : TileSystem) (c : List Entry) : Type 0 where
  pub seeds : IsPartOf sys.seeds (places_of c)
  pub sound : (e : Entry) → Contains c e → IsSound sys c e

-- the entries have the places of the sequence in its order, each with its input sides and its index as rank
pub record IsCertificateOf (sys : TileSystem) (s : List Place) (c : List Entry) : Type 0 where
  pub places : places_of c ≡ s
  pub sides : (i : ℕ) (e : Entry) (d : Side) → slice_get c i ≡ Some e → states e d ≡ is_input sys s i d
  pub ranks : (i : ℕ) (e : Entry) → slice_get c i ≡ Some e → e.rank ≡ i
