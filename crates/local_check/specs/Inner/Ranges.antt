-- Where the places of a range of a sequence first break a condition.
use Rattle.std.specs.Prelude.{◌≡◌, ℕ, ◌<◌, ◌≤◌, List, length, take, Option, Some, slice_get, MatchOption}
use Rattle.atam.specs.declared.site.Site.{Site}
use Rattle.atam.specs.declared.place.TypeId.{TypeId}
use Rattle.atam.specs.declared.place.Place.{Place}
use Rattle.atam.specs.TileSystem.{TileSystem}
use Rattle.atam.specs.Assembly.{pull}
use Rattle.atam.specs.Determinism.{IsExact, IsRival}
use Rattle.local_check.specs.Firsts.{IsLeast}

-- each place from one index to before another, but the seeds, is held by exactly the temperature
abbrev pub AllExactIn : TileSystem → List Place → ℕ → ℕ → Type 0
AllExactIn sys s start end = (i : ℕ) (p : Place) → length sys.seeds ≤ i → start ≤ i → i < end → slice_get s i ≡ Some p → IsExact sys s i p

-- no place from one index to before another, but the seeds, has a rival
abbrev pub NoRivalIn : TileSystem → List Place → ℕ → ℕ → Type 0
NoRivalIn sys s start end = (i : ℕ) (p : Place) (t : TypeId) → length sys.seeds ≤ i → start ≤ i → i < end → slice_get s i ≡ Some p → ¬ IsRival sys s i p t

-- the first place from an index on, but for the seeds, that isn't held by exactly the temperature: its site, and the sum that holds it
pub record IsInexactFrom (sys : TileSystem) (s : List Place) (start : ℕ) (m : Site) (sum : ℕ) : Type 0 where
  pub index : ℕ
  pub place : Place
  pub from : start ≤ index
  pub later : length sys.seeds ≤ index
  pub there : slice_get s index ≡ Some place
  pub site : place.site ≡ m
  pub pull : pull sys (take index s) place.site place.tile ≡ sum
  pub inexact : ¬ IsExact sys s index place
  pub first : AllExactIn sys s start index

-- what is found by a search of the places from one index to before another: none where each is held exactly
abbrev pub FindsInexactIn : TileSystem → List Place → ℕ → ℕ → Option (Site × ℕ) → Type 0
FindsInexactIn sys s start end found = MatchOption found (AllExactIn sys s start end) (λ first. IsInexactFrom sys s start first.0 first.1)

-- the first place from an index on, but for the seeds, that has a rival: its site, and its first rival
pub record IsRivalFrom (sys : TileSystem) (s : List Place) (start : ℕ) (m : Site) (t : TypeId) : Type 0 where
  pub index : ℕ
  pub place : Place
  pub from : start ≤ index
  pub later : length sys.seeds ≤ index
  pub there : slice_get s index ≡ Some place
  pub site : place.site ≡ m
  pub rival : IsLeast (IsRival sys s index place) (λ u. u.0) t
  pub first : NoRivalIn sys s start index

-- what is found by a search of the places from one index to before another: none where none has a rival
abbrev pub FindsRivalIn : TileSystem → List Place → ℕ → ℕ → Option (Site × TypeId) → Type 0
FindsRivalIn sys s start end found = MatchOption found (NoRivalIn sys s start end) (λ first. IsRivalFrom sys s start first.0 first.1)
