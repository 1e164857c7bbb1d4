-- Whether a sequence is legal, and the first place that breaks legality.
use Rattle.std.specs.Prelude.{◌≡◌, ◌≢◌, ℕ, ◌<◌, ◌≤◌, List, [], length, take, Some, None, slice_get}
use Rattle.atam.specs.declared.place.TypeId.{TypeId}
use Rattle.atam.specs.declared.place.Place.{Place}
use Rattle.atam.specs.Placements.{tile_at}
use Rattle.atam.specs.TileSystem.{TileSystem}
use Rattle.atam.specs.Assembly as model
use Rattle.atam.specs.Growth.{IsLegal}
use Rattle.atam.specs.declared.legality.Legality.{Legality}
use Rattle.atam.specs.declared.legality.Legality.TheVariants.{Legal, WrongSeed, SiteTaken, TooWeak}

-- a place that is no seed: the places before it are legal, and of the place P is so
pub record IsBreach (sys : TileSystem) (s : List Place) (i : ℕ) (P : Place → Type 0) : Type 0 where
  pub later : length sys.seeds ≤ i
  pub before : IsLegal sys (take i s)
  pub place : Place
  pub there : slice_get s i ≡ Some place
  pub told : P place

-- It is legal; or it has fewer places than there are seeds, or begins with others than the seeds in
-- their order; or this is the first place behind them whose site is taken, or whose site is empty and
-- whose pull, this one, is less than the temperature.
abbrev pub IsLegalityAnswer : TileSystem → List Place → Legality → Type 0
IsLegalityAnswer sys seq Legal = IsLegal sys seq
IsLegalityAnswer sys seq WrongSeed = take (length sys.seeds) seq ≢ sys.seeds
IsLegalityAnswer sys seq (SiteTaken index) =
    IsBreach sys seq index (λ p. (t : TypeId) × (tile_at (take index seq) p.site ≡ Some t))
IsLegalityAnswer sys seq (TooWeak index pull) =
    IsBreach sys seq index (λ p. (tile_at (take index seq) p.site ≡ None)
    × (pull ≡ model.pull sys (take index seq) p.site p.tile) × (pull < sys.tau))

-- the places before the breach, or all
abbrev pub legal_part : List Place → Legality → List Place
legal_part seq Legal = seq
legal_part seq WrongSeed = []
legal_part seq (SiteTaken index) = take index seq
legal_part seq (TooWeak index pull) = take index seq
