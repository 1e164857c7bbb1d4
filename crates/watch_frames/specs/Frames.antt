-- Frames of a growth: places in one order, of which each frame has the first ones.
use Rattle.std.specs.Prelude.{◌≡◌, ℕ, zero, suc, ◌<◌, ◌≤◌, List, [], ◌∷◌, ◌++◌, length, take, slice_index, All}
use Rattle.atam.specs.declared.place.Place.{Place}
use Rattle.atam.specs.TileSystem.{TileSystem}
use Rattle.atam.specs.Growth.{IsLegal}
use Rattle.watch_frames.specs.Extensions.{Extends}

-- the places in their order, and how many of them each frame has; there is room for more of both
pub record FrameList : Type 0 where
  pub places : List Place
  pub room : ℕ
  pub counts : List ℕ
  pub most : ℕ

-- few frames, of which none has more than so many places
pub record AreCounts (many : ℕ) (counts : List ℕ) : Type 0 where
  pub few : length counts ≤ 1000
  pub within : All (λ count. count ≤ many) counts

-- the places of a frame
abbrev pub frame_of : List Place → List ℕ → ℕ → List Place
frame_of places counts i = take (slice_index counts i) places

-- and those of the one before it, which before the first one are the seeds
abbrev pub frame_before : TileSystem → List Place → List ℕ → ℕ → List Place
frame_before sys places counts zero = sys.seeds
frame_before sys places counts (suc i) = frame_of places counts i

-- The list is legal, and is that of the last frame. The places of each frame are those of the one before, gone on over the frame's own places.
pub record AreFrames (sys : TileSystem) (places : List Place) (counts : List ℕ) : Type 0 where
  pub legal : IsLegal sys places
  pub last : frame_before sys places counts (length counts) ≡ places
  pub within : (i : ℕ) → i < length counts → slice_index counts i ≤ length places
  pub each : (i : ℕ) → i < length counts → Extends sys (frame_before sys places counts i) (frame_of places counts i) (frame_of places counts i)

-- one frame more: the list goes on over what was seen, and its length is counted
pub record TakesFrame (sys : TileSystem) (seen : List Place) (old new : FrameList) : Type 0 where
  pub goes_on : Extends sys old.places seen new.places
  pub counts : new.counts ≡ old.counts ++ length new.places ∷ []
  pub room : new.room ≡ old.room
  pub most : new.most ≡ old.most
