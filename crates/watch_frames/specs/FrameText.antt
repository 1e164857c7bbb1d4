-- The text of frames, and the answer of a watched growth.
use Rattle.std.specs.Prelude.{◌≡◌, ℕ, ◌+◌, List, [], ◌∷◌, ◌++◌, codes, decimal, take, drop}
use Rattle.tile_io.specs.Lines.{line_of}
use Rattle.atam.specs.declared.place.Place.{Place}
use Rattle.atam.specs.TileSystem.{TileSystem}
use Rattle.seq_text.specs.GrowthLines.{place_lines}
use Rattle.watch_frames.specs.Watched.{IsWatched}

-- The frames with these counts, from one with this number on, behind so many places: of each its
-- number and how many places it has, and then the places that it adds.
abbrev pub frame_lines : TileSystem → List Place → ℕ → ℕ → List ℕ → List ℕ
frame_lines sys places number before [] = []
frame_lines sys places number before (count ∷ counts) =
    line_of (codes "frame" ∷ decimal number ∷ decimal count ∷ [])
    ++ place_lines sys (drop before (take count places))
    ++ frame_lines sys places (number + 1) count counts

-- all frames, of which the first one tells of all its places, and then that all is grown
abbrev pub frames_text : TileSystem → List Place → List ℕ → List ℕ
frames_text sys places counts = frame_lines sys places 1 0 counts ++ line_of (codes "grown" ∷ [])

-- So many frames of a growth into these tiles: their text, and behind it a text of the growth itself
pub record IsWatchAnswer (IsGrowthText : List ℕ → Type 0) (sys : TileSystem) (many : ℕ) (tiles : List Place) (out : List ℕ) : Type 0 where
  pub places : List Place
  pub counts : List ℕ
  pub watched : IsWatched sys many places counts tiles
  pub growth : List ℕ
  pub grown : IsGrowthText growth
  pub text : out ≡ frames_text sys places counts ++ growth
