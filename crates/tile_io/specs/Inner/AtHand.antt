-- The words that a line has at hand.
use Rattle.std.specs.Prelude.{◌≡◌, ◌≢◌, ℕ, ◌<◌, ◌≤◌, List, length, drop, slice_index, slice_range}
use Rattle.tile_io.specs.Lines.{words_of}
use Rattle.tile_io.specs.Checks.{field}

-- a word stands there in a line
pub record StandsAt (line : List ℕ) (start end : ℕ) (word : List ℕ) : Type 0 where
  pub order : start ≤ end
  pub within : end ≤ length line
  pub bytes : slice_range line start end ≡ word

-- so many of the words, where they are among the first eight, start and end there
abbrev pub AreNoted : List ℕ → ℕ → List ℕ → List ℕ → Type 0
AreNoted line count starts ends = (k : ℕ) → k < 8 → k < count → StandsAt line (slice_index starts k) (slice_index ends k) (field (words_of line) k)

-- the number of the words, and where the first eight of them stand
pub record AreAtHand (line : List ℕ) (count : ℕ) (starts ends : List ℕ) : Type 0 where
  pub all : count ≡ length (words_of line)
  pub each : AreNoted line count starts ends

-- so many words were noted, and the others are those of the bytes from a place on
pub record IsCutUpTo (line : List ℕ) (at count : ℕ) (starts ends : List ℕ) : Type 0 where
  pub few : count ≤ length (words_of line)
  pub left : words_of (drop at line) ≡ drop count (words_of line)
  pub starts_size : length starts ≡ 8
  pub ends_size : length ends ≡ 8
  pub each : AreNoted line count starts ends

-- bytes without a space, and behind them a space or the end
pub record IsRun (line : List ℕ) (start end : ℕ) : Type 0 where
  pub order : start ≤ end
  pub within : end ≤ length line
  pub inside : (k : ℕ) → start ≤ k → k < end → slice_index line k ≢ 32
  pub behind : end < length line → slice_index line end ≡ 32
