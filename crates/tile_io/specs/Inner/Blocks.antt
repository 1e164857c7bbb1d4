-- What comes of a text block by block.
use Rattle.std.specs.Prelude.{◌≡◌, ◌⊎◌, ◌≤◌, ◌<◌, ◌+◌, ◌++◌, ℕ, Bool, true, false, List, [], ◌∷◌, length, Option, Result, Ok, Err}
use Rattle.std.specs.Io.KnownBytes.{Consumes, IsAtEnd}
use Rattle.tile_io.specs.declared.limits.TheConstants.{MOST_INPUT}
use Rattle.tile_io.specs.declared.whole.ReadStop.{ReadStop}
use Rattle.tile_io.specs.declared.whole.ReadStop.TheVariants.{Failed, TooLong, NoMemory}
use Rattle.tile_io.specs.Faults.{Rose}

-- nothing, or lines that a newline ends
abbrev pub IsEnded : List ℕ → Type 0
IsEnded text = (text ≡ []) ⊎ ((before : List ℕ) × (text ≡ before ++ 10 ∷ []))

-- the source is at its end, or some bytes came
abbrev pub EndsOrCame : Bool → Option (List ℕ) → List ℕ → Type 0
EndsOrCame true left more = IsAtEnd left
EndsOrCame false left more = 0 < length more

module _ {S : Type 0} (left : S → Option (List ℕ)) (faults : S → ℕ) where
  -- why a text of which so many bytes came before does not come whole
  abbrev pub StopsComing : ℕ → S → S → ReadStop → Type 0
  StopsComing came old new Failed = ((more : List ℕ) × Consumes (left old) (left new) more × (came + length more ≤ MOST_INPUT)) × Rose (faults old) (faults new)
  StopsComing came old new TooLong = ((more : List ℕ) × Consumes (left old) (left new) more × (came + length more ≡ MOST_INPUT + 1)) × (faults old ≤ faults new)
  StopsComing came old new NoMemory = ((more : List ℕ) × Consumes (left old) (left new) more × (came + length more ≤ MOST_INPUT)) × (faults old ≤ faults new)

  -- bytes of it that came
  pub record Comes (came came_after : ℕ) (more : List ℕ) (old new : S) : Type 0 where
    pub taken : Consumes (left old) (left new) more
    pub count : came_after ≡ came + length more
    pub short : came_after ≤ MOST_INPUT
    pub later : faults old ≤ faults new

  -- a block more stands behind the bytes that were kept
  abbrev pub ReadsBlock : List ℕ → List ℕ → ℕ → ℕ → S → S → Result Bool ReadStop → Type 0
  ReadsBlock kept kept_after came came_after old new (Ok is_end) = (more : List ℕ) × Comes came came_after more old new × (kept_after ≡ kept ++ more) × EndsOrCame is_end (left new) more
  ReadsBlock kept kept_after came came_after old new (Err stop) = StopsComing came old new stop

  -- all that was left came
  abbrev pub PassesRest : ℕ → S → S → Result (Unit {0}) ReadStop → Type 0
  PassesRest came old new (Ok _) = (more : List ℕ) × Comes came (came + length more) more old new × IsAtEnd (left new)
  PassesRest came old new (Err stop) = StopsComing came old new stop
