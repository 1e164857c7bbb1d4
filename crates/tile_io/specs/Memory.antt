-- Sources and sinks over memory, and the calls at which they fail.
use Rattle.std.specs.Prelude.{◌≡◌, ℕ, ◌^◌, ◌<◌, List, length, Contains}

-- a source: the bytes left, the most that a call gives, and the numbers of the calls that fail
pub record MemoryInput : Type 0 where
  pub left : List ℕ
  pub most : ℕ
  pub fails : List ℕ
  pub calls : ℕ
  pub faults : ℕ

-- a sink: the bytes written, how many it has room for, the most that a call takes, and the numbers of the calls that fail
pub record MemoryOutput : Type 0 where
  pub written : List ℕ
  pub room : ℕ
  pub most : ℕ
  pub fails : List ℕ
  pub calls : ℕ
  pub faults : ℕ

-- a call of this number fails, where the numbers of such calls are 32 bits wide
abbrev pub FailsAt : List ℕ → ℕ → Type 0
FailsAt fails call = (call < 2 ^ 32) × Contains fails call

-- there is no room for any of a piece
abbrev pub IsFullFor : MemoryOutput → List ℕ → Type 0
IsFullFor output piece = (length output.written ≡ output.room) × (0 < length piece)
