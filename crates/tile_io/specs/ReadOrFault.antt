-- Of reading and having a fault, a text does one.
use Rattle.std.specs.Prelude.{◌≡◌, ◌⊎◌, ℕ, List}
use Rattle.tile_io.specs.declared.fault.Cause.{Cause}
use Rattle.tile_io.specs.declared.mark.Mark.{Mark}
use Rattle.tile_io.specs.NextLine.{IsMark}
use Rattle.tile_io.specs.Formats.{Format, Reads, Fault, IsRead, IsFaulty}

-- Each text, from each mark, reads, as one list of items and up to one mark, or has one fault.
pub record ReadsOrFails {Item : Type 0} (format : Format Item) : Type 0 where
  pub one : (text : List ℕ) (from : Mark) → IsRead format text from ⊎ IsFaulty format text from
  pub not_both : (text : List ℕ) (from to : Mark) (items : List Item) (number : ℕ) (cause : Cause) → Reads format text from items to → Fault format text from number cause → ⊥
  pub one_reading : (text : List ℕ) (from s t : Mark) (a b : List Item) → Reads format text from a s → Reads format text from b t → (a ≡ b) × (s ≡ t)
  pub to_a_mark : (text : List ℕ) (from to : Mark) (items : List Item) → IsMark text from → Reads format text from items to → IsMark text to
  pub one_fault : (text : List ℕ) (from : Mark) (m n : ℕ) (a b : Cause) → Fault format text from m a → Fault format text from n b → (m ≡ n) × (a ≡ b)
