-- The first item of a list of which something isn't so, and the least of all of which something is.
use Rattle.std.specs.Prelude.{◌≡◌, ℕ, ◌<◌, ◌≤◌, List, Some, slice_get}

-- the first item of a list, from an index on, of which P isn't so, and Q is so of it
pub record IsFirstNot {A : Type 0} (list : List A) (from : ℕ) (P Q : ℕ → A → Type 0) : Type 0 where
  pub index : ℕ
  pub item : A
  pub later : from ≤ index
  pub there : slice_get list index ≡ Some item
  pub fails : ¬ P index item
  pub told : Q index item
  pub before : (k : ℕ) (x : A) → from ≤ k → k < index → slice_get list k ≡ Some x → P k x

-- P is so of it, and of nothing else with a lesser number
pub record IsLeast {A : Type 0} (P : A → Type 0) (number : A → ℕ) (x : A) : Type 0 where
  pub holds : P x
  pub least : (y : A) → P y → number x ≤ number y
