-- Numbers whose least one may be kept apart from the others.
use Rattle.std.specs.Prelude.{◌≡◌, ◌≢◌, ◌⊎◌, ◌↔◌, ◌<◌, ◌≤◌, ℕ, Option, Some, IfSome}
use Rattle.number_set.specs.Numbers.{Numbers, IsIn}

pub record ReadyNumbers : Type 0 where
  pub least : Option ℕ
  pub others : Numbers

-- the number is the one that is kept apart, or among the others
abbrev pub IsAmong : ReadyNumbers → ℕ → Type 0
IsAmong ready n = (ready.least ≡ Some n) ⊎ IsIn ready.others n

-- the one that is kept apart is below the bound and below each other
pub record IsBelowOthers (others : Numbers) (n : ℕ) : Type 0 where
  pub bound : n < others.bound
  pub below : (m : ℕ) → IsIn others m → n < m

abbrev pub AreInOrder : ReadyNumbers → Type 0
AreInOrder ready = IfSome ready.least (IsBelowOthers ready.others)

-- the numbers of the one and this one
abbrev pub Receives : ReadyNumbers → ReadyNumbers → ℕ → Type 0
Receives old new n = (m : ℕ) → IsAmong new m ↔ (IsAmong old m ⊎ (m ≡ n))

-- the numbers of the one but for this one
abbrev pub Loses : ReadyNumbers → ReadyNumbers → ℕ → Type 0
Loses old new n = (m : ℕ) → IsAmong new m ↔ (IsAmong old m × (m ≢ n))

-- it is one of the numbers, and none is below it
pub record IsLeastAmong (ready : ReadyNumbers) (n : ℕ) : Type 0 where
  pub member : IsAmong ready n
  pub least : (m : ℕ) → IsAmong ready m → n ≤ m
