-- What stands in each cell of a counter, by its row.
use Rattle.std.proofs.Common.{◌≡◌, refl, ap, if◌then◌else◌, ℕ, zero, suc, ◌-◌, ◌%◌, ◌/◌, ◌^◌, ◌==◌, nat_lt, nat_le, Bool, true, ◌&&◌, cond, Option, Some, None}
use Rattle.std.specs.Int.{bit_at}
use lib.Dec.{eqb-suc-zero}
use Rattle.counter_compile.specs.declared.kind.Kind.{Kind}
use Rattle.counter_compile.specs.declared.kind.Kind.TheVariants.{First, AddEast, AddMiddle, AddWest, CopyWest, CopyMiddle, CopyEast}

-- whether the bit of weight 2^p of n is 1
abbrev pub bit : ℕ → ℕ → Bool
bit p n = bit_at n p == 1

-- one of three: at the west end, between the ends, and at the east end
abbrev pub by_column : {A : Type 0} → ℕ → ℕ → A → A → A → A
by_column last zero west middle east = west
by_column last (suc i) west middle east = if suc i == last then east else middle

-- the same by its tests
pub column_is : {A : Type 0} (last i : ℕ) (west middle east : A) → (if i == 0 then west else if i == last then east else middle) ≡ by_column last i west middle east
column_is last zero west middle east = refl
column_is last (suc i) west middle east = ap (λ t. cond t west (if suc i == last then east else middle)) (eqb-suc-zero i)

-- whether the bits below the one of weight 2^p are all 1, so that an added 1 is carried into it
abbrev pub carry : ℕ → ℕ → Bool
carry zero n = true
carry (suc p) n = n % 2 == 1 && carry p (n / 2)

-- the first row; a row that adds 1 to the n below it; and a row that copies the n below it
pub data Row : Type 0 where
  Base : Row
  Adding : ℕ → Row
  Copying : ℕ → Row

abbrev pub row_above : ℕ → Row → Row
row_above v Base = Adding v
row_above v (Adding n) = Copying (suc n)
row_above v (Copying n) = Adding n

abbrev pub row_at : ℕ → ℕ → Row
row_at v zero = Base
row_at v (suc j) = row_above v (row_at v j)

abbrev pub value_in : ℕ → Row → ℕ
value_in v Base = v
value_in v (Adding n) = n
value_in v (Copying n) = n

-- what stands in a column of a row
abbrev pub kind_in : ℕ → Row → ℕ → Kind
kind_in last Base i = First i
kind_in last (Adding n) i = let b = bit (last - i) n in let c = carry (last - i) n in by_column last i (AddWest b c) (AddMiddle b c) (AddEast b)
kind_in last (Copying n) i = let b = bit (last - i) n in by_column last i (CopyWest b) (CopyMiddle b) (CopyEast b)

-- a row is there as long as its number has no more bits than there are columns
abbrev pub cells_of : ℕ → ℕ → Row → ℕ → Option Kind
cells_of last v row i = cond (nat_le i last && nat_lt (value_in v row) (2 ^ suc last)) (Some (kind_in last row i)) None

abbrev pub cell : ℕ → ℕ → ℕ → ℕ → Option Kind
cell last v i j = cells_of last v (row_at v j) i
