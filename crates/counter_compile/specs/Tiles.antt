-- The tiles of a binary counter. Its columns are 0, at the west, to `last`, and column i has the bit of weight 2^(last - i).
use Rattle.std.specs.Prelude.{ℕ, suc, ◌+◌, ◌-◌, ◌*◌, ◌==◌, Bool, true, false, not, ◌&&◌, if◌then◌else◌, List, [], ◌∷◌, ◌++◌, map, drop, Option, Some, None, codes, decimal}
use Rattle.std.specs.Bool.{xor}
use Rattle.std.specs.List.{range_with_len, flat_map}
use Rattle.std.specs.Int.{bit_at}
use Rattle.atam.specs.declared.site.Side.{Side}
use Rattle.design.specs.Sides.{by_side, label_ahead, label_behind}
use Rattle.counter_compile.specs.declared.kind.Kind.{Kind}
use Rattle.counter_compile.specs.declared.kind.Kind.TheVariants.{First, AddEast, AddMiddle, AddWest, CopyWest, CopyMiddle, CopyEast}
use Rattle.counter_compile.specs.declared.label.Label.{Label}
use Rattle.counter_compile.specs.declared.label.Label.TheVariants.{BitWest, Bit, BitEast, SumEast, Carry, SumWest, GoAhead, Chain}
use Rattle.design.specs.TileSets.{TileSet}

abbrev pub digit : Bool → ℕ
digit true = 1
digit false = 0

-- The table of the sides of each kind, for the first number v: north, east, south, west. A row that
-- adds shows nothing upwards at the west end past the last number.
abbrev pub side : ℕ → ℕ → Kind → Side → Option Label
side last v (First i) =
    let b = bit_at v (last - i) == 1 in
    let up = if i == 0 then BitWest b else if i == last then BitEast b else Bit b in
    by_side (Some up) (label_ahead Chain last i) None (label_behind Chain i)
side last v (AddEast b) = by_side (Some (SumEast (not b))) None (Some (BitEast b)) (Some (Carry b))
side last v (AddMiddle b c) =
    by_side (Some (Bit (xor b c))) (Some (Carry c)) (Some (Bit b)) (Some (Carry (b && c)))
side last v (AddWest b c) =
    let sum = if b && c then None else Some (SumWest (xor b c)) in
    by_side sum (Some (Carry c)) (Some (BitWest b)) None
side last v (CopyWest b) = by_side (Some (BitWest b)) (Some GoAhead) (Some (SumWest b)) None
side last v (CopyMiddle b) = by_side (Some (Bit b)) (Some GoAhead) (Some (Bit b)) (Some GoAhead)
side last v (CopyEast b) = by_side (Some (BitEast b)) None (Some (SumEast b)) (Some GoAhead)

-- the bit that a tile shows
abbrev pub shown_bit : ℕ → ℕ → Kind → Bool
shown_bit last v (First i) = bit_at v (last - i) == 1
shown_bit last v (AddEast b) = not b
shown_bit last v (AddMiddle b c) = xor b c
shown_bit last v (AddWest b c) = xor b c
shown_bit last v (CopyWest b) = b
shown_bit last v (CopyMiddle b) = b
shown_bit last v (CopyEast b) = b

-- the table of kinds: the place of each in the list of kinds, and its name
abbrev pub kind_row : ℕ → Kind → ℕ × List ℕ
kind_row last (First i) = (i, codes "t:" ++ decimal i)
kind_row last (AddEast b) = (suc last + digit b, codes "ie:" ++ decimal (digit b))
kind_row last (AddMiddle b c) =
    (suc last + 2 + 2 * digit b + digit c, codes "im:" ++ decimal (digit b) ++ decimal (digit c))
kind_row last (AddWest b c) =
    (suc last + 6 + 2 * digit b + digit c, codes "iw:" ++ decimal (digit b) ++ decimal (digit c))
kind_row last (CopyWest b) = (suc last + 10 + digit b, codes "cw:" ++ decimal (digit b))
kind_row last (CopyMiddle b) = (suc last + 12 + digit b, codes "cm:" ++ decimal (digit b))
kind_row last (CopyEast b) = (suc last + 14 + digit b, codes "ce:" ++ decimal (digit b))

-- the table of labels: the place of each in the list of labels, its strength and its name
abbrev pub label_row : Label → ℕ × ℕ × List ℕ
label_row (BitWest b) = (digit b, 1, codes "w" ++ decimal (digit b))
label_row (Bit b) = (2 + digit b, 1, codes "v" ++ decimal (digit b))
label_row (BitEast b) = (4 + digit b, 2, codes "e" ++ decimal (digit b))
label_row (SumEast b) = (6 + digit b, 1, codes "x" ++ decimal (digit b))
label_row (Carry b) = (8 + digit b, 1, codes "c" ++ decimal (digit b))
label_row (SumWest b) = (10 + digit b, 2, codes "t" ++ decimal (digit b))
label_row GoAhead = (12, 1, codes "k")
label_row (Chain i) = (12 + i, 2, codes "p:" ++ decimal i)

-- what is made of 0 and of 1
abbrev pub of_each_bit : {A : Type 0} → (Bool → A) → List A
of_each_bit make = make false ∷ make true ∷ []

-- The kinds are the tile of each column of the first row, then those of later rows; the labels
-- those that are the same in each counter, then those between the columns of the first row.
abbrev pub tiles_of : ℕ → ℕ → TileSet Kind Label
tiles_of last v = record {
  kinds = map First (range_with_len 0 (suc last)) ++ flat_map of_each_bit
      (AddEast ∷ AddMiddle false ∷ AddMiddle true ∷ AddWest false ∷ AddWest true
      ∷ CopyWest ∷ CopyMiddle ∷ CopyEast ∷ []);
  labels = flat_map of_each_bit (BitWest ∷ Bit ∷ BitEast ∷ SumEast ∷ Carry ∷ SumWest ∷ [])
      ++ GoAhead ∷ map Chain (range_with_len 1 last);
  side = side last v;
  kind_row = kind_row last;
  label_row = label_row;
}

-- its parts: all kinds and those of later rows, all labels and those of each counter
abbrev pub kinds_of : ℕ → List Kind
kinds_of last = (tiles_of last 0).kinds

abbrev pub later_kinds : List Kind
later_kinds = drop 1 (kinds_of 0)

abbrev pub labels_of : ℕ → List Label
labels_of last = (tiles_of last 0).labels

abbrev pub fixed_labels : List Label
fixed_labels = labels_of 0
