-- Numbers that are kept for the next time that they are written.
use Rattle.std.specs.Prelude.{◌≡◌, ◌<◌, List, slice_get, Some}
use Rattle.seq_text.specs.declared.number_texts.ColumnText.{ColumnText}

-- the first place has a text
abbrev pub IsBegun : List ColumnText → Type 0
IsBegun kept = (text : ColumnText) → slice_get kept 0 ≡ Some text → 0 < text.len
