use Rattle.std.proofs.Common.{◌≡◌, ℕ, ◌^◌, ◌+◌, ◌≤◌, ◌<◌, true, length, get_or, take}
use Rattle.tile_io.specs.Checks.{is_digit, digits_value}
use Rattle.tile_io.proofs.number.digits_among.Given as goal

-- the bytes so far are digits, and write the number
abbrev pub invariant-loop-index : goal.invariant-loop-index
invariant-loop-index l = record {
  within : l.index ≤ length l.bytes;
  few : l.index ≤ l.most + 1;
  digits : (k : ℕ) → k < l.index → is_digit (get_or l.bytes k 0) ≡ true;
  value : digits_value (take l.index l.bytes) ≡ l.number;
  small : l.number < 10 ^ l.index;
}
