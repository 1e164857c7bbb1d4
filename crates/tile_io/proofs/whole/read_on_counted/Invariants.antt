use Rattle.std.proofs.Common.{◌≤◌, ◌-◌, ◌+◌, length}
use Rattle.tile_io.specs.Blocks.{TakesOn}
use Rattle.tile_io.proofs.whole.read_on_counted.Given as goal

-- what was taken so far stands behind the bytes that were there, with a byte for each read
abbrev pub invariant-reading : goal.invariant-reading
invariant-reading g l = record {
  within : length l.bytes.items ≤ l.most;
  taken : TakesOn (g.S.Source.left l.initial.source) (g.S.Source.left l.source) l.initial.bytes.items l.bytes.items;
  later : g.S.Source.faults l.initial.source ≤ g.S.Source.faults l.source;
  one_a_byte : l.reads + length l.initial.bytes.items ≤ l.initial.reads + length l.bytes.items;
}

abbrev pub decreases-reading : goal.decreases-reading
decreases-reading g l = l.most - length l.bytes.items
