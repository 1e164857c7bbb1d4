use Rattle.std.proofs.Common.{◌≢◌, ℕ, ◌<◌, ◌≤◌, slice_index}
use Rattle.tile_system.specs.declared.name_table.TheConstants.{FREE}
use Rattle.tile_system.proofs.name_table.NameTable.free_slot.Given as goal

abbrev pub invariant-loop-slot : goal.invariant-loop-slot
invariant-loop-slot l = (k : ℕ) → l.start ≤ k → k < l.slot → slice_index l.self.slots.items k ≢ FREE
