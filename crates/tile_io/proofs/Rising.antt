-- A count of faults over two calls.
use Rattle.std.proofs.Common.{◌≤◌, inl, inr, ℕ, arith}
use Rattle.tile_io.specs.Faults.{Rose}

-- what rose in the later call rose in both
pub Rose-then : {a b c : ℕ} → a ≤ b → Rose b c → Rose a c
Rose-then before (inl rose) = inl (omega (arith, before, rose))
Rose-then before (inr last) = inr last
