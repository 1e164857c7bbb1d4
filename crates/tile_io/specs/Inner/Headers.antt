-- The cause that a line has which fails a check.
use Rattle.std.specs.Prelude.{ℕ, Bool, true}
use Rattle.tile_io.specs.declared.fault.Cause.{Cause}
use Rattle.tile_io.specs.declared.fault.Cause.TheVariants.{NoHeader}
use Rattle.tile_io.specs.declared.fault.TextStop.{TextStop}
use Rattle.tile_io.specs.declared.fault.TextStop.TheVariants as texts
use Rattle.tile_io.specs.declared.line_reader.LineStop.{LineStop}
use Rattle.tile_io.specs.declared.line_reader.LineStop.TheVariants as stops

-- a missing header, where a header is still missing
abbrev pub first_cause : Bool → Cause → Cause → Cause
first_cause true NoHeader cause = NoHeader
first_cause has_header missing cause = cause

-- the fault of a line with its number, or want of memory
abbrev pub stop_at : ℕ → Bool → Cause → LineStop → TextStop
stop_at line has_header missing (stops.Fault cause) = texts.Fault (record { line = line; cause = first_cause has_header missing cause })
stop_at line has_header missing stops.NoMemory = texts.NoMemory
