-- What a stop of lines is that stand behind others.
use Rattle.std.specs.Prelude.{◌+◌, ◌<◌, ℕ}
use Rattle.tile_io.specs.declared.fault.TextStop.{TextStop}
use Rattle.tile_io.specs.declared.fault.TextStop.TheVariants as stops

-- a stop of lines that stand behind so many others
abbrev pub stop_after : ℕ → TextStop → TextStop
stop_after lines (stops.Fault fault) = stops.Fault (record { line = lines + fault.line; cause = fault.cause })
stop_after lines stops.NoMemory = stops.NoMemory

-- its line has a number below another there
abbrev pub IsStopBelow : ℕ → ℕ → TextStop → Type 0
IsStopBelow lines most (stops.Fault fault) = lines + fault.line < most
IsStopBelow lines most stops.NoMemory = Unit {0}
