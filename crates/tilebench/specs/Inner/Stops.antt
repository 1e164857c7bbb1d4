-- What the stops of the lower crates become, and the statuses that tell them.
use Rattle.tile_io.specs.declared.fault.Cause.TheVariants.{TooLong}
use Rattle.tile_io.specs.declared.blocks.InputStop.{InputStop}
use Rattle.tile_io.specs.declared.blocks.InputStop.TheVariants as input
use Rattle.tile_io.specs.declared.fault.TextStop.{TextStop}
use Rattle.tile_io.specs.declared.fault.TextStop.TheVariants as text
use Rattle.tile_io.specs.declared.whole.ReadStop.{ReadStop}
use Rattle.tile_io.specs.declared.whole.ReadStop.TheVariants as read
use Rattle.counter_compile.specs.declared.stop.CounterStop.{CounterStop}
use Rattle.counter_compile.specs.declared.stop.CounterStop.TheVariants as counter
use Rattle.command_line.specs.declared.words_stop.WordsStop.{WordsStop}
use Rattle.command_line.specs.declared.words_stop.WordsStop.TheVariants as refusal
use Rattle.tilebench.specs.declared.status.Status.{Status}
use Rattle.tilebench.specs.declared.status.Status.TheVariants as status
use Rattle.tilebench.specs.declared.stop.Stop.{Stop}
use Rattle.tilebench.specs.declared.stop.Stop.TheVariants as stops

abbrev pub stop_of_words : WordsStop → Stop
stop_of_words refusal.NoMemory = stops.NoMemory
stop_of_words stop = stops.Words stop

abbrev pub stop_of_counter : CounterStop → Stop
stop_of_counter counter.NoMemory = stops.NoMemory
stop_of_counter stop = stops.Counter stop

abbrev pub stop_of_text : TextStop → Stop
stop_of_text (text.Fault fault) = stops.Text fault
stop_of_text text.NoMemory = stops.NoMemory

abbrev pub stop_of_read : ReadStop → Stop
stop_of_read read.Failed = stops.ReadFault
stop_of_read read.TooLong = stops.Text (record { line = 0; cause = TooLong })
stop_of_read read.NoMemory = stops.NoMemory

abbrev pub stop_of_input : InputStop → Stop
stop_of_input (input.Unread stop) = stop_of_read stop
stop_of_input (input.Refused fault) = stops.Text fault

-- the status of a stop, where its line could be written if it has one
abbrev pub status_of : Stop → Status
status_of (stops.Words stop) = status.Words
status_of (stops.Counter stop) = status.Words
status_of (stops.Text fault) = status.Text
status_of stops.ReadFault = status.ReadFault
status_of stops.NoMemory = status.NoMemory
