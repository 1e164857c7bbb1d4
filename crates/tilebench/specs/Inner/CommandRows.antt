-- The rows of the commands. No row speaks of a choice.
use Rattle.std.specs.Prelude.{ℕ}
use Rattle.fan_out.specs.declared.worker_count.WorkerCount.{WorkerCount}
use Rattle.command_line.specs.declared.crew.Crew.{Crew}
use Rattle.command_line.specs.declared.frame_count.FrameCount.{FrameCount}
use Rattle.command_line.specs.declared.commands.Command.TheVariants as command
use Rattle.tilebench.specs.Rows.{RoomRow}
use Rattle.tilebench.specs.Commands.{room_of}

-- so many workers
abbrev pub crew_of : WorkerCount → Crew
crew_of workers = record { workers = workers; choice = 0 }

abbrev pub batch_row : WorkerCount → RoomRow
batch_row workers = room_of (command.Batch workers)

abbrev pub certify_row : RoomRow
certify_row = room_of command.Certify

abbrev pub check_row : RoomRow
check_row = room_of command.Check

abbrev pub counter_row : ℕ → ℕ → RoomRow
counter_row bits start = room_of (command.Counter bits start)

abbrev pub format_row : RoomRow
format_row = room_of command.Format

abbrev pub grow_row : WorkerCount → RoomRow
grow_row workers = room_of (command.Grow (crew_of workers))

abbrev pub load_row : ℕ → RoomRow
load_row number = room_of (command.Load number)

abbrev pub picture_row : RoomRow
picture_row = room_of command.Picture

abbrev pub quadrant_row : RoomRow
quadrant_row = room_of command.Quadrant

abbrev pub race_row : WorkerCount → RoomRow
race_row workers = room_of (command.Race (crew_of workers))

abbrev pub replay_row : RoomRow
replay_row = room_of command.Replay

abbrev pub report_row : WorkerCount → RoomRow
report_row workers = room_of (command.Report (crew_of workers))

abbrev pub schedule_row : RoomRow
schedule_row = room_of command.Schedule

abbrev pub turing_row : RoomRow
turing_row = room_of command.Turing

abbrev pub upgrade_row : RoomRow
upgrade_row = room_of command.Upgrade

abbrev pub verify_row : WorkerCount → RoomRow
verify_row workers = room_of (command.Verify workers)

abbrev pub watch_row : WorkerCount → FrameCount → RoomRow
watch_row workers frames = room_of (command.Watch (crew_of workers) frames)
