-- The table of commands: what each reads, takes, answers and refuses. Longer answers stand in files
-- of their own below.
use Rattle.std.specs.Prelude.{◌≡◌, true, false, List, Some, None}
use Rattle.command_line.specs.declared.commands.Command.{Command}
use Rattle.command_line.specs.declared.commands.Command.TheVariants as command
use Rattle.tile_io.specs.Formats.{Fault}
use Rattle.tile_io.specs.Lines.{first_mark}
use Rattle.atam.specs.TileSystem.{IsValid}
use Rattle.tile_text.specs.Spelling.{newest_spelling, spelling}
use Rattle.tile_text.specs.SystemText.{FaultAny, ReadsAny}
use Rattle.seq_text.specs.GrowthText.{ReadsPlaces, grid_format, sequence_format}
use Rattle.seq_text.specs.ScheduleText.{ReadsEvents, schedule_format}
use Rattle.cert_text.specs.CertificateText.{ReadsCertificate, certificate_format}
use Rattle.machine_text.specs.Machines.{IsMachine}
use Rattle.machine_text.specs.MachineText.{ReadsMachine, machine_format}
use Rattle.quadrant_compile.specs.Quadrants.{IsQuadrant}
use Rattle.quadrant_compile.specs.QuadrantText.{ReadsQuadrant, quadrant_format}
use Rattle.quadrant_compile.specs.QuadrantSystems.{quadrant_system}
use Rattle.turing_compile.specs.Compiled.{compiled}
use Rattle.counter_compile.specs.Counters.{counter_refusal, counter_system}
use Rattle.job_board.specs.declared.job.Job.{Job}
use Rattle.job_board.specs.BatchText.{FaultBatch}
use Rattle.tilebench.specs.Growing.{TellsGrowth, TellsNoGrowth}
use Rattle.tilebench.specs.Inputs.{IsBatch, ReadsAssembly, alone}
use Rattle.tilebench.specs.Rows.{RoomRow, answering, making, reading}
use Rattle.tilebench.specs.Spelled.{SpellsMade, SpellsSystem}
use Rattle.tilebench.specs.Commands.Batch.{IsBatchAnswer}
use Rattle.tilebench.specs.Commands.Certify.{IsCertifyAnswer}
use Rattle.tilebench.specs.Commands.Check.{IsCheckAnswer}
use Rattle.tilebench.specs.Commands.Grow.{IsGrowthText}
use Rattle.tilebench.specs.Commands.Load.{IsLoadAnswer}
use Rattle.tilebench.specs.Commands.Picture.{IsPictureAnswer}
use Rattle.tilebench.specs.Commands.Race.{IsRaceText}
use Rattle.tilebench.specs.Commands.Replay.{IsReplayAnswer}
use Rattle.tilebench.specs.Commands.Report.{IsReportText}
use Rattle.tilebench.specs.Commands.Schedule.{IsScheduleAnswer}
use Rattle.tilebench.specs.Commands.Verify.{IsVerifyAnswer}
use Rattle.tilebench.specs.Commands.Watch.{TellsWatchedGrowth}
pub mod Batch
pub mod Certify
pub mod Check
pub mod Grow
pub mod Load
pub mod Picture
pub mod Race
pub mod Replay
pub mod Report
pub mod Schedule
pub mod Verify
pub mod Watch

abbrev pub room_of : Command → RoomRow
room_of (command.Grow crew) =
    reading ReadsAny FaultAny alone (TellsGrowth IsGrowthText crew.workers.count)
room_of (command.Race crew) =
    reading ReadsAny FaultAny alone (TellsGrowth (IsRaceText crew.workers.count) crew.workers.count)
room_of (command.Report crew) = reading ReadsAny FaultAny alone
    (TellsGrowth (IsReportText crew.workers.count) crew.workers.count)
room_of (command.Watch crew frames) =
    reading ReadsAny FaultAny alone (TellsWatchedGrowth crew.workers.count frames.count)
room_of command.Check = answering sequence_format (ReadsPlaces false) IsCheckAnswer
room_of command.Replay = answering grid_format ReadsAssembly IsReplayAnswer
room_of command.Schedule = answering schedule_format ReadsEvents IsScheduleAnswer
room_of command.Format = reading ReadsAny FaultAny alone
    (TellsNoGrowth (SpellsMade ReadsAny IsValid (λ sys. sys) spelling))
room_of command.Upgrade = reading ReadsAny FaultAny alone
    (TellsNoGrowth (SpellsMade ReadsAny IsValid (λ sys. sys) newest_spelling))
room_of command.Turing = reading ReadsMachine (Fault machine_format) alone
    (TellsNoGrowth (SpellsMade ReadsMachine IsMachine compiled spelling))
room_of command.Quadrant = reading ReadsQuadrant (Fault quadrant_format) alone
    (TellsNoGrowth (SpellsMade ReadsQuadrant IsQuadrant quadrant_system spelling))
room_of command.Picture = answering grid_format ReadsAssembly IsPictureAnswer
room_of command.Certify = answering grid_format ReadsAssembly IsCertifyAnswer
room_of (command.Verify workers) = answering certificate_format ReadsCertificate IsVerifyAnswer
room_of (command.Counter bits start) = making
    (λ grown is_yes text. (counter_refusal bits start ≡ None) × (grown ≡ None)
    × SpellsSystem spelling (counter_system bits start) text × (is_yes ≡ true))
    (λ stop. counter_refusal bits start ≡ Some stop)
room_of (command.Load number) = making (IsLoadAnswer number) (λ stop. ⊥)
room_of (command.Batch workers) = record {
  reads = true;
  answers = TellsNoGrowth IsBatchAnswer;
  takes = λ input. (jobs : List Job) × IsBatch input jobs;
  fails = λ input fault. FaultBatch input first_mark fault.line fault.cause;
  refuses = λ stop. ⊥;
}
