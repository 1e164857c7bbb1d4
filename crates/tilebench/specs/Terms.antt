-- The words of the headline, from one place.
pub use Rattle.tile_io.specs.declared.fault.TextFault.{TextFault}
pub use Rattle.tile_io.specs.Faults.{Rose}
pub use Rattle.atam.specs.declared.site.Site.{Site}
pub use Rattle.atam.specs.declared.place.TypeId.{TypeId}
pub use Rattle.atam.specs.declared.place.Place.{Place}
pub use Rattle.atam.specs.Sites.{InBox}
pub use Rattle.atam.specs.TileSystem.{TileSystem}
pub use Rattle.atam.specs.Placements.{SamePlacements}
pub use Rattle.atam.specs.Growth.{IsLegal, IsClosedInBox, IsLeastOpenOutside, GrowsInto}
pub use Rattle.atam.specs.Determinism.{IsDeterministicInBox, IsLocallyDeterministic}
pub use Rattle.site_table.specs.Seats.{GrownValue}
pub use Rattle.unique_law.specs.Outcomes.{Outcome, IsOutcome, IsDeterministicInSomeOrder}
pub use Rattle.unique_law.specs.Within.{IsDeterministicWithin, IsYesWithin, LiesInBox}
pub use Rattle.tile_text.specs.Spelling.{spelling}
pub use Rattle.tile_text.specs.SystemText.{ReadsAny}
pub use Rattle.seq_text.specs.GrowthText.{ReadsPlaces}
pub use Rattle.watch_frames.specs.FrameText.{IsWatchAnswer}
pub use Rattle.job_board.specs.declared.job.Job.{Job}
pub use Rattle.job_board.specs.Answers.{AnswerEach}
pub use Rattle.job_board.specs.AnswerText.{batch_text, growth_text, is_unique}
pub use Rattle.counter_compile.specs.declared.stop.CounterStop.{CounterStop}
pub use Rattle.command_line.specs.declared.commands.Command.{Command}
pub use Rattle.command_line.specs.Commands.{IsCallOf, IsNoCommand, IsTaken, IsUsage}
pub use Rattle.tilebench.specs.declared.status.Status.{Status}
pub use Rattle.tilebench.specs.Commands.{room_of}
pub use Rattle.tilebench.specs.Rows.{AnswersLeft, FailsLeft, IsReadyFor}
pub use Rattle.tilebench.specs.Growths.{IsGrowth}
pub use Rattle.tilebench.specs.Inputs.{IsAlone, IsBatch, IsSystemThen}
pub use Rattle.tilebench.specs.Gains.{Gains, GainsFront}
pub use Rattle.tilebench.specs.Refusals.{counter_stop_name, refused_words, refused_text}
