use Rattle.std.proofs.Common.{◌≡◌, ◌≤◌, ◌+◌, ◌-◌, ◌*◌, length}
use Rattle.type_index.specs.Meetings.{AreMeetings}
use Rattle.type_index.proofs.meeting_lists.MeetingLists.filled.Given as goal

-- the lists of the types that were passed
abbrev pub invariant-loop-passed : goal.invariant-loop-passed
invariant-loop-passed l = record {
  lists : AreMeetings l.sys l.side l.glues.kinds (length l.sys.types - l.passed) l.lists;
  few : length l.lists.meetings ≤ 4194304 + 65537 * l.passed;
  each : length l.lists.first ≡ length l.sys.glues;
}
