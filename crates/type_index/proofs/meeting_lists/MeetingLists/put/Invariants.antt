use Rattle.std.proofs.Common.{◌≡◌, ◌≤◌, ◌+◌, drop, length}
use Rattle.type_index.proofs.Meeting.{AreMetBut}
use Rattle.type_index.proofs.meeting_lists.MeetingLists.put.Given as goal

-- the lists of the glue and of its partners so far
abbrev pub invariant-loop-partner : goal.invariant-loop-partner
invariant-loop-partner l = record {
  lists : AreMetBut l.sys l.fn.side l.glues.kinds l.tile l.fn.glue (drop l.partner-index l.partner-items) l.self;
  few : length l.self.meetings ≤ length l.fn.self.meetings + 1 + l.partner-index;
  each : length l.self.first ≡ length l.sys.glues;
}
