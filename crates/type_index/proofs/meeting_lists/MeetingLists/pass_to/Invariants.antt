use Rattle.std.proofs.Common.{◌≡◌, ◌-◌, length, Some}
use Rattle.type_index.specs.declared.cursor.Way.TheVariants.{Meetings}
use Rattle.type_index.specs.Inner.Cursors.{GoesBy, IsBehind}
use Rattle.type_index.proofs.meeting_lists.MeetingLists.pass_to.Given as goal

-- a cursor along the list that leaves out none from an index on that is not past the bound
abbrev pub invariant-loop-on : goal.invariant-loop-on
invariant-loop-on l = record {
  behind : IsBehind l.sys l.side (Some l.glue) l.bound l.on;
  way : GoesBy l.sys l.side l.self.meetings (Some l.glue) l.on Meetings;
  meetings : l.on.way ≡ Meetings;
  most : l.on.most ≡ l.fn.cursor.most;
}

abbrev pub decreases-loop-on : goal.decreases-loop-on
decreases-loop-on l = length l.sys.types - l.on.at
