use Rattle.std.proofs.Common.{◌≡◌, ◌≤◌, ◌<◌, ℕ, length, slice_get, Some}
use Rattle.std.specs.Prelude.{slice_index}
use Rattle.type_index.proofs.meeting_lists.MeetingLists.with_room.Given as goal

-- the list of each glue so far begins with an end
abbrev pub invariant-loop-number : goal.invariant-loop-number
invariant-loop-number l = record {
  count : length l.first.items ≡ l.number;
  places : length l.meetings.items ≡ l.places;
  small : l.end ≤ 4194304;
  ends : (k : ℕ) → k < l.number → slice_get l.meetings.items (slice_index l.first.items k) ≡ Some (record { tile = length l.sys.types; strength = 0; next = 0 });
}
