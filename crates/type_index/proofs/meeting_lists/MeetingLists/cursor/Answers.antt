use Rattle.std.proofs.Common.{◌≡◌, ◌<◌, Some, ap, arith, length, refl, slice_get, subst}
use Rattle.std.proofs.lemmas.Option.{slice_get_read}
use Rattle.type_index.proofs.Meeting.{cursor_at, leads_within, next_at}
use Rattle.type_index.proofs.meeting_lists.MeetingLists.cursor.Goals as goal

pub returns-clause-cursor : goal.returns-clause-cursor
returns-clause-cursor c =
    let sys = c.args.sys.now in
    let meetings = c.args.self.now.meetings in
    let same = ap (λ l. l.meetings) c.self.view_is in
    let within : c.args.place < length c.self.inside.meetings.items = omega (arith, leads_within sys c.args.side c.args.glue meetings c.args.from c.args.place c.requires.leads, ap length same) in
    let is_there = subst (λ ms. slice_get ms c.args.place ≡ Some c.index-meeting.result.now) same (slice_get_read c.self.inside.meetings.items (length c.self.inside.meetings.items) c.args.place c.index-meeting.result.now refl within c.index-meeting.ensures) in
    cursor_at sys c.args.side c.args.glue meetings c.args.from c.args.place c.index-meeting.result.now _ c.recall_valid.ensures.valid is_there c.requires.leads refl c.from.ensures c.requires.most c.requires.bound

pub returns-clause-way : goal.returns-clause-way
returns-clause-way c =
    let sys = c.args.sys.now in
    let meetings = c.args.self.now.meetings in
    let same = ap (λ l. l.meetings) c.self.view_is in
    let within : c.args.place < length c.self.inside.meetings.items = omega (arith, leads_within sys c.args.side c.args.glue meetings c.args.from c.args.place c.requires.leads, ap length same) in
    let is_there = subst (λ ms. slice_get ms c.args.place ≡ Some c.index-meeting.result.now) same (slice_get_read c.self.inside.meetings.items (length c.self.inside.meetings.items) c.args.place c.index-meeting.result.now refl within c.index-meeting.ensures) in
    next_at sys c.args.side c.args.glue meetings c.args.from c.args.place c.index-meeting.result.now is_there c.requires.leads
