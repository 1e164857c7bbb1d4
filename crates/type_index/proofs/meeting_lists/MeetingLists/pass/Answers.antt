use Rattle.std.proofs.Common.{sym, ◌∙◌}
use Rattle.type_index.proofs.Meeting.{meetings_unborne}
use Rattle.type_index.proofs.meeting_lists.MeetingLists.pass.Goals as goal

pub returns-in-None-clause-lists : goal.returns-in-None-clause-lists
returns-in-None-clause-lists c =
    meetings_unborne c.args.sys.now c.args.side c.args.glues.now.kinds c.args.tile c.args.self.now (sym c.side.ensures.glue ∙ c.in-None.is) c.requires.lists
