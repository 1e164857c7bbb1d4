use Rattle.std.proofs.Common.{◌≡◌, All, take}
use Rattle.grow_core.specs.Core.{CoreInvariant}
use Rattle.seq_text.specs.SeenLines.{HasLine}
use Rattle.tilebench.specs.Inner.Schedules.{IsRunOf}
use Rattle.tilebench.proofs.commands.schedule.core_replies.Given as goal

-- the events so far have been run, each with its reply
abbrev pub invariant-loop-event : goal.invariant-loop-event
invariant-loop-event l = record {
  area : l.core.area ≡ l.sys.area;
  holds : CoreInvariant l.sys l.core.state;
  run : IsRunOf l.sys l.initial.core.state (take l.event-index l.events) l.replies.items l.core.state;
  told : All (HasLine l.sys) l.replies.items;
}
