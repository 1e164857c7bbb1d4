use Rattle.std.proofs.Common.{ℕ, List, refl, subst, sym}
use Rattle.tilebench.specs.Inputs.{IsSystemThen}
use Rattle.atam.specs.TileSystem.{TileSystem}
use Rattle.atam.specs.declared.event.Event.{Event}
use Rattle.tilebench.specs.Inner.Rooms.{Schedules}
use Rattle.tilebench.proofs.Scheduling.{schedule_answer}
use Rattle.tilebench.proofs.commands.schedule.SchedulePlainRoom.answer.Goals as goal
use Rattle.seq_text.specs.ScheduleText.{ReadsEvents}

pub returns : goal.returns
returns g c =
    let Done : List Event → Type 0 = λ events. Schedules c.in_ok-sys.sys events c.in_ok-schedule_of.field-0 in
    let done = subst Done c.deref-2.ensures.value c.in_ok-schedule_of.ensures in
    let Read : List ℕ → Type 0 = λ input. IsSystemThen ReadsEvents input c.in_ok-sys.sys c.in_ok-sys.events.items in
    let Of : TileSystem → Type 0 = λ sys. IsSystemThen ReadsEvents c.args.input.items sys c.in_ok-sys.events.items in
    let read = subst Of (sym done.same) (subst Read c.deref.ensures.value c.in_ok-sys.ensures) in
    record {
      answer = record {
        none = refl;
        told = (c.in_ok-schedule_of.field-0.sys, c.in_ok-sys.events.items, read, schedule_answer c.in_ok-sys.sys c.in_ok-sys.events.items c.in_ok-schedule_of.field-0 done);
      };
      prints = done.lines;
    }
