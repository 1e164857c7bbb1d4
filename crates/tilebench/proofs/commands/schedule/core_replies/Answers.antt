use Rattle.std.proofs.Common.{◌<◌, ◌+◌, [], take, List, Result, All, sym, subst, arith, length}
use Rattle.atam.specs.declared.event.Seen.{Seen}
use Rattle.atam.specs.declared.event.CoreStop.{CoreStop}
use Rattle.seq_text.specs.SeenLines.{HasLine}
use Rattle.tilebench.specs.Inner.Schedules.{IsRunOf}
use Rattle.tilebench.proofs.Scheduling.{run_none, run_next, told_more}
use Rattle.tilebench.proofs.commands.schedule.core_replies.Goals as goal

pub loop-event-init : goal.loop-event-init
loop-event-init c =
    let sys = c.args.sys.now in
    let start = c.args.core.now.state in
    let Ran : List (Result Seen CoreStop) → Type 0 = λ replies. IsRunOf sys start [] replies start in
    let Told : List (Result Seen CoreStop) → Type 0 = λ replies. All (HasLine sys) replies in
    record {
      area = c.requires.area;
      holds = c.requires.invariant;
      run = subst Ran (sym c.in_ok-replies.ensures.items) (run_none sys start);
      told = subst Told (sym c.in_ok-replies.ensures.items) (λ k d within. absurd (omega (arith, within)));
    }

pub loop-event-preserved : goal.loop-event-preserved
loop-event-preserved c =
    let sys = c.args.sys.now in
    let start = c.args.core.now.state in
    let end = c.reply_to.new.core.state in
    let index = c.loop-event.event-index in
    let before = c.loop-event.replies.items in
    let reply = c.in_ok-reply_to.field-0 in
    let within : index < length c.args.events.now = omega (arith, c.loop-event-test.true) in
    let Ran : List (Result Seen CoreStop) → Type 0 = λ replies. IsRunOf sys start (take (index + 1) c.args.events.now) replies end in
    let Told : List (Result Seen CoreStop) → Type 0 = λ replies. All (HasLine sys) replies in
    record {
      area = c.in_ok-reply_to.ensures.area;
      holds = c.in_ok-reply_to.ensures.invariant;
      run = subst Ran (sym c.in_ok-push.ensures.items) (run_next sys start c.loop-event.core.state end c.args.events.now index within before reply _ c.loop-event.invariant.run c.in_ok-reply_to.ensures.step);
      told = subst Told (sym c.in_ok-push.ensures.items) (told_more sys before reply c.loop-event.invariant.told c.in_ok-reply_to.ensures.told);
    }
