use Rattle.std.proofs.Common.{ℕ, arith, subst}
use Rattle.type_index.specs.Meetings.{AreMeetings}
use Rattle.type_index.proofs.Meeting.{meetings_ended}
use Rattle.type_index.proofs.meeting_lists.MeetingLists.filled.Goals as goal

pub loop-passed-init : goal.loop-passed-init
loop-passed-init c =
    let sys = c.args.sys.now in
    let none = c.in_ok-lists.ensures.none in
    record {
      lists = meetings_ended sys c.args.side c.args.glues.now.kinds _ c.in_ok-lists.lists (omega arith) c.requires.glues.kinds.count none;
      few = omega (arith, c.in_ok-lists.ensures.few);
      each = none.count;
    }

pub pass-requires-clause-lists : goal.pass-requires-clause-lists
pass-requires-clause-lists c =
    let sys = c.args.sys.now in
    let Lists : ℕ → Type 0 = λ n. AreMeetings sys c.args.side c.args.glues.now.kinds n c.loop-passed.lists in
    subst Lists (omega (arith, c.type_count-count.ensures.count, c.loop-passed-test.true)) c.loop-passed.invariant.lists

pub pass-requires-clause-few : goal.pass-requires-clause-few
pass-requires-clause-few c = omega (arith, c.loop-passed.invariant.few, c.loop-passed-test.true, c.type_count-count.ensures.count, c.recall_valid.ensures.valid.type_count)

pub loop-passed-preserved : goal.loop-passed-preserved
loop-passed-preserved c =
    let sys = c.args.sys.now in
    let Lists : ℕ → Type 0 = λ n. AreMeetings sys c.args.side c.args.glues.now.kinds n c.pass.new.self in
    record {
      lists = subst Lists (omega (arith, c.type_count-count.ensures.count, c.loop-passed-test.true)) c.in_ok-pass.ensures.lists;
      few = omega (arith, c.loop-passed.invariant.few, c.pass.ensures.few);
      each = c.pass.ensures.first;
    }

pub returns : goal.returns
returns c =
    let sys = c.args.sys.now in
    let Lists : ℕ → Type 0 = λ n. AreMeetings sys c.args.side c.args.glues.now.kinds n c.loop-passed.lists in
    subst Lists (omega (arith, c.type_count-count.ensures.count, c.loop-passed-test.false)) c.loop-passed.invariant.lists
