use Rattle.std.proofs.Common.{◌+◌, arith}
use Rattle.type_index.proofs.Bearers.{bearer_on}
use Rattle.type_index.proofs.bearer_lists.BearerLists.next_from.Goals as goal

pub loop-at-init : goal.loop-at-init
loop-at-init c = record {
  from = c.args.tile + 1;
  before = omega arith;
  next = c.next-at.ensures;
}

pub loop-at-preserved : goal.loop-at-preserved
loop-at-preserved c = record {
  from = c.loop-at.at + 1;
  before = omega (arith, c.loop-at-test.true);
  next = c.next-at-in-loop-at.ensures;
}

pub loop-at-smaller : goal.loop-at-smaller
loop-at-smaller c = omega (arith, c.next-at-in-loop-at.ensures.after, c.loop-at-test.true, c.requires.within)

pub next-at-requires-in-loop-at-clause-bears : goal.next-at-requires-in-loop-at-clause-bears
next-at-requires-in-loop-at-clause-bears c =
    let at = c.loop-at.invariant in
    at.next.here (omega (arith, c.loop-at-test.true, c.requires.within))

pub returns : goal.returns
returns c =
    let at = c.loop-at.invariant in
    bearer_on c.args.sys.now c.args.side c.args.glue at.from c.args.bound c.loop-at.at at.next at.before (omega (arith, c.loop-at-test.false))
