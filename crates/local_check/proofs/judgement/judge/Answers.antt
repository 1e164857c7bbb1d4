use Rattle.local_check.proofs.judgement.judge.Goals as goal

pub last_verdict-requires-clause-exact : goal.last_verdict-requires-clause-exact
last_verdict-requires-clause-exact c = (c.in-None.ensures c.args.sys.now c.args.seq.now c.requires.sides).0

pub last_verdict-requires-clause-rivals : goal.last_verdict-requires-clause-rivals
last_verdict-requires-clause-rivals c = (c.in-None.ensures c.args.sys.now c.args.seq.now c.requires.sides).1
