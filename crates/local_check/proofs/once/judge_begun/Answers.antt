use Rattle.local_check.proofs.once.judge_begun.Goals as goal

pub pass-requires-clause-can : goal.pass-requires-clause-can
pass-requires-clause-can c = record {
  begun = c.requires.begun;
  fits = c.requires.fits;
  short = c.requires.short;
  index = c.in_ok-types.ensures;
  area = c.in_ok-grid.ensures.area;
  seeds = c.in_ok-grid.ensures.seeds;
}

pub returns-in-Breach : goal.returns-in-Breach
returns-in-Breach c = rw c.in-Breach.is at c.in_ok-breach.ensures.passed

pub returns-in-NotExact : goal.returns-in-NotExact
returns-in-NotExact c = rw c.in-NotExact.is at c.in_ok-breach.ensures.passed
