use Rattle.std.proofs.Common.{subst, arith}
use Rattle.std.proofs.Math.Nat.{le_trans}
use Rattle.atam.proofs.Count.{count_in_box}
use Rattle.atam.proofs.Sequences.{IsLegal-distinct}
use Rattle.assembly.proofs.Cells.{cell_count-most}
use Rattle.local_check.specs.declared.passage.Passed.{Passed}
use Rattle.local_check.specs.Inner.Passages.{IsPassed}
use Rattle.local_check.proofs.Clean.{clean_no_rivals}
use Rattle.local_check.proofs.Passing.{breach_illegal}
use Rattle.local_check.proofs.grown.breach_by_one.Goals as goal

pub pass-requires-clause-can : goal.pass-requires-clause-can
pass-requires-clause-can c =
    let can = c.requires.can in
    let sys = c.args.laid.now.sys.now in
    let s = c.args.laid.now.seq.now in
    let distinct = IsLegal-distinct sys s can.valid.distinct_seeds can.legal in
    let few = le_trans (count_in_box sys.area s distinct can.fits.sites)
    (cell_count-most sys.area can.valid.box)
    in
    record {
      begun = can.legal.seeds;
      fits = can.fits;
      short = omega (arith, few);
      index = can.index;
      area = c.in_ok-grid.ensures.area;
      seeds = c.in_ok-grid.ensures.seeds;
    }

pub unreachable-requires : goal.unreachable-requires
unreachable-requires c =
    let sys = c.args.laid.now.sys.now in
    let s = c.args.laid.now.seq.now in
    let broken =
    subst (λ (p : Passed). IsPassed sys s c.pass.new.grid.tiles p)
    c.in-Breach.is c.in_ok-pass.ensures.passed
    in
    breach_illegal sys s _ broken.0 broken.1 c.requires.can.legal

pub returns-in-Exact-true : goal.returns-in-Exact-true
returns-in-Exact-true c =
    let can = c.requires.can in
    let sys = c.args.laid.now.sys.now in
    let s = c.args.laid.now.seq.now in
    let passed =
    subst (λ (p : Passed). IsPassed sys s c.pass.new.grid.tiles p)
    c.in-Exact-true.is c.in_ok-pass.ensures.passed
    in (
      passed.1.exact,
      clean_no_rivals sys s can.valid.distinct_seeds can.legal
          (passed.1.clean c.in-Exact-true.clean-test),
    )
