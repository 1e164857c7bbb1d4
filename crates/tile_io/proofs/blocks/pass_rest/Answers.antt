use Rattle.std.proofs.Common.{◌<◌, ◌++◌, Bool, [], length, subst, arith}
use Rattle.std.proofs.lemmas.Result.{err_from_is_err_and}
use Rattle.tile_io.specs.Inner.Blocks.{EndsOrCame}
use Rattle.tile_io.proofs.Coming.{comes_none, comes_more, comes_all, stops_later}
use Rattle.tile_io.proofs.blocks.pass_rest.Goals as goal

pub passing-init : goal.passing-init
passing-init g c = record { more = []; comes = comes_none g.S.Source.left g.S.Source.faults c.args.came c.args.source.now c.requires.short }

pub read_block-requires-clause-short : goal.read_block-requires-clause-short
read_block-requires-clause-short g c = c.passing.invariant.comes.short

pub returns-in_err-read_block-clause-read : goal.returns-in_err-read_block-clause-read
returns-in_err-read_block-clause-read g c =
    let p = err_from_is_err_and c.from_residual.result c.from_residual.ensures.1 in
    let before = c.passing.invariant in
    rw (p.1, p.2) (stops_later g.S.Source.left g.S.Source.faults c.args.source.now c.passing.source c.read_block.new.source c.args.came c.passing.came before.more before.comes c.in_err-read_block.field-0.0 c.in_err-read_block.ensures.read)

pub returns-then-branch-clause-read : goal.returns-then-branch-clause-read
returns-then-branch-clause-read g c =
    let before = c.passing.invariant in
    let block = c.in_ok-read_block.ensures.read in
    let all = comes_more g.S.Source.left g.S.Source.faults c.args.source.now c.passing.source c.read_block.new.source c.args.came c.passing.came before.more before.comes c.read_block.new.came block.0 block.1 in
    let Ends : Bool → Type 0 = λ b. EndsOrCame b (g.S.Source.left c.read_block.new.source) block.0 in
    (before.more ++ block.0, comes_all g.S.Source.left g.S.Source.faults c.args.came c.read_block.new.came (before.more ++ block.0) c.args.source.now c.read_block.new.source all, subst Ends c.if-branch.true block.3)

pub passing-smaller : goal.passing-smaller
passing-smaller g c =
    let block = c.in_ok-read_block.ensures.read in
    let Ends : Bool → Type 0 = λ b. EndsOrCame b (g.S.Source.left c.read_block.new.source) block.0 in
    let some : 0 < length block.0 = subst Ends c.if-branch.false block.3 in
    omega (arith, some, block.1.count, block.1.short)

pub passing-preserved : goal.passing-preserved
passing-preserved g c =
    let before = c.passing.invariant in
    let block = c.in_ok-read_block.ensures.read in
    record { more = before.more ++ block.0; comes = comes_more g.S.Source.left g.S.Source.faults c.args.source.now c.passing.source c.read_block.new.source c.args.came c.passing.came before.more before.comes c.read_block.new.came block.0 block.1 }
