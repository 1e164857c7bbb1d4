use Rattle.std.proofs.Common.{◌≤◌, ◌<◌, ◌∙◌, length, take, arith, length-take-le}
use Rattle.std.proofs.lemmas.List.{get_or-take}
use Rattle.tile_io.proofs.Cuts.{byte_at, none_before}
use Rattle.tile_io.proofs.line_words.word_among.Goals as goal

pub loop-index-init : goal.loop-index-init
loop-index-init c =
    let bytes = c.args.bytes.now in
    let within : c.args.from ≤ length bytes = omega (arith, c.requires.order, c.requires.within) in
    record {
      within = c.requires.order;
      before = λ k less same.
          let inside : k < length (take c.args.from bytes) = omega (arith, less, within, length-take-le c.args.from bytes within) in
          c.requires.before k 0 inside (get_or-take c.args.from bytes k 0 less ∙ same);
    }

pub returns-then-bytes-index-clause-cut : goal.returns-then-bytes-index-clause-cut
returns-then-bytes-index-clause-cut c =
    let within : c.loop-index.index < length c.args.bytes.now = omega (arith, c.loop-index-test.true, c.requires.within) in
    byte_at c.args.bytes.now c.args.end c.loop-index.index within c.if-bytes-index.true

pub returns-then-bytes-index-clause-first : goal.returns-then-bytes-index-clause-first
returns-then-bytes-index-clause-first c = none_before c.args.bytes.now c.args.end c.loop-index.index c.loop-index.index (λ k less inside. less) c.loop-index.invariant.before

pub returns-then-bytes-index-clause-few : goal.returns-then-bytes-index-clause-few
returns-then-bytes-index-clause-few c =
    let within : c.loop-index.index ≤ length c.args.bytes.now = omega (arith, c.loop-index-test.true, c.requires.within) in
    omega (arith, c.loop-index-test.true, length-take-le c.loop-index.index c.args.bytes.now within)

pub returns-clause-none : goal.returns-clause-none
returns-clause-none c = none_before c.args.bytes.now c.args.end c.args.to c.loop-index.index (λ k less inside. omega (arith, less, c.loop-index-test.false)) c.loop-index.invariant.before
