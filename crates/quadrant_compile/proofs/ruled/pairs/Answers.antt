use Rattle.std.proofs.Common.{ap, ◌∙◌, sym, ◌++◌}
use Rattle.design.proofs.Listings.{pairs_from, pairs_from-more}
use Rattle.quadrant_compile.proofs.ruled.pairs.Goals as goal

pub loop-west-preserved : goal.loop-west-preserved
loop-west-preserved c =
    c.in_ok-append.ensures.items
    ∙ ap (λ xs. xs ++ c.in_ok-pairs_with.field-0.items) c.loop-west.invariant
    ∙ ap (λ xs. pairs_from c.args.symbols 0 c.loop-west.west ++ xs) c.in_ok-pairs_with.ensures
    ∙ sym (pairs_from-more c.args.symbols c.loop-west.west)
