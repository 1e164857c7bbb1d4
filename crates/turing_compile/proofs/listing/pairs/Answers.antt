use Rattle.std.proofs.Common.{ap, ◌∙◌, sym, length, ◌++◌}
use Rattle.design.proofs.Listings.{pairs_from, pairs_from-more}
use Rattle.turing_compile.proofs.listing.pairs.Goals as goal

pub loop-state-preserved : goal.loop-state-preserved
loop-state-preserved c =
    c.in_ok-append.ensures.items
    ∙ ap (λ xs. xs ++ c.in_ok-pairs_of_state.field-0.items) c.loop-state.invariant
    ∙ ap (λ xs. pairs_from (length c.args.machine.now.symbols) 0 c.loop-state.state ++ xs) c.in_ok-pairs_of_state.ensures
    ∙ sym (pairs_from-more (length c.args.machine.now.symbols) c.loop-state.state)
