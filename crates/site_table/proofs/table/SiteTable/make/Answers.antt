use Rattle.std.proofs.Common.{refl}
use Rattle.site_table.proofs.Moves.{opens, first_possible}
use Rattle.site_table.proofs.table.SiteTable.make.Goals as goal

pub of_words-requires : goal.of_words-requires
of_words-requires c =
    let sys = c.args.sys.now in
    rw c.as_slice.ensures.value ((opens sys c.in_ok-words.words.items c.in_ok-words.ensures.valid c.in_ok-words.ensures.words).0)

pub invariant_of-result-2 : goal.invariant_of-result-2
invariant_of-result-2 c = rw c.in_ok-table.ensures.4 (refl, refl, first_possible c.args.sys.now c.in_ok-words.ensures.valid)
