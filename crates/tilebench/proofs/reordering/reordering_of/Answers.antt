use Rattle.tilebench.proofs.reordering.reordering_of.Goals as goal

pub returns-in-Ok-clause-reordered : goal.returns-in-Ok-clause-reordered
returns-in-Ok-clause-reordered c = c.in-Ok.ensures.answer

pub returns-in-Ok-clause-types : goal.returns-in-Ok-clause-types
returns-in-Ok-clause-types c = c.in-Ok.ensures.answer.fits.types

pub missing_seed-requires : goal.missing_seed-requires
missing_seed-requires c = rw c.in-Err-NoSeedThere.field-0-is at c.in-Err-NoSeedThere.ensures.answer
