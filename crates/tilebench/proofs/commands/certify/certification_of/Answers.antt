use Rattle.tilebench.proofs.Certificates.{unordered_given, whole_given}
use Rattle.tilebench.proofs.commands.certify.certification_of.Goals as goal

pub certification_by-requires-clause-ordered : goal.certification_by-requires-clause-ordered
certification_by-requires-clause-ordered c =
    whole_given c.args.sys.now c.args.grid.now.tiles c.in-Whole.order c.in_ok-reordering.reordering c.in_ok-reordering.ensures.reordered c.in-Whole.is

pub returns-in-Whole-clause-certified : goal.returns-in-Whole-clause-certified
returns-in-Whole-clause-certified c = c.certification_by.ensures.certified

pub returns-in-Whole-clause-types : goal.returns-in-Whole-clause-types
returns-in-Whole-clause-types c = c.certification_by.ensures.types

pub returns-in_default : goal.returns-in_default
returns-in_default c = record {
  certified = unordered_given c.args.sys.now c.args.grid.now.tiles c.in_ok-reordering.reordering c.in_ok-reordering.ensures.reordered c.in_default.not-Whole;
  types = c.in_ok-reordering.ensures.types;
}
