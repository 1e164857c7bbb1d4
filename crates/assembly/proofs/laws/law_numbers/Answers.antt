use Rattle.std.proofs.Common.{arith}
use Rattle.std.proofs.lemmas.Int.{ints}
use Rattle.assembly.proofs.Cells.{index_of, site_at-injective, site_at-inside, not_before, cell_count-most}
use Rattle.assembly.proofs.laws.law_numbers.Goals as goal

pub returns : goal.returns
returns c = record {
  each = index_of;
  one = site_at-injective;
  inside = site_at-inside;
  order = λ area i j corners ordered. not_before area i j ordered (omega (arith, ints, corners.columns));
  few = cell_count-most;
}
