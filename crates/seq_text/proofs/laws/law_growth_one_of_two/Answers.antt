use Rattle.tile_io.proofs.Laws.{read_or_faulty, fails_once}
use Rattle.seq_text.proofs.Growths.{growth_format}
use Rattle.seq_text.proofs.Fitting.{not_both_places, one_list_of_places}
use Rattle.seq_text.proofs.laws.law_growth_one_of_two.Goals as goal

pub returns : goal.returns
returns c = record {
  one = λ distinct sys. read_or_faulty (growth_format distinct sys);
  not_both = not_both_places;
  one_list = one_list_of_places;
  one_fault = λ distinct sys. fails_once (growth_format distinct sys);
}
