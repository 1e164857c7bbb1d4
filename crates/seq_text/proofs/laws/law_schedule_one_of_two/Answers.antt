use Rattle.tile_io.proofs.Laws.{read_or_faulty, fails_once, not_both, reads_once}
use Rattle.seq_text.specs.ScheduleText.{schedule_format}
use Rattle.seq_text.proofs.laws.law_schedule_one_of_two.Goals as goal

pub returns : goal.returns
returns c = record {
  one = λ sys. read_or_faulty (schedule_format sys);
  not_both = λ sys text from events number cause h fault. not_both (schedule_format sys) text from events h.to number cause h.reads fault;
  one_list = λ sys text from a b g h. (reads_once (schedule_format sys) text from a b g.to h.to g.reads h.reads).0;
  one_fault = λ sys. fails_once (schedule_format sys);
}
