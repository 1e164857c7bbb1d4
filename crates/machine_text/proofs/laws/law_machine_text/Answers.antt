use Rattle.std.proofs.Common.{refl, sym, ap, ◌∙◌, inl, inr}
use Rattle.tile_io.proofs.Laws.{read_or_faulty, fails_once, not_both, reads_once}
use Rattle.machine_text.specs.MachineText.{machine_format, machine_of}
use Rattle.machine_text.proofs.laws.law_machine_text.Goals as goal

pub returns : goal.returns
returns c = record {
  one = λ text from. elim (read_or_faulty machine_format text from) [
    | inl read ↦ inl (machine_of read.0, read.1, record { items = read.0; reads = read.2; machine = refl })
    | inr faulty ↦ inr faulty
  ];
  not_both = λ text from to M number cause h fault. not_both machine_format text from h.items to number cause h.reads fault;
  one_machine = λ text from s t M N g h.
      let same = reads_once machine_format text from g.items h.items s t g.reads h.reads in
      (g.machine ∙ ap machine_of same.0 ∙ sym h.machine, same.1);
  one_fault = fails_once machine_format;
}
