use Rattle.std.proofs.Common.{refl, sym, ap, ◌∙◌, inl, inr}
use Rattle.tile_io.proofs.Laws.{read_or_faulty, fails_once, not_both, reads_once}
use Rattle.quadrant_compile.specs.QuadrantText.{quadrant_format, quadrant_of}
use Rattle.quadrant_compile.proofs.laws.law_quadrant_text.Goals as goal

pub returns : goal.returns
returns c = record {
  one = λ text from. elim (read_or_faulty quadrant_format text from) [
    | inl read ↦ inl (quadrant_of read.0, read.1, record { items = read.0; reads = read.2; quadrant = refl })
    | inr faulty ↦ inr faulty
  ];
  not_both = λ text from to q number cause h fault. not_both quadrant_format text from h.items to number cause h.reads fault;
  one_quadrant = λ text from s t v q g h.
      let same = reads_once quadrant_format text from g.items h.items s t g.reads h.reads in
      (g.quadrant ∙ ap quadrant_of same.0 ∙ sym h.quadrant, same.1);
  one_fault = fails_once quadrant_format;
}
