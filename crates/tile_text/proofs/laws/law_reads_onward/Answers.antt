use Rattle.tile_text.proofs.Onward.{any_on, any_mark_on}
use Rattle.tile_text.proofs.laws.law_reads_onward.Goals as goal

pub returns : goal.returns
returns c = record {
  same = λ front behind from to sys within reads. any_on front behind from to sys within reads;
  mark = λ front behind from to sys within mark reads. any_mark_on front behind from to sys within mark reads;
}
