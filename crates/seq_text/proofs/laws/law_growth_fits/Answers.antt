use Rattle.std.proofs.Common.{true, false, refl}
use Rattle.seq_text.proofs.Fitting.{places_fit, places_few}
use Rattle.seq_text.proofs.laws.law_growth_fits.Goals as goal

pub returns : goal.returns
returns c = record {
  sequence = λ sys text from places h. (places_fit false sys text from places h).0;
  grid = λ sys text from places h. (let fit = places_fit true sys text from places h in (fit.0, fit.1 refl));
  count = λ distinct sys text from places h. places_few distinct sys text from places h;
}
