use Rattle.tile_text.specs.SystemText.{ReadsAny}
use Rattle.std.proofs.Common.{ℕ, List, refl, subst}
use Rattle.tilebench.specs.Inputs.{IsAlone}
use Rattle.tilebench.proofs.commands.race.Race.answer.Goals as goal

pub returns : goal.returns
returns g c =
    let sys = c.in_ok-sys.sys in
    let table = c.in_ok-grown.grown in
    let Alone : List ℕ → Type 0 = λ input. IsAlone ReadsAny input sys in
    record {
      answer = record {
        sys = sys;
        read = subst Alone c.deref.ensures.value c.in_ok-sys.ensures;
        table = table;
        handed_out = refl;
        grew = c.in_ok-grown.ensures;
        told = c.in_ok-raced.ensures;
      };
      prints = tt;
    }
