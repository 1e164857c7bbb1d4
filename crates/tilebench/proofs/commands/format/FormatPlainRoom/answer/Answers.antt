use Rattle.tile_text.specs.SystemText.{ReadsAny}
use Rattle.std.proofs.Common.{ℕ, List, refl, subst}
use Rattle.tilebench.specs.Inputs.{IsAlone}
use Rattle.tile_text.proofs.Eithers.{any_valid}
use Rattle.tilebench.proofs.Spelling.{spelled}
use Rattle.tilebench.proofs.commands.format.FormatPlainRoom.answer.Goals as goal

pub returns : goal.returns
returns g c =
    let sys = c.in_ok-sys.sys in
    let Alone : List ℕ → Type 0 = λ input. IsAlone ReadsAny input sys in
    let read = subst Alone c.deref.ensures.value c.in_ok-sys.ensures in
    let valid = any_valid c.args.input.items _ read.end sys read.reads in
    record {
      answer = record { none = refl; told = record { value = sys; read = read; holds = valid; spells = spelled sys valid; answer = refl } };
      prints = tt;
    }
