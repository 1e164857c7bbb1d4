use Rattle.machine_text.specs.MachineText.{ReadsMachine}
use Rattle.std.proofs.Common.{ℕ, List, refl, subst, sym}
use Rattle.tilebench.specs.Inputs.{IsAlone}
use Rattle.atam.specs.TileSystem.{TileSystem}
use Rattle.tile_text.specs.Spelling.{spelling}
use Rattle.turing_compile.specs.Compiled.{compiled}
use Rattle.turing_compile.proofs.Named.{compiled_valid}
use Rattle.tilebench.specs.Spelled.{SpellsSystem}
use Rattle.tilebench.proofs.Spelling.{spelled}
use Rattle.tilebench.proofs.commands.turing.TuringPlainRoom.answer.Goals as goal

pub returns : goal.returns
returns g c =
    let machine = c.in_ok-machine.machine in
    let valid = c.in_ok-machine.ensures.valid in
    let Alone : List ℕ → Type 0 = λ input. IsAlone ReadsMachine input machine in
    let Spells : TileSystem → Type 0 = λ sys. SpellsSystem spelling (compiled machine) (spelling sys) in
    record {
      answer = record {
        none = refl;
        told = record {
          value = machine;
          read = subst Alone c.deref.ensures.value c.in_ok-machine.ensures.read;
          holds = valid;
          spells = subst Spells (sym c.in_ok-tiles.ensures) (spelled (compiled machine) (compiled_valid machine valid));
          answer = refl;
        };
      };
      prints = tt;
    }
