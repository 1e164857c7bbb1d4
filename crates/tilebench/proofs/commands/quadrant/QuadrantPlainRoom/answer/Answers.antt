use Rattle.quadrant_compile.specs.QuadrantText.{ReadsQuadrant}
use Rattle.std.proofs.Common.{ℕ, List, refl, subst, sym}
use Rattle.tilebench.specs.Inputs.{IsAlone}
use Rattle.atam.specs.TileSystem.{TileSystem}
use Rattle.tile_text.specs.Spelling.{spelling}
use Rattle.quadrant_compile.specs.QuadrantSystems.{quadrant_system}
use Rattle.quadrant_compile.proofs.Named.{quadrant_system_valid}
use Rattle.tilebench.specs.Spelled.{SpellsSystem}
use Rattle.tilebench.proofs.Spelling.{spelled}
use Rattle.tilebench.proofs.commands.quadrant.QuadrantPlainRoom.answer.Goals as goal

pub returns : goal.returns
returns g c =
    let quadrant = c.in_ok-quadrant.quadrant in
    let valid = c.in_ok-quadrant.ensures.valid in
    let Alone : List ℕ → Type 0 = λ input. IsAlone ReadsQuadrant input quadrant in
    let system = quadrant_system quadrant in
    let Spells : TileSystem → Type 0 = λ sys. SpellsSystem spelling system (spelling sys) in
    record {
      answer = record {
        none = refl;
        told = record {
          value = quadrant;
          read = subst Alone c.deref.ensures.value c.in_ok-quadrant.ensures.read;
          holds = valid;
          spells = subst Spells (sym c.in_ok-tiles.ensures) (spelled system (quadrant_system_valid quadrant valid));
          answer = refl;
        };
      };
      prints = tt;
    }
