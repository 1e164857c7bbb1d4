use Rattle.std.proofs.Common.{refl, subst, sym}
use Rattle.atam.specs.TileSystem.{TileSystem}
use Rattle.tile_text.specs.Spelling.{spelling}
use Rattle.counter_compile.specs.Counters.{counter_system}
use Rattle.counter_compile.proofs.Limits.{accepted, is_valid_counter}
use Rattle.tilebench.specs.Spelled.{SpellsSystem}
use Rattle.tilebench.proofs.Spelling.{spelled}
use Rattle.tilebench.proofs.commands.counter.CounterPlainRoom.answer.Goals as goal

pub returns : goal.returns
returns g c =
    let bits = c.args.self.now.bits in
    let start = c.args.self.now.start in
    let sys = counter_system bits start in
    let fine = sym c.in_ok-tiles.ensures.refusal in
    let Spells : TileSystem → Type 0 = λ s. SpellsSystem spelling sys (spelling s) in
    record {
      answer = (
        fine,
        refl,
        subst Spells (sym c.in_ok-tiles.ensures.system) (spelled sys (is_valid_counter bits start (accepted bits start fine))),
        refl,
      );
      prints = tt;
    }
