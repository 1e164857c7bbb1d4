use Rattle.std.proofs.Common.{refl}
use Rattle.std.proofs.lemmas.Result.{err_from_is_err_and}
use Rattle.atam.specs.TileSystem.{TileSystem}
use Rattle.assembly.specs.Grids.{TileGrid}
use Rattle.tilebench.specs.Inputs.{IsSystemThen, ReadsAssembly}
use Rattle.tilebench.specs.declared.commands.replay.Replayed.{Replayed}
use Rattle.tilebench.specs.Inner.Reorderings.{is_whole, reordering_text}
use Rattle.tilebench.specs.Inner.CommandRows.{replay_row}
use Rattle.tilebench.specs.Inner.Rooms.{OrdersTypes}
use Rattle.tilebench.proofs.Orders.{replay_answer}
use Rattle.tilebench.specs.Inner.Gives.{HoldsWhole}
use Rattle.tilebench.proofs.Fronts.{reading_stop}
use Rattle.tilebench.proofs.commands.replay.ReplaySourceRoom.answer_from.Goals as goal

pub returns-in_err-sys-clause-answer : goal.returns-in_err-sys-clause-answer
returns-in_err-sys-clause-answer g c =
    let p = err_from_is_err_and c.from_residual.result c.from_residual.ensures.1 in
    rw (p.1, p.2) (reading_stop g.S.Source.left g.S.Source.faults (λ (r : Replayed). is_whole r.reordering) (λ (r : Replayed). reordering_text r.sys r.reordering) (λ (r : Replayed). OrdersTypes r.sys r.reordering) replay_row refl (HoldsWhole (λ input (found : TileSystem × TileGrid). IsSystemThen ReadsAssembly input found.0 found.1.tiles)) c.args.source.now c.system_and_grid.new.source c.in_err-sys.field-0.0 c.in_err-sys.ensures.read)

pub returns-in_err-reordering-clause-answer : goal.returns-in_err-reordering-clause-answer
returns-in_err-reordering-clause-answer g c =
    let p = err_from_is_err_and c.from_residual-in_err-reordering.result c.from_residual-in_err-reordering.ensures.1 in
    rw (p.1, p.2) c.in_ok-sys.ensures.read.1

pub returns-clause-answer : goal.returns-clause-answer
returns-clause-answer g c =
    let read = c.in_ok-sys.ensures.read in
    let input = read.0.0 in (
      record {
        answer = record {
          input = input;
          whole = λ _. read.0.1;
          unread = λ no. absurd (cc no);
          answer = record { none = refl; told = (c.in_ok-sys.sys, c.in_ok-sys.grid.tiles, read.0.2, replay_answer input c.in_ok-sys.sys c.in_ok-sys.grid.tiles c.in_ok-reordering.reordering read.0.2 c.in_ok-reordering.ensures.reordered) };
        };
        prints = c.in_ok-reordering.ensures.types;
      },
      read.1,
    )
