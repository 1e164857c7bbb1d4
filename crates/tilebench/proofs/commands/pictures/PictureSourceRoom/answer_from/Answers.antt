use Rattle.std.proofs.Common.{refl, ap}
use Rattle.std.proofs.lemmas.Result.{err_from_is_err_and}
use Rattle.atam.specs.TileSystem.{TileSystem}
use Rattle.assembly.specs.Grids.{TileGrid}
use Rattle.tilebench.specs.Inputs.{IsSystemThen, ReadsAssembly}
use Rattle.std.proofs.Common.{true, All}
use Rattle.atam.specs.TileSystem.{IsType}
use Rattle.atam.specs.declared.area.BoxArea.{BoxArea}
use Rattle.picture.specs.Pictures.{picture_text}
use Rattle.tilebench.specs.declared.commands.pictures.Pictured.{Pictured}
use Rattle.tilebench.specs.Inner.CommandRows.{picture_row}
use Rattle.tilebench.specs.Inner.Gives.{HoldsWhole}
use Rattle.tilebench.proofs.Fronts.{reading_stop}
use Rattle.tilebench.proofs.commands.pictures.PictureSourceRoom.answer_from.Goals as goal

pub returns-in_err-sys-clause-answer : goal.returns-in_err-sys-clause-answer
returns-in_err-sys-clause-answer g c =
    let p = err_from_is_err_and c.from_residual.result c.from_residual.ensures.1 in
    rw (p.1, p.2) (reading_stop g.S.Source.left g.S.Source.faults (λ (r : Pictured). true) (λ (r : Pictured). picture_text r.sys r.grid) (λ (r : Pictured). All (λ p. IsType r.sys p.tile) r.grid.tiles) picture_row refl (HoldsWhole (λ input (found : TileSystem × TileGrid). IsSystemThen ReadsAssembly input found.0 found.1.tiles)) c.args.source.now c.system_and_grid.new.source c.in_err-sys.field-0.0 c.in_err-sys.ensures.read)

pub returns-clause-answer : goal.returns-clause-answer
returns-clause-answer g c =
    let read = c.in_ok-sys.ensures.read in
    let input = read.0.0 in (
      record {
        answer = record {
          input = input;
          whole = λ _. read.0.1;
          unread = λ no. absurd (cc no);
          answer = record { none = refl; told = (c.in_ok-sys.sys, c.in_ok-sys.grid.tiles, read.0.2, (ap (λ (area : BoxArea). picture_text c.in_ok-sys.sys (record { area = area; tiles = c.in_ok-sys.grid.tiles })) c.in_ok-sys.ensures.area, refl)) };
        };
        prints = c.in_ok-sys.ensures.fits.types;
      },
      read.1,
    )
