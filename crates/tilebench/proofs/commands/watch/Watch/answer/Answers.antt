use Rattle.tile_text.specs.SystemText.{ReadsAny}
use Rattle.std.proofs.Common.{ℕ, List, refl, subst}
use Rattle.assembly.specs.Grids.{TileGrid}
use Rattle.tilebench.specs.Inputs.{IsAlone}
use Rattle.tilebench.specs.Inner.Rooms.{GrowsTo}
use Rattle.tilebench.proofs.Watches.{frame_types, watched_told}
use Rattle.tilebench.proofs.commands.watch.Watch.answer.Goals as goal

pub returns : goal.returns
returns g c =
    let sys = c.in_ok-sys.sys in
    let table = c.in_ok-frames.grown in
    let frames = c.in_ok-frames.frames in
    let growth = c.growth_of-growth.result in
    let watched = c.in_ok-frames.ensures.watched in
    let into = subst (λ (grid : TileGrid). GrowsTo sys grid.tiles growth) c.grid.ensures c.growth_of-growth.ensures in
    let Alone : List ℕ → Type 0 = λ input. IsAlone ReadsAny input sys in
    record {
      answer = record {
        sys = sys;
        read = subst Alone c.deref.ensures.value c.in_ok-sys.ensures;
        table = table;
        handed_out = refl;
        grew = c.in_ok-frames.ensures.grew;
        told = watched_told sys frames c.args.self.now.frames.count table growth watched into;
      };
      prints = (frame_types sys growth.sys frames.places table.grid.tiles into.same watched.part watched.full, into.types);
    }
