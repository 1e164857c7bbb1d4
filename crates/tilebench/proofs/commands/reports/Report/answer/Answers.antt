use Rattle.tile_text.specs.SystemText.{ReadsAny}
use Rattle.std.proofs.Common.{◌≡◌, ◌∙◌, ℕ, List, ap, length, refl, subst}
use Rattle.std.proofs.lemmas.Result.{err_from_is_err_and}
use Rattle.assembly.specs.Grids.{TileGrid}
use Rattle.tilebench.specs.declared.wins.Win.{Win}
use Rattle.tilebench.specs.Inputs.{IsAlone}
use Rattle.tilebench.specs.Inner.Rooms.{GrowsTo, Reports}
use Rattle.tilebench.proofs.Races.{report_told}
use Rattle.tilebench.proofs.commands.reports.Report.answer.Goals as goal

pub returns : goal.returns
returns g c =
    let workers = c.args.self.now.0.workers in
    let sys = c.in_ok-sys.sys in
    let table = c.in_ok-grown.grown in
    let growth = c.growth_of-growth.result in
    let reported = c.in_ok-reported.reported in
    let grows = subst (λ (grid : TileGrid). GrowsTo sys grid.tiles growth) c.grid.ensures c.growth_of-growth.ensures in
    let count : c.count.result ≡ length table.grid.tiles = c.count.ensures ∙ ap (λ (grid : TileGrid). length grid.tiles) c.grid-2.ensures in
    let told = subst (λ (wins : List Win). Reports growth c.count.result wins reported) c.deref-2.ensures.value c.in_ok-reported.ensures in
    let Alone : List ℕ → Type 0 = λ input. IsAlone ReadsAny input sys in
    record {
      answer = record {
        sys = sys;
        read = subst Alone c.deref.ensures.value c.in_ok-sys.ensures;
        table = table;
        handed_out = refl;
        grew = c.in_ok-grown.ensures.grew;
        told = report_told workers.count sys table growth c.in_ok-wins.wins.items c.count.result _ _ workers.some workers.few c.in_ok-grown.ensures.grew grows
            c.in_ok-wins.ensures.wins c.in_ok-wins.ensures.together count told.line told.unique;
      };
      prints = tt;
    }

pub returns-in_err-reported : goal.returns-in_err-reported
returns-in_err-reported g c =
    let p = err_from_is_err_and c.from_residual-in_err-reported.result c.from_residual-in_err-reported.ensures.1 in
    rw (p.1, p.2) tt
