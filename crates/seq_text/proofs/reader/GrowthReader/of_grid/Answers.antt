use Rattle.std.proofs.Common.{Some, None, [], List, sym, subst, ◌∙◌}
use Rattle.atam.specs.declared.place.Place.{Place}
use Rattle.seq_text.specs.Inner.SoFar.{HoldsLines}
use Rattle.seq_text.proofs.Growths.{holds_nothing}
use Rattle.seq_text.proofs.Scratch.{scratch_none}
use Rattle.seq_text.proofs.reader.GrowthReader.of_grid.Goals as goal

pub returns-clause-nothing : goal.returns-clause-nothing
returns-clause-nothing c =
    let sys = c.args.system.now in
    let grid = c.in-Ok.grid in
    let box_area = c.in-Ok.ensures.area ∙ c.area.ensures.area in
    let Holds : List Place → Type 0 = λ l. HoldsLines sys l (Some grid) None [] in
    subst Holds (sym c.make-2.ensures) (holds_nothing sys (Some grid) box_area (scratch_none sys grid box_area c.in-Ok.ensures.empty))
