use Rattle.std.proofs.Common.{None, [], List, refl, sym, subst}
use Rattle.atam.specs.declared.place.Place.{Place}
use Rattle.seq_text.specs.Inner.SoFar.{HoldsLines}
use Rattle.seq_text.proofs.Growths.{holds_nothing}
use Rattle.seq_text.proofs.reader.GrowthReader.of_sequence.Goals as goal

pub returns-clause-nothing : goal.returns-clause-nothing
returns-clause-nothing c =
    let Holds : List Place → Type 0 = λ l. HoldsLines c.args.system.now l None None [] in
    subst Holds (sym c.make.ensures) (holds_nothing c.args.system.now None tt refl)
