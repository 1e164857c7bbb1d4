use Rattle.std.proofs.Common.{◌∙◌, List, sym, subst}
use Rattle.std.proofs.lemmas.Option.{slice_get-get_or}
use Rattle.atam.specs.declared.place.Place.{Place}
use Rattle.assembly.proofs.Putting.{take_more}
use Rattle.local_check.specs.Inner.StoodSites.{TellsSites}
use Rattle.local_check.proofs.stood_sites.StoodSites.make.Goals as goal

pub loop-place-preserved : goal.loop-place-preserved
loop-place-preserved c =
    let Told : List Place → Type 0 = λ tiles. TellsSites c.insert.new.self tiles in
    let more = take_more c.args.places.now c.loop-place.place-index _ (slice_get-get_or c.args.places.now c.loop-place.place-index _ c.loop-place-test.true) in
    record {
      area = c.insert.ensures.area ∙ c.loop-place.invariant.area;
      tells = subst Told (sym more) (c.insert.ensures.tells _ c.loop-place.invariant.tells);
    }
