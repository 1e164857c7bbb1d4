use Rattle.std.proofs.Common.{get_or, pos, arith}
use Rattle.std.proofs.lemmas.Grind.{common_steps}
use Rattle.atam.specs.declared.place.Place.{Place}
use Rattle.assembly.proofs.Comparing.{Decides-place, take-both_more}
use Rattle.assembly.proofs.sequence.Sequence.starts_with.Goals as goal

pub loop-index-preserved : goal.loop-index-preserved
loop-index-preserved c =
    let places = c.args.places.now in
    let i = c.loop-index.index in
    let any : Place = record { site = record { y = pos 0; x = pos 0 }; tile = record { 0 = 0 } } in
    record {
      within = c.loop-index.invariant.within;
      begins =
          take-both_more c.args.self.now places i c.get.result any c.loop-index-test.true c.get.ensures
          ((Decides-place c.get.result (get_or places i any)).0 (grind (arith, common_steps, c.if-ne.ensures)))
          c.loop-index.invariant.begins;
    }
