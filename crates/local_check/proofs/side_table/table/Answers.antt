use Rattle.std.specs.Cow.{cow_value}
use Rattle.std.proofs.Common.{◌≡◌, ◌∙◌, length, ap, arith}
use Rattle.std.proofs.lemmas.List.{length-map}
use Rattle.local_check.specs.Inner.PlaceSides.{PlaceSides, earlier_sets, output_sets}
use Rattle.local_check.proofs.Judging.{inexact_whole, rival_whole}
use Rattle.local_check.proofs.Sides.{table}
use Rattle.local_check.proofs.side_table.table.Goals as goal

pub returns : goal.returns
returns c s legal placements index found =
    let items = c.args.survey.sides.items in
    let count : length items ≡ length s = omega (arith, found.count) in
    table c.args.sys.now s (cow_value c.args.grid).tiles (earlier_sets items) (output_sets items) c.recall_valid.ensures.valid.distinct_seeds legal
    (length-map items (λ (a : PlaceSides). a.earlier) ∙ count) (length-map items (λ (a : PlaceSides). a.outputs) ∙ count)
    found.earlier found.outputs placements
    (length c.seeds.result.now) (ap length c.seeds.ensures.seeds) (cow_value c.args.index) index
    c.args.survey.breaches.inexact (inexact_whole c.args.sys.now s (length s) c.args.survey.breaches.inexact found.inexact)
    c.args.survey.breaches.rival (rival_whole c.args.sys.now s (length s) c.args.survey.breaches.rival found.rival)
