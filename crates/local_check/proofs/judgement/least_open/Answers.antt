use Rattle.std.proofs.Common.{◌≡◌, ◌*◌, ◌∙◌, sym, ap}
use Rattle.atam.specs.declared.area.BoxArea.{BoxArea}
use Rattle.atam.specs.Sites.{width_of, height_of, InBox}
use Rattle.atam.proofs.Opening.{Fits-part}
use Rattle.atam.proofs.Open.{least_open_same}
use Rattle.atam.proofs.Sequences.{IsLegal-distinct}
use Rattle.local_check.proofs.Judging.{one_map}
use Rattle.local_check.proofs.FullBoxes.{least_open-full}
use Rattle.local_check.proofs.judgement.least_open.Goals as goal

pub least_open_outside-requires-clause-fits : goal.least_open_outside-requires-clause-fits
least_open_outside-requires-clause-fits g c =
    Fits-part c.args.sys.now (g.P.Placed.placements c.args.placed.now) c.args.seq.now c.requires.placements.whole c.requires.fits

pub returns-then-len-width : goal.returns-then-len-width
returns-then-len-width g c =
    let sys = c.args.sys.now in
    let s = c.args.seq.now in
    let tiles = g.P.Placed.placements c.args.placed.now in
    let same = one_map sys s tiles c.recall_valid.ensures.valid.distinct_seeds c.requires.legal c.requires.placements in
    let outside = least_open_same sys tiles s (λ m. ¬ InBox sys.area m) c.least_open_outside.result (λ m. sym (same m)) c.least_open_outside.ensures in
    let distinct = IsLegal-distinct sys s c.recall_valid.ensures.valid.distinct_seeds c.requires.legal in
    let cells : c.width.result * c.height.result ≡ width_of sys.area * height_of sys.area =
    (λ i. c.width.ensures i * c.height.ensures i) ∙ ap (λ (area : BoxArea). width_of area * height_of area) c.area-area.ensures.area
    in
    least_open-full sys s distinct c.requires.fits.sites (sym c.len.ensures ∙ c.if-len-width.true ∙ cells) c.least_open_outside.result outside

pub least_open-requires-clause-fits : goal.least_open-requires-clause-fits
least_open-requires-clause-fits g c =
    Fits-part c.args.sys.now (g.P.Placed.placements c.args.placed.now) c.args.seq.now c.requires.placements.whole c.requires.fits

pub returns : goal.returns
returns g c =
    let sys = c.args.sys.now in
    let s = c.args.seq.now in
    let tiles = g.P.Placed.placements c.args.placed.now in
    let same = one_map sys s tiles c.recall_valid.ensures.valid.distinct_seeds c.requires.legal c.requires.placements in
    least_open_same sys tiles s (λ m. Unit {0}) c.least_open.result (λ m. sym (same m)) c.least_open.ensures
