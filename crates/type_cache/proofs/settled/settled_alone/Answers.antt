use Rattle.std.proofs.Common.{◌∙◌, sym}
use Rattle.type_cache.proofs.Settling.{no_other_held, settles_alone}
use Rattle.type_cache.proofs.settled.settled_alone.Goals as goal

pub returns : goal.returns
returns c =
    let sys = c.args.sys.now in
    let glues = c.args.glues.now in
    let tile = c.in-Some.tile in
    let sole = no_other_held sys glues tile c.other_than.result (sym c.is_some.ensures ∙ c.if-is_some.false) (c.other_than.ensures.held sys glues c.requires.found) in
    settles_alone sys glues tile c.bonds-bonds.result c.settled_sides.result sole c.bonds-bonds.ensures.bonds (sym c.sum.ensures.sum ∙ (c.if-sum-tau.false ∙ c.tau.ensures.tau)) c.settled_sides.ensures
