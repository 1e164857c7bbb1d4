use Rattle.std.proofs.Common.{◌∙◌, ap, sym, subst}
use Rattle.atam.specs.Sites.{opposite}
use Rattle.atam.specs.TileSystem.{TileSystem, side_glue}
use Rattle.replay_order.specs.Inner.SideGlues.{AreGluesOfAll, IsGlueOn, glue_on}
use Rattle.replay_order.proofs.SideGlues.{bond_alike, glues_read}
use Rattle.replay_order.proofs.bonds.Bonds.between.Goals as goal

pub returns-then-own-other : goal.returns-then-own-other
returns-then-own-other c tiles m there =
    let sys = c.args.self.now in
    let rows = c.self.inside.glues.items in
    let Of : TileSystem → Type 0 = λ s. AreGluesOfAll s rows in
    let all = subst Of c.self.view_is c.self.invariant in
    let own = glues_read sys rows c.args.tile c.index.result.now all c.requires.kind c.index.ensures c.args.side in
    let other = glues_read sys rows c.args.beside c.index-2.result.now all c.requires.beside c.index-2.ensures (opposite c.args.side) in
    bond_alike sys tiles m c.args.tile c.args.side c.args.beside there c.on-own.result c.on-other.result
    (subst (IsGlueOn sys (side_glue sys c.args.tile c.args.side)) (sym c.on-own.ensures) own)
    (subst (IsGlueOn sys (side_glue sys c.args.beside (opposite c.args.side))) (sym (c.on-other.ensures ∙ ap (glue_on c.index-2.result.now) c.opposite.ensures)) other)
    c.if-own-other.true
