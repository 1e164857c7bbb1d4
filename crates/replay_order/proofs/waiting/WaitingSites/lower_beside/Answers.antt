use Rattle.std.proofs.Common.{subst}
use Rattle.atam.specs.declared.site.Side.{Side}
use Rattle.atam.specs.declared.site.Side.TheVariants.{North, East, South, West}
use Rattle.atam.specs.declared.area.BoxArea.{BoxArea}
use Rattle.replay_order.specs.Inner.Replays.{Waiting, Lowers, given_to}
use Rattle.replay_order.proofs.Lowerings.{Lowers-both}
use Rattle.replay_order.proofs.waiting.WaitingSites.lower_beside.Goals as goal

pub returns : goal.returns
returns c =
    let sys = c.args.bonds.now in
    let tiles = c.args.grid.now.tiles in
    let p = c.args.place in
    let a = c.args.self.now in
    let b = c.lower.new.self in
    let d = c.lower-2.new.self in
    let e = c.lower-3.new.self in
    let f = c.lower-4.new.self in
    let Given : Waiting → Waiting → Side → BoxArea → Type 0 = λ old new side area. Lowers area (given_to sys tiles p side) old new in
    let north : Given a b North a.area = c.lower.ensures in
    let east = subst (Given b d East) north.new_area c.lower-2.ensures in
    let south = subst (Given d e South) east.new_area c.lower-3.ensures in
    let west = subst (Given e f West) south.new_area c.lower-4.ensures in
    Lowers-both a.area _ _ a e f (Lowers-both a.area _ _ a d e (Lowers-both a.area _ _ a b d north east) south) west
