use Rattle.std.proofs.Common.{◌≡◌, ◌≤◌, ◌*◌, ◌∙◌, length, ap, sym, subst, arith}
use Rattle.atam.specs.TileSystem.{TileSystem}
use Rattle.assembly.specs.Cells.{cell_count}
use Rattle.replay_order.specs.Inner.Spans.{IsListedBehind}
use Rattle.replay_order.specs.ReplayAnswers.{IsWholeOrder}
use Rattle.replay_order.proofs.Spans.{listed_whole, listed_wider}
use Rattle.replay_order.proofs.canonical.order_in_turn.Goals as goal

pub returns : goal.returns
returns c =
    let sys = c.args.sys.now in
    let grid = c.args.grid.now in
    let can = c.requires.can in
    let sites = c.width.result * c.height.result in
    let listed = c.list_in_turn.new.log.places in
    let cells : sites ≡ cell_count c.area-area.result = λ k. c.width.ensures k * c.height.ensures k in
    let all_sites : sites ≡ cell_count sys.area = cells ∙ ap cell_count (c.area-area.ensures.area ∙ can.area) in
    let Listed : TileSystem → Type 0 = λ s. IsListedBehind s grid.tiles 0 c.in_ok-_reached._reached c.in_ok-log.log.places listed in
    let behind : IsListedBehind sys grid.tiles 0 sites c.in_ok-log.log.places listed =
    listed_wider sys grid can 0 c.in_ok-_reached._reached sites c.in_ok-_reached.ensures.within.1 c.in_ok-log.log.places listed (subst Listed c.requires.bonds c.in_ok-_reached.ensures.listed)
    in
    let all : length grid.tiles ≤ length listed = omega (arith, c.if-len-count.false, c.len.ensures ∙ ap length c.into_sequence-order.ensures, c.count.ensures) in
    subst (IsWholeOrder sys grid.tiles) (sym c.into_sequence-order.ensures)
    (listed_whole sys grid sites c.in_ok-log.log.places listed all_sites c.in_ok-log.ensures.seeds can.valid can.fits can.distinct can.seeded behind all)
