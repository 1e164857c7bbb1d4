use Rattle.std.proofs.Common.{◌≡◌, ◌*◌, ◌∙◌, ℕ, List, ap, sym, subst}
use Rattle.atam.specs.declared.place.Place.{Place}
use Rattle.atam.specs.declared.area.BoxArea.{BoxArea}
use Rattle.atam.specs.Sites.{width_of}
use Rattle.atam.specs.TileSystem.{TileSystem}
use Rattle.assembly.specs.Logs.{RoomyPlaces}
use Rattle.replay_order.specs.Inner.Rows.{begun_by}
use Rattle.replay_order.specs.Inner.Spans.{IsSpanListed, IsListedBehind}
use Rattle.replay_order.proofs.Spans.{listed_alone, listed_on, listed_wider}
use Rattle.replay_order.proofs.by_rows.list_rows.Goals.{then-reached-end+in_ok-_waiting, else-reached-end}
use Rattle.replay_order.proofs.by_rows.list_rows.Goals as goal

pub returns : goal.returns
returns c =
    let sys = c.args.sys.now in
    let grid = c.args.grid.now in
    let can = c.requires.can in
    let from = c.args.rows.start * c.width-width.result in
    let to = c.args.rows.end * c.width-width.result in
    let reached = c.in_ok-reached.reached in
    let wide : c.width-width.result ≡ width_of sys.area = c.width-width.ensures ∙ ap (λ (area : BoxArea). width_of area) c.area.ensures.area in
    let old = c.in_ok-log.log.places in
    let one = c.list_in_turn.new.log.places in
    let InTurn : TileSystem → Type 0 = λ s. IsListedBehind s grid.tiles from reached old one in
    let in_turn : IsListedBehind sys grid.tiles from reached old one = subst InTurn c.in_ok-bonds.ensures c.in_ok-reached.ensures.listed in
    let within = c.in_ok-reached.ensures.within in
    let Listed : RoomyPlaces → Type 0 = λ l. IsListedBehind sys grid.tiles from to old l.places in
    let alone : Listed c.if-reached-end.log =
    elim c.if-reached-end.branch [
      | then-reached-end+in_ok-_waiting w ↦
          let new = w.list_span.new.log.places in
          let Spanned : TileSystem → Type 0 = λ s. IsSpanListed s grid.tiles reached to one new w.in_ok-_waiting._waiting in
          let behind = listed_alone sys grid can reached to one new w.in_ok-_waiting._waiting (subst Spanned c.in_ok-bonds.ensures w.in_ok-_waiting.ensures) in
          subst Listed (sym w.log-is) (listed_on sys grid can from reached to within.0 within.1 old one new in_turn behind)
      | else-reached-end w ↦ subst Listed (sym w.log-is) (listed_wider sys grid can from reached to within.1 old one in_turn)
    ]
    in
    let new = c.if-reached-end.log.places in
    let By : ℕ → List Place → List Place → Type 0 = λ w before after. IsListedBehind sys grid.tiles (c.args.rows.start * w) (c.args.rows.end * w) before after in
    subst (By (width_of sys.area) (begun_by sys c.args.rows.worker)) (sym c.into_sequence.ensures) (
    subst (λ (l : List Place). By (width_of sys.area) l new) c.in_ok-log.ensures.begun (subst (λ (w : ℕ). By w old new) wide alone))
