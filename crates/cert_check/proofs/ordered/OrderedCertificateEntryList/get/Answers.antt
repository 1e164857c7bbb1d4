use Rattle.std.proofs.Common.{◌∙◌, slice_get, Some, sym, ap, arith}
use Rattle.std.proofs.lemmas.Option.{slice_get-get_or}
use Rattle.cert_check.proofs.InOrder.{in_order-at, in_order-within}
use Rattle.cert_check.proofs.ordered.OrderedCertificateEntryList.get.Goals as goal

pub get-place-requires : goal.get-place-requires
get-place-requires c = in_order-within c.self.inside.order c.self.inside.sides.items c.self.invariant.count c.args.self.now c.self.view_is c.args.i c.requires

pub index-sides-requires : goal.index-sides-requires
index-sides-requires c =
    let within = in_order-within c.self.inside.order c.self.inside.sides.items c.self.invariant.count c.args.self.now c.self.view_is c.args.i c.requires in
    omega (arith, within, c.self.invariant.count)

pub overflow_cast-rank : goal.overflow_cast-rank
overflow_cast-rank c =
    let within = in_order-within c.self.inside.order c.self.inside.sides.items c.self.invariant.count c.args.self.now c.self.view_is c.args.i c.requires in
    omega (arith, within, c.self.invariant.few)

pub returns : goal.returns
returns c =
    let sides = c.self.inside.sides.items in
    let within = in_order-within c.self.inside.order sides c.self.invariant.count c.args.self.now c.self.view_is c.args.i c.requires in
    let set = c.index-sides.result.now in
    let there = slice_get-get_or sides c.args.i set (omega (arith, within, c.self.invariant.count)) ∙ ap (λ s. Some s) (sym c.index-sides.ensures) in
    ap (λ l. slice_get l c.args.i) (sym c.self.view_is)
    ∙ in_order-at c.self.inside.order sides c.self.invariant.count c.args.i c.get-place.result set c.get-place.ensures there
