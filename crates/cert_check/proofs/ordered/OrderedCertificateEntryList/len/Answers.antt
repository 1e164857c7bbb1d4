use Rattle.std.proofs.Common.{◌∙◌, length, sym, ap}
use Rattle.cert_check.proofs.InOrder.{in_order-length}
use Rattle.cert_check.proofs.ordered.OrderedCertificateEntryList.len.Goals as goal

pub returns : goal.returns
returns c = c.len.ensures ∙ sym (in_order-length c.self.inside.order c.self.inside.sides.items c.self.invariant.count) ∙ ap length c.self.view_is
