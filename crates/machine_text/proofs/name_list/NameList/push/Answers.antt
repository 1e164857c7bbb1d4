use Rattle.std.proofs.Common.{Some, arith, ap, ◌∙◌}
use Rattle.std.specs.Option.{option_or}
use Rattle.machine_text.proofs.Marking.{held_push}
use Rattle.machine_text.proofs.name_list.NameList.push.Goals as goal

pub invariant_of-self-2 : goal.invariant_of-self-2
invariant_of-self-2 c =
    let inside = c.self.inside in
    let first = c.or-first.ensures ∙ ap (λ o. option_or o (Some c.len.result)) c.first_marked.ensures in
    held_push inside.names.items c.push.new.self.items inside.firsts c.args.self.now c.in_ok-name.name c.args.name.now c.mark_of-mark.result c.from.result c.len.result c.or-first.result
    c.self.invariant.1 c.self.view_is c.in_ok-push.ensures.items (c.in_ok-name.ensures.items_if_clones_equal (λ x y same. same)) c.mark_of-mark.ensures c.from.ensures (omega arith) first c.len.ensures c.requires
