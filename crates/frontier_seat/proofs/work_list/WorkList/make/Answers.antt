use Rattle.std.proofs.Common.{◌*◌, ◌∙◌}
use Rattle.frontier_seat.proofs.work_list.WorkList.make.Goals as goal

pub invariant_of-result : goal.invariant_of-result
invariant_of-result c =
    let wide = c.width.ensures in
    let high = c.height.ensures in
    (c.requires, c.in_ok-make.ensures.bound ∙ (λ k. wide k * high k))
