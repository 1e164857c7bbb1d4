use Rattle.std.proofs.Common.{◌≡◌, ◌+◌, ◌-◌, ◌++◌, ◌∙◌, ap, map, arith}
use Rattle.std.specs.List.{range_with_len}
use Rattle.quadrant_compile.specs.declared.tile.Label.TheVariants.{Eastward, Northward, Column, Row}
use Rattle.quadrant_compile.proofs.Joining.{joined}
use Rattle.quadrant_compile.proofs.listing.labels.Goals as goal

pub returns : goal.returns
returns c =
    let q = c.args.quadrant.now in
    let width : c.width.result + 1 - 1 ≡ q.width = omega (arith, c.width.ensures) in
    let height : c.height.result + 1 - 1 ≡ q.height = omega (arith, c.height.ensures) in
    c.in_ok-append-3.ensures.items
    ∙ ap (λ l. l ++ c.in_ok-rows.field-0.items) (c.in_ok-append-2.ensures.items ∙ ap (λ l. l ++ c.in_ok-columns.field-0.items) c.in_ok-append.ensures.items)
    ∙ joined c.in_ok-labels.labels.items c.in_ok-northwards.field-0.items c.in_ok-columns.field-0.items c.in_ok-rows.field-0.items _ _ _ _
    (c.in_ok-labels.ensures ∙ ap (λ n. map Eastward (range_with_len 0 n)) c.symbols-2.ensures.count)
    (c.in_ok-northwards.ensures ∙ ap (λ n. map Northward (range_with_len 0 n)) c.symbols-3.ensures.count)
    (c.in_ok-columns.ensures ∙ ap (λ n. map Column (range_with_len 1 n)) width)
    (c.in_ok-rows.ensures ∙ ap (λ n. map Row (range_with_len 1 n)) height)
