use Rattle.std.proofs.Common.{◌≡◌, ◌+◌, ◌-◌, ◌++◌, ◌∷◌, [], ◌∙◌, ap, map, arith}
use Rattle.std.specs.List.{range_with_len}
use Rattle.quadrant_compile.specs.declared.tile.Kind.TheVariants.{Corner, Bottom, Left, Cell}
use Rattle.quadrant_compile.proofs.Joining.{joined}
use Rattle.quadrant_compile.proofs.listing.kinds.Goals as goal

pub returns : goal.returns
returns c =
    let q = c.args.quadrant.now in
    let width : c.width.result + 1 - 1 ≡ q.width = omega (arith, c.width.ensures) in
    let height : c.height.result + 1 - 1 ≡ q.height = omega (arith, c.height.ensures) in
    c.in_ok-append-3.ensures.items
    ∙ ap (λ l. l ++ c.in_ok-cells.field-0.items)
    (c.in_ok-append-2.ensures.items ∙ ap (λ l. l ++ c.in_ok-lefts.field-0.items) (c.in_ok-append.ensures.items ∙ ap (λ l. l ++ c.in_ok-bottoms.field-0.items) (c.in_ok-push.ensures.items ∙ ap (λ l. l ++ Corner ∷ []) c.new-kinds.ensures.items)))
    ∙ joined (Corner ∷ []) c.in_ok-bottoms.field-0.items c.in_ok-lefts.field-0.items c.in_ok-cells.field-0.items (Corner ∷ []) _ _ _
    (λ z. Corner ∷ [])
    (c.in_ok-bottoms.ensures ∙ ap (λ n. map Bottom (range_with_len 1 n)) width)
    (c.in_ok-lefts.ensures ∙ ap (λ n. map Left (range_with_len 1 n)) height)
    (c.in_ok-cells.ensures ∙ ap (λ l. map (λ p. Cell p.0 p.1) l) c.ruled.ensures)
