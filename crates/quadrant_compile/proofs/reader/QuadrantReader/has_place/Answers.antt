use Rattle.std.proofs.Common.{◌+◌, ◌-◌, ℕ, length, sym, ap, subst, ◌∙◌, arith}
use Rattle.std.specs.Prelude.{nat_le}
use Rattle.quadrant_compile.specs.declared.border.Border.{Border}
use Rattle.quadrant_compile.specs.declared.border.Border.TheVariants as borders
use Rattle.quadrant_compile.specs.Inner.Borders.{HasPlace, border_kind}
use Rattle.quadrant_compile.specs.Inner.SoFar.{quadrant_in}
use Rattle.quadrant_compile.proofs.Borders.{has_place}
use Rattle.quadrant_compile.proofs.reader.QuadrantReader.has_place.Goals as goal

pub returns-in-Bottom : goal.returns-in-Bottom
returns-in-Bottom c = λ has.
    let r = c.args.self.now in
    let words = c.args.words.now in
    let Place : Border → Type 0 = λ b. HasPlace b (quadrant_in r.parts) r.last words in
    let room = c.has_columns.ensures ∙ ap (λ (n : ℕ). nat_le (length r.parts.bottom.items + (n - 1)) r.parts.width) c.len-count.ensures in
    let kind = c.kind.ensures ∙ ap border_kind c.in-Bottom.is in
    subst Place (sym c.in-Bottom.is)
    (has_place borders.Bottom (quadrant_in r.parts) r.last words c.kind.result c.len-count.result c.may_stand.result c.has_columns.result c.len-count.ensures (omega arith) kind c.may_stand.ensures c.if-not-may_stand.false room has)

pub returns-in-Left : goal.returns-in-Left
returns-in-Left c = λ has.
    let r = c.args.self.now in
    let words = c.args.words.now in
    let Place : Border → Type 0 = λ b. HasPlace b (quadrant_in r.parts) r.last words in
    let room = c.has_rows.ensures ∙ ap (λ (n : ℕ). nat_le (length r.parts.left.items + (n - 1)) r.parts.height) c.len-count.ensures in
    let kind = c.kind.ensures ∙ ap border_kind c.in-Left.is in
    subst Place (sym c.in-Left.is)
    (has_place borders.Left (quadrant_in r.parts) r.last words c.kind.result c.len-count.result c.may_stand.result c.has_rows.result c.len-count.ensures (omega arith) kind c.may_stand.ensures c.if-not-may_stand.false room has)
