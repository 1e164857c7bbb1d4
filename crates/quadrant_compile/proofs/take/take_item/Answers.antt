use Rattle.std.proofs.Common.{Ok, sym, ap, subst}
use Rattle.quadrant_compile.specs.declared.line_kind.LineKind.{LineKind}
use Rattle.quadrant_compile.specs.Quadrants.{RuleQuadrant}
use Rattle.quadrant_compile.specs.Inner.Keywords.{word_of_kind, row_of, quadrant_row, end_row}
use Rattle.quadrant_compile.specs.Inner.SoFar.{quadrant_in}
use Rattle.machine_text.specs.NameChecks.{Gets}
use Rattle.quadrant_compile.proofs.take.take_item.Goals as goal

pub returns-in-Quadrant : goal.returns-in-Quadrant
returns-in-Quadrant c = λ earlier same.
    let q = quadrant_in c.args.parts.now in
    let words = c.args.words.now in
    let Taken : LineKind → Type 0 = λ kind. Gets (word_of_kind kind) ((row_of kind).fields earlier words) q q c.check_version.result in
    let Told : RuleQuadrant → Type 0 = λ v. Gets quadrant_row.word (quadrant_row.fields v words) q q c.check_version.result in
    subst Taken (sym c.in-Quadrant.is) (subst Told same (c.check_version.ensures q))

pub returns-in-End : goal.returns-in-End
returns-in-End c = λ earlier same.
    let q = quadrant_in c.args.parts.now in
    let Taken : LineKind → Type 0 = λ kind. Gets (word_of_kind kind) ((row_of kind).fields earlier c.args.words.now) q q (Ok tt) in
    subst Taken (sym c.in-End.is) (ap (λ (v : RuleQuadrant). Ok (end_row.word, v)) (sym same))
