use Rattle.std.proofs.Common.{◌≡◌, ◌<◌, length, Option, IfSome, sym, subst, ap, ◌∙◌}
use Rattle.quadrant_compile.specs.declared.rule.Answer.{Answer}
use Rattle.quadrant_compile.specs.Quadrants.{RuleQuadrant, IsQuadrant, answer_among}
use Rattle.quadrant_compile.proofs.Ruling.{answer_in_range}
use Rattle.quadrant_compile.proofs.quadrant.Quadrant.answer.Goals as goal

pub returns-clause-east : goal.returns-clause-east
returns-clause-east c =
    let q : RuleQuadrant = c.args.self.now in
    let is : c.find.result ≡ answer_among q.rules c.args.west c.args.south = c.find.ensures ∙ ap (λ (v : RuleQuadrant). answer_among v.rules c.args.west c.args.south) c.self.view_is in
    let valid : IsQuadrant q = subst IsQuadrant c.self.view_is c.self.invariant.quadrant in
    subst (λ (found : Option Answer). IfSome found (λ answer. answer.east < length q.symbols)) (sym is) (answer_in_range q valid c.args.west c.args.south).0

pub returns-clause-north : goal.returns-clause-north
returns-clause-north c =
    let q : RuleQuadrant = c.args.self.now in
    let is : c.find.result ≡ answer_among q.rules c.args.west c.args.south = c.find.ensures ∙ ap (λ (v : RuleQuadrant). answer_among v.rules c.args.west c.args.south) c.self.view_is in
    let valid : IsQuadrant q = subst IsQuadrant c.self.view_is c.self.invariant.quadrant in
    subst (λ (found : Option Answer). IfSome found (λ answer. answer.north < length q.symbols)) (sym is) (answer_in_range q valid c.args.west c.args.south).1
