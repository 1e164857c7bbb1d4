use Rattle.std.proofs.Common.{ap, subst, sym}
use Rattle.type_index.specs.Indexes.{AreListsOf}
use Rattle.type_index.proofs.side_lists.SideLists.code.Goals as goal

pub returns-clause-code : goal.returns-clause-code
returns-clause-code c =
    let sys = c.args.sys.now in
    c.code.ensures.code sys c.args.side (subst (AreListsOf sys c.args.side) (sym (ap (λ s. s.bearers) c.self.view_is)) c.requires.lists) c.requires.kind
