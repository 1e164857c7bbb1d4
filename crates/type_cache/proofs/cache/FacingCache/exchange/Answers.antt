use Rattle.std.proofs.Common.{sym, subst}
use Rattle.type_cache.specs.Findings.{AreFindings, IsHeldList}
use Rattle.type_cache.proofs.cache.FacingCache.exchange.Goals as goal

pub returns-then-is_of-clause-known : goal.returns-then-is_of-clause-known
returns-then-is_of-clause-known c =
    let sys = c.args.sys.now in
    let before : AreFindings sys _ = subst (AreFindings sys) (sym c.self.view_is) c.requires.known in
    record { known = before.known; list = subst (IsHeldList sys) (sym c.swap.ensures.x_after) c.requires.list }

pub returns-then-is_of-clause-list : goal.returns-then-is_of-clause-list
returns-then-is_of-clause-list c =
    let sys = c.args.sys.now in
    let before : AreFindings sys _ = subst (AreFindings sys) (sym c.self.view_is) c.requires.known in
    subst (IsHeldList sys) (sym c.swap.ensures.y_after) before.list
