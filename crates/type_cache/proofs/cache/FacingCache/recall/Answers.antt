use Rattle.std.proofs.Common.{sym, subst, arith}
use Rattle.type_index.specs.Codes.{IsKeyOf}
use Rattle.type_cache.specs.Findings.{AreFindings}
use Rattle.type_cache.proofs.Keeping.{known_at}
use Rattle.type_cache.proofs.cache.FacingCache.recall.Goals as goal

pub returns-then-finding-key : goal.returns-then-finding-key
returns-then-finding-key c glues of_key =
    let sys = c.args.sys.now in
    let before : AreFindings sys _ = subst (AreFindings sys) (sym c.self.view_is) c.requires in
    known_at sys c.self.inside.findings.items c.slot_of.result c.index-finding.result.now before.known (omega (arith, c.slot_of.ensures, c.self.invariant)) c.index-finding.ensures
    glues (subst (IsKeyOf glues) (sym c.if-finding-key.true) of_key)
