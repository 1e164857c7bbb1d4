use Rattle.std.proofs.Common.{Option, subst}
use Rattle.atam.specs.declared.site.Site.{Site}
use Rattle.atam.specs.declared.place.TypeId.{TypeId}
use Rattle.atam.specs.Growth.{IsLeastOpen}
use Rattle.local_check.proofs.judgement.verdict_by.Goals as goal

pub returns-in-Some : goal.returns-in-Some
returns-in-Some c sys s legal exact rivals is =
    (exact, rivals, subst (λ (found : Option (Site × TypeId)). IsLeastOpen sys s found) c.in-Some.is is)

pub returns-in-None : goal.returns-in-None
returns-in-None c sys s legal exact rivals is =
    let none = subst (λ (found : Option (Site × TypeId)). IsLeastOpen sys s found) c.in-None.is is in
    record { legal = legal; exact = exact; no_rival = rivals; terminal = λ m t. none m t tt }
