use Rattle.std.proofs.Common.{subst, sym}
use Rattle.local_check.specs.Inner.StoodSites.{StoodTable, TellsSites}
use Rattle.local_check.proofs.StoodSites.{none_outside}
use Rattle.local_check.proofs.stood_sites.StoodSites.is_beside.Goals as goal

pub returns-in-None : goal.returns-in-None
returns-in-None c tiles told =
    let Told : StoodTable → Type 0 = λ sites. TellsSites sites tiles in
    none_outside c.self.inside.area tiles _ (subst Told (sym c.self.view_is) told).inside c.in-None.ensures
