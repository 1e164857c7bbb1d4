use Rattle.std.proofs.Common.{◌∙◌, sym, subst, ap, arith}
use Rattle.atam.specs.Sites.{InBox}
use Rattle.assembly.specs.Cells.{cell_count, site_at}
use Rattle.local_check.specs.Inner.StoodSites.{StoodTable, TellsSites}
use Rattle.local_check.proofs.StoodSites.{tells_more}
use Rattle.local_check.proofs.stood_sites.StoodSites.insert.Goals as goal

pub returns-clause-tells : goal.returns-clause-tells
returns-clause-tells c tiles told =
    let own = c.self.inside in
    let Told : StoodTable → Type 0 = λ sites. TellsSites sites tiles in
    let Inside : StoodTable → Type 0 = λ sites. InBox sites.area c.args.place.site in
    tells_more own.area own.stood.items c.args.number c.args.place
    (omega (arith, c.requires.within, c.self.invariant.count, ap (λ w. cell_count w.area) c.self.view_is))
    (ap (λ w. site_at w.area c.args.number) c.self.view_is ∙ c.requires.number)
    (subst Inside (sym c.self.view_is) c.requires.inside)
    tiles c.self.invariant.count (subst Told (sym c.self.view_is) told)
