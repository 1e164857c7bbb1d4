use Rattle.assembly.proofs.BoxRows.{site_found}
use Rattle.assembly.proofs.row.Row.site.Goals as goal

pub returns-clause-site : goal.returns-clause-site
returns-clause-site c = (site_found c.args.area.now c.moved_to.result c.args.number c.requires.limits c.moved_to.ensures.row c.moved_to.ensures.number).0

pub returns-clause-inside : goal.returns-clause-inside
returns-clause-inside c = (site_found c.args.area.now c.moved_to.result c.args.number c.requires.limits c.moved_to.ensures.row c.moved_to.ensures.number).1
