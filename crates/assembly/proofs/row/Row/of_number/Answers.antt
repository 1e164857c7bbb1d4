use Rattle.assembly.proofs.BoxRows.{row_found}
use Rattle.assembly.proofs.row.Row.of_number.Goals as goal

pub returns-clause-row : goal.returns-clause-row
returns-clause-row c =
    (row_found c.args.area.now c.site_of_index-site.result c.args.number c.requires.limits c.site_of_index-site.ensures.site c.site_of_index-site.ensures.inside).0

pub returns-clause-number : goal.returns-clause-number
returns-clause-number c =
    (row_found c.args.area.now c.site_of_index-site.result c.args.number c.requires.limits c.site_of_index-site.ensures.site c.site_of_index-site.ensures.inside).1
