use Rattle.cert_text.proofs.PlainLines.{front_begins, front_within, rank_reads}
use Rattle.cert_text.proofs.plain.plain_mark.Goals as goal

pub overflow_sub-length : goal.overflow_sub-length
overflow_sub-length c =
    let found = c.in_ok-rank.ensures.starts in
    front_within c.args.text.now c.in_ok-site.site c.in_ok-site.name.now c.in_ok-site.sides.now c.in_ok-site.fields.now found.word c.in_ok-rank.behind.now c.in_ok-site.ensures found.cut

pub returns : goal.returns
returns c =
    let rank = c.in_ok-rank.rank in
    let behind = c.in_ok-rank.behind.now in
    let fields = c.in_ok-site.fields.now in
    let found = c.in_ok-rank.ensures.starts in
    front_begins c.args.text.now c.in_ok-site.site c.in_ok-site.name.now c.in_ok-site.sides.now fields found.word behind c.in_ok-site.ensures found.cut rank (rank_reads fields behind rank found c.in_ok-rank.ensures.small)
