use Rattle.seq_text.proofs.PlainLines.{front_begins, front_within}
use Rattle.seq_text.proofs.plain.plain_place.Goals as goal

pub overflow_sub-length : goal.overflow_sub-length
overflow_sub-length c = front_within c.args.text.now c.in_ok-site.site c.in_ok-site.fields.now c.in_ok-name.name.now c.in_ok-name.behind.now c.in_ok-site.ensures c.in_ok-name.ensures.cut

pub returns : goal.returns
returns c = front_begins c.args.text.now c.in_ok-site.site c.in_ok-site.fields.now c.in_ok-name.name.now c.in_ok-name.behind.now c.in_ok-site.ensures c.in_ok-name.ensures.cut
