use Rattle.std.proofs.Common.{sym, ◌∙◌}
use Rattle.std.proofs.Math.Facts.{Fits-lt-pow}
use Rattle.seq_text.proofs.Keyword.{keyword_at}
use Rattle.seq_text.proofs.plain.behind_keyword.Goals as goal

pub returns : goal.returns
returns c =
    let front = c.in_ok-front.front.now in
    let back = c.in_ok-back.back.now in
    let outer = c.in_ok-front.ensures.cases in
    let inner = c.in_ok-back.ensures.cases in
    let plac = sym c.from_le_bytes.ensures ∙ c.if-from_le_bytes.false ∙ c.from_le_bytes-2.ensures in
    let e = sym c.from_le_bytes-3.ensures ∙ c.if-from_le_bytes-2.false ∙ c.from_le_bytes-4.ensures in
    keyword_at c.args.text.now front c.in_ok-front.rest.now back c.in_ok-back.fields.now (λ i. Fits-lt-pow (c.type_inv.text i)) outer.0 outer.1 outer.2 inner.0 inner.1 inner.2 plac e
