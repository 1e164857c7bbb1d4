use Rattle.std.proofs.Common.{◌≡◌, ◌∙◌, List, length, take, true≢false, sym, subst}
use Rattle.atam.specs.declared.place.Place.{Place}
use Rattle.local_check.proofs.once.judge_once.Goals as goal

pub judge_begun-requires-clause-begun : goal.judge_begun-requires-clause-begun
judge_begun-requires-clause-begun c =
    let Begins : List Place → Type 0 = λ l. take (length l) c.args.seq.now ≡ l in
    subst Begins c.seeds.ensures.seeds (c.starts_with.ensures.0 c.if-starts_with.true)

pub returns : goal.returns
returns c =
    let Begins : List Place → Type 0 = λ l. take (length l) c.args.seq.now ≡ l in (
      λ e. absurd (cc e),
      λ begun. absurd (true≢false (sym (c.starts_with.ensures.1 (subst Begins (sym c.seeds.ensures.seeds) begun)) ∙ c.if-starts_with.false)),
    )
