use Rattle.std.proofs.Common.{◌≡◌, ◌<◌, ◌+◌, ◌∙◌, ℕ, List, length, Some, slice_get, get_or, Contains, refl, sym, ap, subst, inl, inr, arith, zero-le, true≢false}
use Rattle.std.proofs.lemmas.Bool.{cases_lt}
use Rattle.std.proofs.lemmas.Option.{same_Some, slice_get-get_or}
use Rattle.atam.specs.declared.place.Place.{Place}
use Rattle.atam.proofs.Lists.{Contains-slice_get}
use Rattle.cert_check.specs.Certificates.{places_of}
use Rattle.cert_check.proofs.verifying.first_unlisted.Goals as goal

-- an element by its index, in a list that is another
at_index : (seeds items : List Place) (i : ℕ) (any : Place) → items ≡ seeds → i < length items → slice_get seeds i ≡ Some (get_or items i any)
at_index seeds items i any same below = ap (λ l. slice_get l i) (sym same) ∙ slice_get-get_or items i any below

-- one listed seed more
listed_more : (seeds places : List Place) (i : ℕ) (seed : Place) → slice_get seeds i ≡ Some seed → Contains places seed →
    ((k : ℕ) (p : Place) → k < i → slice_get seeds k ≡ Some p → Contains places p) →
    (k : ℕ) (p : Place) → k < i + 1 → slice_get seeds k ≡ Some p → Contains places p
listed_more seeds places i seed there listed before k p below at = elim (cases_lt k i) [
  | inl less ↦ before k p less at
  | inr last ↦
      let one : k ≡ i = omega (arith, below, last) in
      let At : ℕ → Type 0 = λ j. slice_get seeds j ≡ Some p in
      subst (Contains places) (same_Some seed p (sym there ∙ subst At one at)) listed
]

pub returns-then-not-is_listed : goal.returns-then-not-is_listed
returns-then-not-is_listed c =
    let items = c.seeds-seed-items.result.now in
    let i = c.loop-seed.seed-index in
    record {
      index = i;
      item = get_or items i _;
      later = zero-le;
      there = at_index c.args.sys.now.seeds items i _ c.seeds-seed-items.ensures.seeds c.loop-seed-test.true;
      fails = λ listed. true≢false (sym (c.is_listed.ensures.1 listed) ∙ c.if-not-is_listed.true);
      told = refl;
      before = λ k p from less at. c.loop-seed.invariant k p less at;
    }

pub loop-seed-preserved : goal.loop-seed-preserved
loop-seed-preserved c =
    let seeds = c.args.sys.now.seeds in
    let items = c.seeds-seed-items.result.now in
    let i = c.loop-seed.seed-index in
    listed_more
    seeds (places_of c.args.listing.now.entries) i _
    (at_index seeds items i _ c.seeds-seed-items.ensures.seeds c.loop-seed-test.true)
    (c.is_listed.ensures.0 c.if-not-is_listed.false) c.loop-seed.invariant

pub returns : goal.returns
returns c p seed =
    let seeds = c.args.sys.now.seeds in
    let at = Contains-slice_get seeds p seed in
    let count : length c.seeds-seed-items.result.now ≡ length seeds = ap length c.seeds-seed-items.ensures.seeds in
    c.loop-seed.invariant at.0 p (omega (arith, at.1, count, c.loop-seed-test.false)) at.2
