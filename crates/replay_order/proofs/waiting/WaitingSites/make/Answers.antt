use Rattle.std.proofs.Common.{rules, ◌<◌, ◌≤◌, ◌*◌, ◌≡◌, ◌∙◌, List, length, length-set, get_or, refl, inl, inr, subst, arith}
use Rattle.std.proofs.lemmas.Bool.{cases_lt}
use Rattle.std.proofs.lemmas.List.{take_all}
use Rattle.std.proofs.lemmas.Option.{slice_get-get_or}
use Rattle.atam.specs.declared.place.Place.{Place}
use Rattle.assembly.specs.Cells.{cell_count, site_at}
use Rattle.assembly.proofs.Cells.{cell_count-most}
use Rattle.replay_order.specs.Inner.Replays.{due_at}
use Rattle.replay_order.proofs.Dues.{dues_more, none_due_more}
use Rattle.replay_order.proofs.waiting.WaitingSites.make.Goals as goal

pub loop-seed-init : goal.loop-seed-init
loop-seed-init c =
    let cells : c.width.result * c.height.result ≡ cell_count c.args.area = λ k. c.width.ensures k * c.height.ensures k in
    let first = c.in_ok-resize.ensures in
    let second = c.in_ok-resize-2.ensures in
    let third = c.in_ok-resize-3.ensures in
    let none = c.in_ok-lacks.ensures.len in
    let to_first = first.len in
    let to_end = second.len in
    let span : (c.args.first ≤ c.args.end) × (c.args.end ≤ cell_count c.args.area) = c.requires.span in
    record {
      len = search rules;
      due = λ i from before.
          third.by_index.0 i 0 (omega (arith, before, span.1, cells)) (omega (arith, before, to_end)) ∙ second.by_index.1 i 0 refl (omega (arith, from, to_first)) before;
      before = λ i below.
          third.by_index.0 i 0 (omega (arith, below, span.0, span.1, cells)) (omega (arith, below, span.0, to_end))
          ∙ second.by_index.0 i 0 (omega (arith, below, span.0)) (omega (arith, below, to_first))
          ∙ first.by_index.1 i 0 refl (omega (arith, none)) below;
      after = λ i later below. third.by_index.1 i 0 refl (omega (arith, later, to_end)) (omega (arith, below, cells));
    }

pub loop-seed-preserved : goal.loop-seed-preserved
loop-seed-preserved c =
    let number = c.site_index.result in
    let lacks = c.loop-seed.lacks.items in
    let within : number < length lacks = omega (arith, c.site_index.ensures.within, c.loop-seed.invariant.len) in
    let there = slice_get-get_or c.args.seeds.now c.loop-seed.seed-index _ c.loop-seed-test.true in
    record {
      len = omega (arith, c.loop-seed.invariant.len, length-set lacks number 0);
      due = λ i from before.
          dues_more c.args.area c.args.seeds.now c.loop-seed.seed-index _ c.args.tau lacks number c.requires.distinct there c.site_index.ensures.site within i (c.loop-seed.invariant.due i from before);
      before = λ i below.
          none_due_more c.args.area c.args.seeds.now c.loop-seed.seed-index _ c.args.tau lacks number c.requires.distinct there c.site_index.ensures.site within i (c.loop-seed.invariant.before i below);
      after = λ i later below.
          none_due_more c.args.area c.args.seeds.now c.loop-seed.seed-index _ c.args.tau lacks number c.requires.distinct there c.site_index.ensures.site within i (c.loop-seed.invariant.after i later below);
    }

pub returns-clause-lacks : goal.returns-clause-lacks
returns-clause-lacks c = λ i within.
    let all : length c.args.seeds.now ≤ c.loop-seed.seed-index = c.loop-seed-test.false in
    let Due : List Place → Type 0 = λ seeds. get_or c.loop-seed.lacks.items i 0 ≡ due_at seeds c.args.tau (site_at c.args.area i) in
    subst Due (take_all c.loop-seed.seed-index c.args.seeds.now all) (c.loop-seed.invariant.due i within.from within.before)

pub returns-clause-others : goal.returns-clause-others
returns-clause-others c = λ i below outside. elim (cases_lt i c.args.first) [
  | inl before ↦ c.loop-seed.invariant.before i before
  | inr from ↦ elim (cases_lt i c.args.end) [
    | inl within ↦ absurd (outside (record { from = from; before = within }))
    | inr after ↦ c.loop-seed.invariant.after i after below
  ]
]

pub overflow_mul-sites : goal.overflow_mul-sites
overflow_mul-sites c =
    let cells : c.width.result * c.height.result ≡ cell_count c.args.area = λ k. c.width.ensures k * c.height.ensures k in
    omega (arith, cells, cell_count-most c.args.area c.requires.limits)
