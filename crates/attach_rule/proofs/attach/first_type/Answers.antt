use Rattle.std.proofs.Common.{arith, inl, inr}
use Rattle.std.proofs.lemmas.Bool.{cases_lt}
use Rattle.atam.specs.Placements.{tile_at}
use Rattle.attach_rule.proofs.Held.{empty_from, grows_held, fails_unheld, none_unfaced, none_more}
use Rattle.attach_rule.proofs.attach.first_type.Goals as goal

-- no glue faces the site
pub returns-then-are_none : goal.returns-then-are_none
returns-then-are_none g c =
    none_unfaced c.args.sys.now (g.P.Placed.placements c.args.placed.now) c.args.site c.glues_facing-glues.result c.glues_facing-glues.ensures.faces
    (c.are_none.ensures.0 c.if-are_none.true) c.tau-tau.ensures.valid.some_tau

pub loop-index-init : goal.loop-index-init
loop-index-init g c = λ t below grows. let never : ⊥ = omega (arith, below) in never

pub loop-index-preserved : goal.loop-index-preserved
loop-index-preserved g c =
    let sys = c.args.sys.now in
    let tiles = g.P.Placed.placements c.args.placed.now in
    let n = c.loop-index.index in
    none_more sys tiles c.args.site n c.loop-index.invariant
    (fails_unheld sys tiles c.args.site c.glues_facing-glues.result c.glues_facing-glues.ensures.faces (record { 0 = n }) c.facing_pull.result c.facing_pull.ensures.value
    (omega (arith, c.tau-tau.ensures.tau)))

-- the first that is held
pub returns-then-facing_pull-tau : goal.returns-then-facing_pull-tau
returns-then-facing_pull-tau g c =
    let sys = c.args.sys.now in
    let tiles = g.P.Placed.placements c.args.placed.now in
    let n = c.loop-index.index in
    record {
      grows = grows_held sys tiles c.args.site c.glues_facing-glues.result c.glues_facing-glues.ensures.faces (record { 0 = n }) c.facing_pull.result c.facing_pull.ensures.value
          (omega (arith, c.type_count-index-end.ensures.count))
          (empty_from c.at.result (tile_at tiles c.args.site) c.is_some.result c.at.ensures.tile c.is_some.ensures c.if-is_some.false)
          (omega (arith, c.tau-tau.ensures.tau));
      least = λ u grows. elim (cases_lt u.0 n) [ inl earlier ↦ absurd (c.loop-index.invariant u earlier grows) | inr rest ↦ rest ];
    }

pub returns : goal.returns
returns g c = λ t grows. c.loop-index.invariant t (omega (arith, grows.kind, c.type_count-index-end.ensures.count)) grows
