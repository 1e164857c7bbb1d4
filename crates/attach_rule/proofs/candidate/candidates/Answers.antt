use Rattle.std.proofs.Common.{arith, ap, ◌+◌, ◌∙◌, ◌≡◌, length, sym, subst, List}
use Rattle.atam.specs.declared.place.TypeId.{TypeId}
use Rattle.atam.specs.Placements.{tile_at}
use Rattle.attach_rule.proofs.Held.{empty_from, grows_held, fails_unheld, none_unfaced}
use Rattle.attach_rule.proofs.Listed.{AreCandidatesBelow, no_candidates, candidates_none, candidates_kept, candidates_more, candidates_all}
use Rattle.attach_rule.proofs.candidate.candidates.Goals.{then-facing_pull-tau, else-facing_pull-tau}
use Rattle.attach_rule.proofs.candidate.candidates.Goals as goal

-- no glue faces the site
pub returns-then-are_none-clause-types : goal.returns-then-are_none-clause-types
returns-then-are_none-clause-types g c =
    let sys = c.args.sys.now in
    let tiles = g.P.Placed.placements c.args.placed.now in
    no_candidates sys tiles c.args.site c.clear.new.self.types c.clear.ensures.empty
    (none_unfaced sys tiles c.args.site c.glues_facing-glues.result c.glues_facing-glues.ensures.faces (c.are_none.ensures.0 c.if-are_none.true) c.tau-tau.ensures.valid.some_tau)

pub loop-index-init : goal.loop-index-init
loop-index-init g c = record {
  listed = candidates_none c.args.sys.now (g.P.Placed.placements c.args.placed.now) c.args.site c.clear.new.self.types c.clear.ensures.empty;
  room = c.clear.ensures.room;
}

pub loop-index-preserved : goal.loop-index-preserved
loop-index-preserved g c =
    let sys = c.args.sys.now in
    let tiles = g.P.Placed.placements c.args.placed.now in
    let n = c.loop-index.index in
    let types = c.loop-index.into.types in
    let tile : TypeId = record { 0 = n } in
    let listed = c.loop-index.invariant.listed in
    let Lists : List TypeId → Type 0 = AreCandidatesBelow sys tiles c.args.site (n + 1) in
    elim c.if-facing_pull-tau.branch [
      | then-facing_pull-tau w ↦
          let grows = grows_held sys tiles c.args.site c.glues_facing-glues.result c.glues_facing-glues.ensures.faces tile c.facing_pull.result c.facing_pull.ensures.value
          (omega (arith, c.type_count-index-end.ensures.count))
          (empty_from c.at.result (tile_at tiles c.args.site) c.is_some.result c.at.ensures.tile c.is_some.ensures c.if-is_some.false)
          (omega (arith, c.tau-tau.ensures.tau, w.if-facing_pull-tau.true))
          in
          record {
            listed = subst Lists (sym (ap (λ l. l.types) w.into-is ∙ w.push.ensures.types)) (candidates_more sys tiles c.args.site n types listed grows);
            room = ap (λ l. l.room) w.into-is ∙ w.push.ensures.room ∙ c.loop-index.invariant.room;
          }
      | else-facing_pull-tau w ↦
          let fails = fails_unheld sys tiles c.args.site c.glues_facing-glues.result c.glues_facing-glues.ensures.faces tile c.facing_pull.result c.facing_pull.ensures.value
          (omega (arith, c.tau-tau.ensures.tau, w.if-facing_pull-tau.false))
          in
          record {
            listed = subst Lists (sym (ap (λ l. l.types) w.into-is)) (candidates_kept sys tiles c.args.site n types listed fails);
            room = ap (λ l. l.room) w.into-is ∙ c.loop-index.invariant.room;
          }
    ]

pub returns : goal.returns
returns g c =
    let all : c.loop-index.index ≡ length c.args.sys.now.types = omega (arith, c.type_count-index-end.ensures.count) in
    record {
      types = candidates_all c.args.sys.now (g.P.Placed.placements c.args.placed.now) c.args.site c.loop-index.index c.loop-index.into.types all c.loop-index.invariant.listed;
      room = c.loop-index.invariant.room;
    }

pub push-requires : goal.push-requires
push-requires g c =
    let few = c.loop-index.invariant.listed.few in
    record {
      room = omega (arith, few, c.loop-index.invariant.room, c.requires.room, c.type_count-index-end.ensures.count);
      small = omega (arith, few, c.type_count-index-end.type_inv);
    }
