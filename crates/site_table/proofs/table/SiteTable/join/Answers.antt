use Rattle.std.proofs.Common.{rules, ◌≡◌, ◌<◌, ◌∙◌, ap, sym, subst, refl, bit_or, Some, ◌++◌}
use Rattle.atam.specs.declared.site.Site.{Site}
use Rattle.atam.specs.declared.place.TypeId.{TypeId}
use Rattle.atam.specs.TileSystem.{TileSystem}
use Rattle.atam.specs.Placements.{tile_at}
use Rattle.grow_core.specs.Core.{ScoutState}
use Rattle.grow_core.specs.Steps.{IsScoutOf}
use Rattle.site_table.specs.declared.view.SeatView.{SeatView}
use Rattle.site_table.specs.Rule.{IsPossible}
use Rattle.site_table.specs.Views.{scout_of, united_view}
use Rattle.site_table.specs.Seats.{TableValue, SeatValue, IsPartOfGrowth}
use Rattle.site_table.proofs.Spelled.{cells-some, either-some}
use Rattle.site_table.proofs.Listed.{seen_together-same, seen_together-agree}
use Rattle.site_table.proofs.Moves.{joins, checks, part_of_growth}
use Rattle.site_table.proofs.table.SiteTable.join.Goals as goal

pub join_seat-requires : goal.join_seat-requires
join_seat-requires c =
    let v = c.first.inside.seat.me.0 in
    let w = c.second.inside.seat.me.0 in
    let key = c.self.inside.table.shared.key in
    let known = c.first.invariant.2.scout in
    let live_w : 0 < w.owned = c.second.invariant.2.scout.some_number in
    let sys : v.sys ≡ key = ap (λ (s : SeatValue). s.sys) c.first.view_is ∙ (c.requires.first.sys ∙ sym (ap (λ (t : TableValue). t.sys) c.self.view_is)) in (
      search rules,
      search rules,
      c.second.invariant.0,
      rw (c.self.invariant.2, c.self.invariant.0) (cells-some _ c.self.invariant.1),
      joins key _ _ v w known.some_number live_w,
    )

pub load-requires : goal.load-requires
load-requires c =
    let v = c.first.inside.seat.me.0 in
    let w = c.second.inside.seat.me.0 in
    let key = c.self.inside.table.shared.key in
    let me = c.join_seat.ensures.2 in
    let known = c.first.invariant.2.scout in
    let sys : v.sys ≡ key = ap (λ (s : SeatValue). s.sys) c.first.view_is ∙ (c.requires.first.sys ∙ sym (ap (λ (t : TableValue). t.sys) c.self.view_is)) in
    let live : 0 < c.join_seat.new.seat.me.0.owned = subst (λ (m : SeatView). 0 < m.owned) (sym (ap (λ x. x.0) me)) (either-some v.owned w.owned known.some_number known.numbers) in
    let same : c.join_seat.new.seat.me.0.sys ≡ key = ap (λ x. x.0.sys) me ∙ sys in
    (search rules, rw (c.self.invariant.2, c.self.invariant.0) (cells-some _ c.self.invariant.1), checks key _ _ _ _ live)

pub invariant_of-result : goal.invariant_of-result
invariant_of-result c =
    let v = c.first.inside.seat.me.0 in
    let w = c.second.inside.seat.me.0 in
    let checked = c.load.ensures.2 in
    let me : c.load.new.seat.me ≡ (united_view v w, c.first.inside.seat.me.1) = checked.same ∙ c.join_seat.ensures.2 in
    let real : IsPossible v.sys (scout_of (united_view v w)) = subst (λ (x : SeatView). IsPossible x.sys (scout_of x)) (ap (λ x. x.0) c.join_seat.ensures.2) checked.possible in
    rw me (
      c.first.invariant.0,
      ap (λ n. bit_or n c.second.inside.owned) c.first.invariant.1 ∙ ap (bit_or v.owned) c.second.invariant.1,
      real,
    )

pub returns-clause-union : goal.returns-clause-union
returns-clause-union c =
    let v = c.first.inside.seat.me.0 in
    let w = c.second.inside.seat.me.0 in
    let checked = c.load.ensures.2 in
    let real : IsPossible v.sys (scout_of (united_view v w)) = subst (λ (x : SeatView). IsPossible x.sys (scout_of x)) (ap (λ x. x.0) c.join_seat.ensures.2) checked.possible in
    let one : scout_of v ≡ c.args.first.scout = ap (λ (s : SeatValue). s.scout) c.first.view_is in
    let two : scout_of w ≡ c.args.second.scout = ap (λ (s : SeatValue). s.scout) c.second.view_is in
    let new : scout_of (united_view v w) ≡ scout_of c.load.new.seat.me.0 = sym (ap (λ x. scout_of x.0) (checked.same ∙ c.join_seat.ensures.2)) in
    let is : IsScoutOf (bit_or v.owned w.owned) (v.seen ++ w.seen) (v.mine ++ w.mine) (scout_of (united_view v w)) =
    record { owned = refl; seen = seen_together-same v.seen w.seen; distinct = real.scout.distinct; mine = refl } in
    subst (λ (p : ScoutState × ScoutState × ScoutState). IsScoutOf (bit_or p.0.owned p.1.owned) (p.0.seen ++ p.1.seen) (p.0.mine ++ p.1.mine) p.2) (λ i. (one i, two i, new i)) is

pub returns-clause-agree : goal.returns-clause-agree
returns-clause-agree c =
    let v = c.first.inside.seat.me.0 in
    let w = c.second.inside.seat.me.0 in
    let real : IsPossible v.sys (scout_of (united_view v w)) = subst (λ (x : SeatView). IsPossible x.sys (scout_of x)) (ap (λ x. x.0) c.join_seat.ensures.2) c.load.ensures.2.possible in
    let one : scout_of v ≡ c.args.first.scout = ap (λ (s : SeatValue). s.scout) c.first.view_is in
    let two : scout_of w ≡ c.args.second.scout = ap (λ (s : SeatValue). s.scout) c.second.view_is in
    subst (λ (p : ScoutState × ScoutState). (m : Site) (t u : TypeId) → tile_at p.0.seen m ≡ Some t → tile_at p.1.seen m ≡ Some u → t ≡ u) (λ i. (one i, two i))
    (seen_together-agree v.seen w.seen real.scout.distinct)

pub returns-clause-part : goal.returns-clause-part
returns-clause-part c =
    let v = c.first.inside.seat.me.0 in
    let w = c.second.inside.seat.me.0 in
    let checked = c.load.ensures.2 in
    let real : IsPossible v.sys (scout_of (united_view v w)) = subst (λ (x : SeatView). IsPossible x.sys (scout_of x)) (ap (λ x. x.0) c.join_seat.ensures.2) checked.possible in
    let sys : v.sys ≡ c.args.self.now.sys = ap (λ (s : SeatValue). s.sys) c.first.view_is ∙ c.requires.first.sys in
    let new : scout_of (united_view v w) ≡ scout_of c.load.new.seat.me.0 = sym (ap (λ x. scout_of x.0) (checked.same ∙ c.join_seat.ensures.2)) in
    subst (λ (p : TileSystem × ScoutState). IsPartOfGrowth p.0 p.1.seen) (λ i. (sys i, new i)) (part_of_growth v.sys (scout_of (united_view v w)) real)
