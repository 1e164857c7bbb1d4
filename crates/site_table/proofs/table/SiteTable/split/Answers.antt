use Rattle.std.proofs.Common.{rules, ◌<◌, ◌^◌, ◌≡◌, sym, refl, subst, ap, ◌∙◌}
use Rattle.grow_core.specs.Core.{OwnsTwoOrMore}
use Rattle.site_table.specs.Seats.{TableValue, SeatValue}
use Rattle.site_table.proofs.Spelled.{cells-some, gone_is}
use Rattle.site_table.proofs.Moves.{splits, split_possible}
use Rattle.site_table.proofs.table.SiteTable.split.Goals as goal

pub split_seat-other-requires : goal.split_seat-other-requires
split_seat-other-requires c =
    let v = c.seat.inside.seat.me.0 in
    let key = c.self.inside.table.shared.key in
    let live : 0 < v.owned = c.seat.invariant.2.scout.some_number in
    let sys : v.sys ≡ key = ap (λ (s : SeatValue). s.sys) c.seat.view_is ∙ (c.requires.seat.sys ∙ sym (ap (λ (t : TableValue). t.sys) c.self.view_is)) in
    let two : OwnsTwoOrMore v.owned = subst (λ (s : SeatValue). OwnsTwoOrMore s.scout.owned) (sym c.seat.view_is) c.requires.two in
    (search rules, rw (c.self.invariant.2, c.self.invariant.0) (cells-some _ c.self.invariant.1), splits key _ v live two)

pub overflow_sub-result : goal.overflow_sub-result
overflow_sub-result c =
    let known = c.seat.invariant.2.scout in
    let owned = c.seat.invariant.1 in
    let g = gone_is c.seat.inside.owned (subst (λ n. 0 < n) (sym owned) known.some_number) (subst (λ n. n < 2 ^ 64) (sym owned) known.numbers) in
    rw g.0 g.1

pub invariant_of-result : goal.invariant_of-result
invariant_of-result c =
    let v = c.seat.inside.seat.me.0 in
    let known = c.seat.invariant.2.scout in
    let e = c.split_seat-other.ensures.2 in
    let owned = c.seat.invariant.1 in
    let two : OwnsTwoOrMore v.owned = subst (λ (s : SeatValue). OwnsTwoOrMore s.scout.owned) (sym c.seat.view_is) c.requires.two in
    rw (e, owned, (gone_is v.owned known.some_number known.numbers).0) (c.seat.invariant.0, refl, (split_possible v.sys v c.seat.invariant.2 two).0)

pub invariant_of-result-2 : goal.invariant_of-result-2
invariant_of-result-2 c =
    let v = c.seat.inside.seat.me.0 in
    let known = c.seat.invariant.2.scout in
    let e = c.split_seat-other.ensures.4 in
    let owned = c.seat.invariant.1 in
    let two : OwnsTwoOrMore v.owned = subst (λ (s : SeatValue). OwnsTwoOrMore s.scout.owned) (sym c.seat.view_is) c.requires.two in
    rw (e, owned, (gone_is v.owned known.some_number known.numbers).0) (refl, refl, (split_possible v.sys v c.seat.invariant.2 two).1)
