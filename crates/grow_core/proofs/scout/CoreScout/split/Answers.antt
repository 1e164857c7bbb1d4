use Rattle.std.proofs.Common.{◌≡◌, ◌<◌, ◌^◌, ◌==◌, not, filter, OnOk, refl, ap, subst, arith, rules}
use Rattle.std.proofs.lemmas.Nat.{one_shl}
use Rattle.std.proofs.lemmas.Fn.{filter_same}
use Rattle.atam.specs.Placements.{HasDistinctSites}
use Rattle.grow_core.specs.declared.placed_tile.PlacedTile.{PlacedTile}
use Rattle.grow_core.specs.Inner.Entries.{BoxedScout}
use Rattle.grow_core.proofs.Assembled.{same_seen}
use Rattle.grow_core.proofs.Numbers.{IsTop, top}
use Rattle.grow_core.proofs.scout.CoreScout.split.Goals as goal

pub overflow_sub-self : goal.overflow_sub-self
overflow_sub-self c =
    let owned : c.self.inside.owned ≡ c.args.self.now.scout.owned = ap (λ (b : BoxedScout). b.scout.owned) c.self.view_is in
    let number = c.last_number-number.ensures.value in
    let small : c.self.inside.owned < 2 ^ 64 = omega arith in
    let is_top : IsTop c.args.self.now.scout.owned = top c.args.self.now.scout.owned c.requires.some_number (rw (← owned) small) in
    let low = is_top.low in
    rw (one_shl c.last_number-number.result 64 c.last_number-number.ensures.within, number, owned) low

pub returns-clause-kept : goal.returns-clause-kept
returns-clause-kept c =
    let owned : c.self.inside.owned ≡ c.args.self.now.scout.owned = ap (λ (b : BoxedScout). b.scout.owned) c.self.view_is in
    let mine : c.self.inside.mine.items ≡ c.args.self.now.scout.mine = ap (λ (b : BoxedScout). b.scout.mine) c.self.view_is in
    let seen : c.self.inside.seen.tiles ≡ c.args.self.now.scout.seen = ap (λ (b : BoxedScout). b.scout.seen) c.self.view_is in
    let number = c.last_number-number.ensures.value in
    let kept : c.retain.new.self.items ≡ filter (λ (t : PlacedTile). not (t.placer == c.last_number-number.result)) c.self.inside.mine.items =
    filter_same _ _ _ (λ x b f' k. search rules) _ _ c.retain.ensures.filtered in
    record {
      owned = rw (one_shl c.last_number-number.result 64 c.last_number-number.ensures.within, number, owned) refl;
      seen = rw seen (same_seen c.args.self.now.scout.seen);
      distinct = rw seen (subst (λ r. OnOk r (HasDistinctSites c.args.self.now.scout.seen)) c.in-Ok.is c.given_part.ensures.distinct);
      mine = rw (kept, number, mine) refl;
    }
