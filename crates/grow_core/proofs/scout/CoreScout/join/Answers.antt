use Rattle.std.proofs.Common.{◌≡◌, refl, ap}
use Rattle.grow_core.specs.Inner.Entries.{BoxedScout}
use Rattle.grow_core.proofs.scout.CoreScout.join.Goals as goal

pub merge-requires-clause-agree : goal.merge-requires-clause-agree
merge-requires-clause-agree c =
    let seen : c.self.inside.seen.tiles ≡ c.args.self.now.scout.seen = ap (λ (b : BoxedScout). b.scout.seen) c.self.view_is in
    let other : c.other.inside.seen.tiles ≡ c.args.other.scout.seen = ap (λ (b : BoxedScout). b.scout.seen) c.other.view_is in
    rw (seen, other) c.requires.agree

pub returns-clause-scout : goal.returns-clause-scout
returns-clause-scout c =
    let done = c.unwrap.ensures in
    rw (c.extend_from_slice.ensures.items, done, c.deref.ensures.value, ← c.self.view_is, ← c.other.view_is)
    (record { owned = refl; seen = c.merge.ensures.placements; distinct = c.recall_sites.ensures.distinct; mine = refl })
