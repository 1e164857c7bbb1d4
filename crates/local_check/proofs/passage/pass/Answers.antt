use Rattle.std.proofs.Common.{◌≡◌, ◌<◌, ℕ, ◌∙◌, false, true≢false, is_some, List, length, take, Option, Some, None, arith, sym, ap, subst, refl}
use Rattle.std.proofs.Math.Seq.{take-length}
use Rattle.atam.specs.declared.site.Site.{Site}
use Rattle.atam.specs.declared.area.BoxArea.{BoxArea}
use Rattle.atam.specs.declared.place.Place.{Place}
use Rattle.atam.specs.declared.place.TypeId.{TypeId}
use Rattle.atam.specs.Sites.{InBox, neighbor}
use Rattle.atam.specs.Placements.{SamePlacements, tile_at}
use Rattle.atam.specs.TileSystem.{IsType}
use Rattle.atam.specs.Assembly.{pull}
use Rattle.atam.specs.Growth.{IsLegal}
use Rattle.atam.proofs.Lists.{All-slice_get, seeds_within}
use Rattle.atam.proofs.Opening.{Fits-part, pull-beside}
use Rattle.atam.proofs.Sequences.{IsLegal-distinct, IsLegal-seeds}
use Rattle.atam.proofs.Tiles.{SameTiles, SameTiles-from}
use Rattle.assembly.specs.Cells.{cell_count, site_at}
use Rattle.assembly.proofs.Putting.{part_take, same_empty, SamePlacements-more}
use Rattle.replay_order.proofs.Sequences.{first_taken, first_weak, legal_more}
use Rattle.type_cache.specs.Clean.{AllCleanBelow}
use Rattle.local_check.proofs.Judging.{exact_all, exact_more, inexact_whole}
use Rattle.local_check.specs.Judgement.{FindsInexact}
use Rattle.type_cache.proofs.Settling.{comes_same}
use Rattle.local_check.proofs.Clean.{clean_all, clean_more}
use Rattle.local_check.proofs.passage.pass.Goals as goal

-- an option that isn't some is none
unless_some : (o : Option TypeId) → is_some o ≡ false → o ≡ None
unless_some None h = refl
unless_some (Some t) h = absurd (true≢false h)

pub loop-index-init : goal.loop-index-init
loop-index-init g c =
    let sys = c.args.sys.now in
    let s = c.args.seq.now in
    let first : length sys.seeds ≡ length c.seeds.result.now = ap length (sym c.seeds.ensures.seeds) in
    let begun : sys.seeds ≡ take (length c.seeds.result.now) s = sym c.requires.can.begun ∙ ap (λ n. take n s) first in
    record {
      area = c.requires.can.area;
      seeded = omega (arith, first);
      within = omega (arith, first, seeds_within sys.seeds s c.requires.can.begun);
      legal = subst (λ (l : List Place). IsLegal sys l) begun (IsLegal-seeds sys c.tau-tau.ensures.valid.seed_types);
      placed = subst (λ (l : List Place). SamePlacements l c.args.grid.now.tiles) begun c.requires.can.seeds;
      known = c.in_ok-glances.ensures;
      inexact = λ i p later from below there. let never : ⊥ = omega (arith, first, later, below) in absurd never;
      exact = λ known i p later from below there. let never : ⊥ = omega (arith, first, later, below) in absurd never;
      clean = λ said i p later below there. let never : ⊥ = omega (arith, first, later, below) in absurd never;
    }

pub site_index-number-requires-clause-inside : goal.site_index-number-requires-clause-inside
site_index-number-requires-clause-inside g c =
    let in_system = All-slice_get (λ p. InBox c.args.sys.now.area p.site) c.args.seq.now c.loop-index.index c.get-place.result c.requires.can.fits.sites c.get-place.ensures in
    subst (λ (area : BoxArea). InBox area c.get-place.result.site) (sym (c.area.ensures.area ∙ c.loop-index.invariant.area)) in_system

pub is_taken-requires-clause-within : goal.is_taken-requires-clause-within
is_taken-requires-clause-within g c =
    let In : BoxArea → Type 0 = λ area. c.site_index-number.result < cell_count area in
    subst In c.area.ensures.area c.site_index-number.ensures.within

pub is_taken-requires-clause-known : goal.is_taken-requires-clause-known
is_taken-requires-clause-known g c known =
    let s = c.args.seq.now in
    let i = c.loop-index.index in
    let p = c.get-place.result in
    let tiles = c.loop-index.grid.tiles in
    let At : BoxArea → Type 0 = λ area. site_at area c.site_index-number.result ≡ p.site in
    let site : site_at c.loop-index.grid.area c.site_index-number.result ≡ p.site =
    subst At c.area.ensures.area c.site_index-number.ensures.site
    in
    let empty =
    (c.requires.known known).each i p c.loop-index.invariant.seeded c.get-place.ensures
    in
    ap (λ (m : Site). tile_at tiles m) site
    ∙ same_empty (take i s) tiles c.loop-index.invariant.placed p.site empty.empty

pub returns-then-is_taken-clause-passed : goal.returns-then-is_taken-clause-passed
returns-then-is_taken-clause-passed g c =
    let p = c.get-place.result in
    let tiles = c.loop-index.grid.tiles in
    let At : BoxArea → Type 0 = λ area. site_at area c.site_index-number.result ≡ p.site in
    let site : site_at c.loop-index.grid.area c.site_index-number.result ≡ p.site =
    subst At c.area.ensures.area c.site_index-number.ensures.site
    in (
      λ e. absurd (cc e),
      first_taken c.args.sys.now c.args.seq.now tiles c.loop-index.index p
          c.loop-index.invariant.seeded c.get-place.ensures
          c.loop-index.invariant.legal c.loop-index.invariant.placed
          (tile_at tiles p.site) refl
          (ap (λ (m : Site). is_some (tile_at tiles m)) (sym site)
          ∙ sym c.is_taken.ensures ∙ c.if-is_taken.true),
    )

pub at-glance-requires-clause-fits : goal.at-glance-requires-clause-fits
at-glance-requires-clause-fits g c =
    Fits-part c.args.sys.now c.loop-index.grid.tiles c.args.seq.now
    (λ q contains. part_take c.args.seq.now c.loop-index.index q (c.loop-index.invariant.placed.whole q contains)) c.requires.can.fits

pub at-glance-requires-clause-kind : goal.at-glance-requires-clause-kind
at-glance-requires-clause-kind g c =
    All-slice_get (λ p. IsType c.args.sys.now p.tile) c.args.seq.now c.loop-index.index c.get-place.result c.requires.can.fits.types c.get-place.ensures

pub at-glance-requires-clause-inside : goal.at-glance-requires-clause-inside
at-glance-requires-clause-inside g c =
    let in_system = All-slice_get (λ p. InBox c.args.sys.now.area p.site) c.args.seq.now c.loop-index.index c.get-place.result c.requires.can.fits.sites c.get-place.ensures in
    subst (λ (area : BoxArea). InBox area c.get-place.result.site) (sym c.loop-index.invariant.area) in_system

pub at-glance-requires-clause-within : goal.at-glance-requires-clause-within
at-glance-requires-clause-within g c =
    let In : BoxArea → Type 0 = λ area. c.site_index-number.result < cell_count area in
    subst In c.area.ensures.area c.site_index-number.ensures.within

pub at-glance-requires-clause-number : goal.at-glance-requires-clause-number
at-glance-requires-clause-number g c =
    let At : BoxArea → Type 0 = λ area. site_at area c.site_index-number.result ≡ c.get-place.result.site in
    subst At c.area.ensures.area c.site_index-number.ensures.site

pub returns-then-pull-tau-clause-passed : goal.returns-then-pull-tau-clause-passed
returns-then-pull-tau-clause-passed g c =
    let p = c.get-place.result in
    let tiles = c.loop-index.grid.tiles in
    let At : BoxArea → Type 0 = λ area. site_at area c.site_index-number.result ≡ p.site in
    let site : site_at c.loop-index.grid.area c.site_index-number.result ≡ p.site =
    subst At c.area.ensures.area c.site_index-number.ensures.site
    in (
      λ e. absurd (cc e),
      first_weak c.args.sys.now c.args.seq.now tiles c.loop-index.index p
          c.loop-index.invariant.seeded c.get-place.ensures
          c.loop-index.invariant.legal c.loop-index.invariant.placed
          c.tau-tau.ensures.valid.distinct_seeds c.area.ensures.distinct
          (tile_at tiles p.site) refl
          (ap (λ (m : Site). is_some (tile_at tiles m)) (sym site)
          ∙ sym c.is_taken.ensures ∙ c.if-is_taken.false)
          c.at-glance.result.sum c.at-glance.ensures.glance.sum
          (omega (arith, c.if-pull-tau.true, c.tau-tau.ensures.tau)),
    )

pub returns-then-is_last-clause-passed : goal.returns-then-is_last-clause-passed
returns-then-is_last-clause-passed g c =
    let sys = c.args.sys.now in
    let s = c.args.seq.now in
    let i = c.loop-index.index in
    let p = c.get-place.result in
    let tiles = c.loop-index.grid.tiles in
    let last = c.is_last.ensures.last c.if-is_last.true in
    let same : SameTiles (take i s) tiles =
    SameTiles-from (take i s) tiles
    (IsLegal-distinct sys (take i s) c.tau-tau.ensures.valid.distinct_seeds
    c.loop-index.invariant.legal) c.loop-index.invariant.placed
    in
    let sum : pull sys (take i s) p.site p.tile ≡ c.at-glance.result.sum =
    pull-beside sys (take i s) tiles p.site p.tile (λ d. same (neighbor p.site d))
    ∙ sym c.at-glance.ensures.glance.sum
    in (
      c.requires.known last.0,
      record {
        index = i;
        item = p;
        later = c.loop-index.invariant.seeded;
        there = c.get-place.ensures;
        fails = λ exact. last.1 (sym sum ∙ exact ∙ sym c.tau-tau.ensures.tau);
        told = (refl, sum);
        before = λ j q later below at_j.
            c.loop-index.invariant.exact last.0 j q later (omega arith) below at_j;
      },
    )

pub put_at-requires-clause-within : goal.put_at-requires-clause-within
put_at-requires-clause-within g c =
    let In : BoxArea → Type 0 = λ area. c.site_index-number.result < cell_count area in
    subst In c.area.ensures.area c.site_index-number.ensures.within

pub put_at-requires-clause-number : goal.put_at-requires-clause-number
put_at-requires-clause-number g c =
    let At : BoxArea → Type 0 = λ area. site_at area c.site_index-number.result ≡ c.get-place.result.site in
    subst At c.area.ensures.area c.site_index-number.ensures.site

pub put_at-requires-clause-empty : goal.put_at-requires-clause-empty
put_at-requires-clause-empty g c =
    let p = c.get-place.result in
    let tiles = c.loop-index.grid.tiles in
    let At : BoxArea → Type 0 = λ area. site_at area c.site_index-number.result ≡ p.site in
    let site : site_at c.loop-index.grid.area c.site_index-number.result ≡ p.site =
    subst At c.area.ensures.area c.site_index-number.ensures.site
    in
    unless_some (tile_at tiles p.site)
    (ap (λ (m : Site). is_some (tile_at tiles m)) (sym site)
    ∙ sym c.is_taken.ensures ∙ c.if-is_taken.false)

pub put_at-requires-clause-small : goal.put_at-requires-clause-small
put_at-requires-clause-small g c =
    let kind = All-slice_get (λ p. IsType c.args.sys.now p.tile) c.args.seq.now c.loop-index.index c.get-place.result c.requires.can.fits.types c.get-place.ensures in
    omega (arith, kind, c.tau-tau.ensures.valid.type_count)

pub loop-index-preserved : goal.loop-index-preserved
loop-index-preserved g c =
    let sys = c.args.sys.now in
    let s = c.args.seq.now in
    let i = c.loop-index.index in
    let p = c.get-place.result in
    let tiles = c.loop-index.grid.tiles in
    let distinct = c.tau-tau.ensures.valid.distinct_seeds in
    let At : BoxArea → Type 0 = λ area. site_at area c.site_index-number.result ≡ p.site in
    let site : site_at c.loop-index.grid.area c.site_index-number.result ≡ p.site = subst At c.area.ensures.area c.site_index-number.ensures.site in
    let free : is_some (tile_at tiles p.site) ≡ false =
    ap (λ (m : Site). is_some (tile_at tiles m)) (sym site)
    ∙ sym c.is_taken.ensures ∙ c.if-is_taken.false
    in
    let kind = All-slice_get (λ q. IsType sys q.tile) s i p c.requires.can.fits.types c.get-place.ensures in
    let same : SameTiles (take i s) tiles = SameTiles-from (take i s) tiles (IsLegal-distinct sys (take i s) distinct c.loop-index.invariant.legal) c.loop-index.invariant.placed in
    let sum : pull sys (take i s) p.site p.tile ≡ c.at-glance.result.sum =
    pull-beside sys (take i s) tiles p.site p.tile (λ d. same (neighbor p.site d)) ∙ sym c.at-glance.ensures.glance.sum
    in
    record {
      area = c.put_at.ensures.area ∙ c.loop-index.invariant.area;
      seeded = omega (arith, c.loop-index.invariant.seeded);
      within = omega (arith, c.loop-index-test.true, c.len-index-end.ensures);
      legal =
          legal_more sys s tiles i p c.loop-index.invariant.seeded c.get-place.ensures
          c.loop-index.invariant.legal c.loop-index.invariant.placed distinct c.area.ensures.distinct
          (tile_at tiles p.site) refl free
          c.at-glance.result.sum c.at-glance.ensures.glance.sum kind
          (omega (arith, c.if-pull-tau.false, c.tau-tau.ensures.tau));
      placed = SamePlacements-more s i p tiles c.put_at.new.self.tiles c.get-place.ensures c.loop-index.invariant.placed c.put_at.ensures.placements;
      known = c.at-glance.ensures.known;
      exact = λ known. exact_more sys s 0 i p c.get-place.ensures (c.loop-index.invariant.exact known)
          (sum ∙ c.is_last.ensures.further c.if-is_last.false known ∙ c.tau-tau.ensures.tau);
      inexact = c.see.ensures.inexact 0 p (omega arith) c.loop-index.invariant.inexact c.loop-index.invariant.seeded c.get-place.ensures sum;
      clean = λ said.
          let both = c.is_clean_after-clean.ensures said in
          clean_more sys s i p c.get-place.ensures (c.loop-index.invariant.clean both.0)
          (comes_same sys tiles (take i s) p.site p.tile (λ m. sym (same m)) (c.at-glance.ensures.glance.clean both.1));
    }

pub returns-in-Some-clause-passed : goal.returns-in-Some-clause-passed
returns-in-Some-clause-passed g c =
    let sys = c.args.sys.now in
    let s = c.args.seq.now in
    let all : c.loop-index.index ≡ length s =
    omega (arith, c.loop-index-test.false, c.loop-index.invariant.within, c.len-index-end.ensures)
    in
    let whole : take c.loop-index.index s ≡ s = ap (λ n. take n s) all ∙ take-length s in
    let found = inexact_whole sys s c.loop-index.index c.loop-index.breaches.inexact
    c.loop-index.invariant.inexact
    in (
      subst (λ (l : List Place). IsLegal sys l) whole c.loop-index.invariant.legal,
      subst (λ (o : Option (Site × ℕ)). FindsInexact sys s c.loop-index.index o) c.in-Some.is found,
    )

pub returns-clause-passed : goal.returns-clause-passed
returns-clause-passed g c =
    let sys = c.args.sys.now in
    let s = c.args.seq.now in
    let all : c.loop-index.index ≡ length s =
    omega (arith, c.loop-index-test.false, c.loop-index.invariant.within, c.len-index-end.ensures)
    in
    let whole : take c.loop-index.index s ≡ s = ap (λ n. take n s) all ∙ take-length s in
    let Placed : List Place → Type 0 = λ l. SamePlacements l c.loop-index.grid.tiles in
    let found =
    subst (λ n. FindsInexact sys s n c.loop-index.breaches.inexact) all
    (inexact_whole sys s c.loop-index.index c.loop-index.breaches.inexact
    c.loop-index.invariant.inexact)
    in (
      subst (λ (l : List Place). IsLegal sys l) whole c.loop-index.invariant.legal,
      record {
        exact = exact_all sys s c.loop-index.breaches.inexact (sym c.in-None.is) found;
        placed = subst Placed whole c.loop-index.invariant.placed;
        clean = λ said. clean_all sys s
            (subst (λ n. AllCleanBelow sys s n) all (c.loop-index.invariant.clean said));
      },
    )
