-- A canonical sequence with nothing left, and one that leaves tiles over.
use Rattle.std.proofs.Common.{rules, ◌≡◌, ◌≢◌, ◌≤◌, ◌+◌, ◌++◌, ℕ, List, length, Option, Some, None, IsSome, Contains, refl, sym, ◌∙◌, subst, inl, inr, arith}
use Rattle.std.proofs.lemmas.Option.{none-some}
use Rattle.std.proofs.lemmas.List.Elements.{All-contains}
use Rattle.atam.specs.declared.site.Site.{Site}
use Rattle.atam.specs.declared.place.Place.{Place}
use Rattle.atam.specs.Sites.{InBox}
use Rattle.atam.specs.Placements.{HasDistinctSites, IsPartOf, tile_at}
use Rattle.atam.specs.TileSystem.{TileSystem}
use Rattle.atam.specs.Assembly.{Fits}
use Rattle.atam.specs.Canonical.{IsCanonical, IsLeft}
use Rattle.atam.proofs.Lists.{some_or_none}
use Rattle.atam.proofs.Placements.{Contains-tile_at, tile_at-Contains, same_place}
use Rattle.atam.proofs.Count.{count_in_part}
use Rattle.atam.proofs.Canon.{canonical_part, canonical_IsLegal, producible_exactly}
use Rattle.atam.proofs.Sequences.{IsLegal-distinct}
use Rattle.atam.proofs.Opening.{Fits-part}
use Rattle.atam.proofs.Beginnings.{unlisted_empty}
use Rattle.assembly.specs.Cells.{cell_count}
use Rattle.assembly.proofs.Cells.{index_of}
use Rattle.replay_order.specs.Inner.Replays.{Waiting, AreLacks, IsLeftAt, IsLeastLeft}
use Rattle.replay_order.specs.Inner.Spans.{IsSpanListed}
use Rattle.replay_order.specs.ReplayAnswers.{HoldsSeeds, IsWholeOrder, IsStuckAt}
use Rattle.replay_order.proofs.Begun.{fewer_listed, seeds_part, goes_on_begins}

module _ (sys : TileSystem) (tiles s : List Place) (fits : Fits sys tiles) (distinct : HasDistinctSites tiles)
    (seeds_distinct : HasDistinctSites sys.seeds) (canonical : IsCanonical sys tiles s) where
  part : IsPartOf s tiles
  part = canonical_part sys tiles s distinct fits.types seeds_distinct canonical

  listed_distinct : HasDistinctSites s
  listed_distinct = IsLegal-distinct sys s seeds_distinct (canonical_IsLegal sys tiles s distinct fits.types seeds_distinct canonical)

  -- no more places are listed than there are tiles
  pub listed_count : length s ≤ length tiles
  listed_count = count_in_part s tiles listed_distinct distinct part

  -- a place is listed, or it is left at its site
  listed_or_left : (q : Place) → Contains tiles q → ¬ IsLeftAt tiles s q.site → Contains s q
  listed_or_left q placed not_left = elim (some_or_none (tile_at s q.site)) [
    | inl empty ↦ absurd (not_left (record { tile = q.tile; placed = Contains-tile_at tiles q distinct placed; unlisted = empty }))
    | inr some ↦
        let r : Place = record { site = q.site; tile = some.0 } in
        let listed : Contains s r = tile_at-Contains s q.site some.0 some.1 in
        subst (Contains s) (same_place tiles r q distinct (part r listed) placed refl) listed
  ]

  left_at : (q : Place) → IsLeft tiles s q → IsLeftAt tiles s q.site
  left_at q left = record {
    tile = q.tile;
    placed = Contains-tile_at tiles q distinct left.0;
    unlisted = unlisted_empty sys tiles s canonical.begins distinct q left.0 left.1;
  }

  inside : (q : Place) → Contains tiles q → InBox sys.area q.site
  inside q placed = All-contains (λ p. InBox sys.area p.site) tiles q fits.sites placed

  -- where as many are listed, nothing is left
  pub none_left : length tiles ≤ length s → IsLeastLeft sys.area tiles s None
  none_left all m inside left =
      let few = fewer_listed sys tiles s canonical.begins distinct seeds_distinct (record { site = m; tile = left.tile }) left.placed left.unlisted in
      let never : ⊥ = omega (arith, few, all) in
      never

  -- and the other way round
  pub all_listed : IsLeastLeft sys.area tiles s None → length tiles ≤ length s
  all_listed none = count_in_part tiles s distinct listed_distinct (λ q placed. listed_or_left q placed (none q.site (inside q placed)))

  -- a number that is left over shows that some tile is
  pub some_left : (count : ℕ) (least : Option Site) → count + length s ≡ length tiles → count ≢ 0 → IsLeastLeft sys.area tiles s least → IsSome least
  some_left count None counted some none = let never : ⊥ = omega (arith, all_listed none, counted, some) in absurd never
  some_left count (Some least) counted some found = search rules

  -- nothing is left
  pub whole_order : IsLeastLeft sys.area tiles s None → IsWholeOrder sys tiles s
  whole_order none =
      let whole : IsPartOf tiles s = λ q placed. listed_or_left q placed (none q.site (inside q placed)) in
      record {
        canonical = canonical;
        legal = canonical_IsLegal sys tiles s distinct fits.types seeds_distinct canonical;
        same = record { part = part; whole = whole };
        fits = Fits-part sys s tiles part fits;
        producible = (producible_exactly sys tiles s distinct fits.types seeds_distinct canonical).1 whole;
      }

  -- something is left
  pub stuck_at : (least : Site) → IsLeastLeft sys.area tiles s (Some least) → (count : ℕ) → count + length s ≡ length tiles → IsStuckAt sys tiles count least
  stuck_at least found count counted =
      let first : Place = record { site = least; tile = found.left.tile } in
      let placed : Contains tiles first = tile_at-Contains tiles least found.left.tile found.left.placed in
      let unlisted : ¬ Contains s first = λ listed.
      none-some found.left.tile (sym found.left.unlisted ∙ Contains-tile_at s first listed_distinct listed)
      in
      record {
        sequence = s;
        canonical = canonical;
        leaves = record {
          counted = counted;
          first = (first, (placed, unlisted), refl);
          none_before = λ q left. found.least q.site (inside q left.0) (left_at q left);
        };
        unproducible = λ producible.
            unlisted ((producible_exactly sys tiles s distinct fits.types seeds_distinct canonical).0 producible first placed);
      }

-- what is listed behind the seeds of the span of all sites makes the canonical order, and it is known what each tile lacks then
pub record IsListedWhole (sys : TileSystem) (tiles s : List Place) (waiting : Waiting) : Type 0 where
  pub canonical : IsCanonical sys tiles s
  pub lacks : AreLacks sys tiles s waiting
  pub from_first : waiting.first ≡ 0
  pub to_last : waiting.end ≡ cell_count sys.area

pub span_whole : (sys : TileSystem) (tiles new : List Place) (waiting : Waiting) → Fits sys tiles → HoldsSeeds sys tiles → IsSpanListed sys tiles 0 (cell_count sys.area) sys.seeds new waiting →
    IsListedWhole sys tiles new waiting
span_whole sys tiles new waiting fits held listed =
    let s = sys.seeds ++ listed.part in
    let canonical : IsCanonical sys tiles s = record {
      begins = goes_on_begins sys tiles listed.part (seeds_part sys tiles held) listed.is_part.goes_on;
      whole = λ q ready.
          let i = index_of sys.area q.site (All-contains (λ p. InBox sys.area p.site) tiles q fits.sites ready.placed) in
          listed.is_part.whole q (record { number = i.0; from = omega arith; before = i.1; site = i.2 }) ready;
    }
    in
    record {
      canonical = subst (IsCanonical sys tiles) (sym listed.listed) canonical;
      lacks = subst (λ l. AreLacks sys tiles l waiting) (sym listed.listed) listed.lacks;
      from_first = listed.same_first;
      to_last = listed.same_end;
    }
