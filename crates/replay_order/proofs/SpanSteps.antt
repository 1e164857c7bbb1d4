-- What is listed of a span: the ready place with the least site follows, until none of the span is ready.
use Rattle.std.proofs.Common.{◌≡◌, ◌<◌, ◌≤◌, ◌+◌, ◌-◌, ℕ, List, [], ◌∷◌, ◌++◌, length, length-append, append_assoc, append-nil, Some, None, Contains, refl, sym, ◌∙◌, ap, subst, inl, inr, arith}
use Rattle.std.proofs.lemmas.Int.{ints}
use Rattle.std.proofs.lemmas.Bool.{cases_lt}
use Rattle.std.proofs.lemmas.Option.{none-some, same_Some}
use Rattle.std.proofs.lemmas.List.Elements.{All-contains}
use Rattle.atam.specs.declared.site.Site.{Site}
use Rattle.atam.specs.declared.place.TypeId.{TypeId}
use Rattle.atam.specs.declared.place.Place.{Place}
use Rattle.atam.specs.declared.area.BoxArea.{BoxArea}
use Rattle.atam.specs.Sites.{IsBefore, InBox, IsBox, width_of}
use Rattle.atam.specs.Placements.{HasDistinctSites, IsPartOf, tile_at}
use Rattle.atam.specs.TileSystem.{TileSystem}
use Rattle.atam.specs.Assembly.{Fits, pull}
use Rattle.atam.specs.Canonical.{IsReady}
use Rattle.atam.proofs.Lists.{some_or_none, push_cases, Contains-push}
use Rattle.atam.proofs.Placements.{Contains-tile_at, tile_at-Contains, tile_at-append, same_place, HasDistinctSites-push}
use Rattle.atam.proofs.Count.{count_in_part}
use Rattle.assembly.specs.Cells.{cell_count, site_at}
use Rattle.assembly.proofs.Cells.{index_of, not_before, site_at-injective}
use Rattle.replay_order.specs.Inner.ReadyNumbers.{IsAmong}
use Rattle.replay_order.specs.Inner.Replays.{IsReadySite, IsInSpan, Waiting, AreLacks, AreReadySites, AreReadySitesBut, Lowers, given_beside, TakesLeast}
use Rattle.replay_order.specs.Inner.Spans.{standing, IsSiteBetween, GoesOn, IsSpanListed}
use Rattle.replay_order.specs.ReplayAnswers.{HoldsSeeds}
use Rattle.replay_order.proofs.SpanRoom.{distinct_behind, few_between}
use Rattle.replay_order.proofs.Standing.{standing_begun, standing_tile, standing_distinct, standing_part}
use Rattle.replay_order.proofs.ReadySites.{IsHeldIfWaiting, lacks_after, ready_after, part_push, taken_waits, taken_ready, taken_held, taken_but, lacks_still}
use Rattle.replay_order.proofs.Begun.{listed_site, seeds_part}

-- a part of what follows in a span has been listed behind what had been, and it is known what lacks and what is ready then
pub record IsSpanBegun (sys : TileSystem) (tiles : List Place) (first end : ℕ) (old new : List Place) (waiting : Waiting) : Type 0 where
  pub part : List Place
  pub listed : new ≡ old ++ part
  pub goes_on : GoesOn sys tiles (standing sys tiles first) part
  pub between : (p : Place) → Contains part p → IsSiteBetween sys.area first end p.site
  pub placed : IsPartOf (standing sys tiles first ++ part) tiles
  pub distinct : HasDistinctSites (standing sys tiles first ++ part)
  pub lacks : AreLacks sys tiles (standing sys tiles first ++ part) waiting
  pub ready : AreReadySites sys tiles (standing sys tiles first ++ part) waiting
  pub same_first : waiting.first ≡ first
  pub same_end : waiting.end ≡ end

-- nothing of it has been
pub span_unlisted : (sys : TileSystem) (tiles : List Place) (first end : ℕ) (old : List Place) (waiting : Waiting) → HasDistinctSites sys.seeds → HoldsSeeds sys tiles →
    waiting.first ≡ first → waiting.end ≡ end → AreLacks sys tiles (standing sys tiles first) waiting → AreReadySites sys tiles (standing sys tiles first) waiting →
    IsSpanBegun sys tiles first end old old waiting
span_unlisted sys tiles first end old waiting seeds_distinct held same_first same_end lacks ready =
    let before = standing sys tiles first in
    let same : before ≡ before ++ [] = sym (append-nil before) in
    record {
      part = [];
      listed = sym (append-nil old);
      goes_on = record { ready = λ i p there. absurd (none-some p there); least = λ i p q there. absurd (none-some p there) };
      between = λ p contains. let never : ⊥ = omega (arith, contains.1) in absurd never;
      placed = subst (λ l. IsPartOf l tiles) same (standing_part sys.area tiles sys.seeds (seeds_part sys tiles held) first);
      distinct = subst HasDistinctSites same (standing_distinct sys.area tiles sys.seeds seeds_distinct first);
      lacks = subst (λ l. AreLacks sys tiles l waiting) same lacks;
      ready = subst (λ l. AreReadySites sys tiles l waiting) same ready;
      same_first = same_first;
      same_end = same_end;
    }

-- one place more follows
pub goes_on-push : (sys : TileSystem) (tiles before part : List Place) (p : Place) → GoesOn sys tiles before part → IsReady sys tiles (before ++ part) p →
    ((q : Place) → IsReady sys tiles (before ++ part) q → ¬ IsBefore q.site p.site) → GoesOn sys tiles before (part ++ p ∷ [])
goes_on-push sys tiles before part p goes_on ready_p least_p = record {
  ready = λ i q there. elim (push_cases part p i q there) [
    | inl old ↦ subst (λ (l : List Place). IsReady sys tiles (before ++ l) q) (sym old.1) (goes_on.ready i q old.0)
    | inr new ↦ subst (λ (l : List Place). IsReady sys tiles (before ++ l) q) (sym new.1) (subst (IsReady sys tiles (before ++ part)) new.0 ready_p)
  ];
  least = λ i q r there ready_r. elim (push_cases part p i q there) [
    | inl old ↦ goes_on.least i q r old.0 (subst (λ (l : List Place). IsReady sys tiles (before ++ l) r) old.1 ready_r)
    | inr new ↦
        let ready_here : IsReady sys tiles (before ++ part) r = subst (λ (l : List Place). IsReady sys tiles (before ++ l) r) new.1 ready_r in
        subst (λ (x : Place). ¬ IsBefore r.site x.site) new.0 (least_p r ready_here)
  ];
}

-- where a part of an assembly doesn't list a place of it, no other is at its site
part_empty : (tiles s : List Place) (p : Place) → HasDistinctSites tiles → IsPartOf s tiles → Contains tiles p → ¬ Contains s p → tile_at s p.site ≡ None
part_empty tiles s p distinct part placed unlisted = elim (some_or_none (tile_at s p.site)) [
  | inl empty ↦ empty
  | inr some ↦
      let q : Place = record { site = p.site; tile = some.0 } in
      let listed : Contains s q = tile_at-Contains s p.site some.0 some.1 in
      absurd (unlisted (subst (Contains s) (same_place tiles q p distinct (part q listed) placed refl) listed))
]

-- where the whole is empty, so is its first part
front_empty : (s r : List Place) (m : Site) → tile_at (s ++ r) m ≡ None → tile_at s m ≡ None
front_empty s r m empty = elim (some_or_none (tile_at s m)) [
  | inl none ↦ none
  | inr some ↦ absurd (none-some some.0 (sym empty ∙ tile_at-append s r m some.0 some.1))
]

-- a ready place once all below a span stands, and some of it
module _ (sys : TileSystem) (tiles : List Place) (first : ℕ) (part : List Place) (waiting : Waiting) (distinct : HasDistinctSites tiles) (fits : Fits sys tiles)
    (placed : IsPartOf (standing sys tiles first ++ part) tiles) (ready : AreReadySites sys tiles (standing sys tiles first ++ part) waiting) (same_first : waiting.first ≡ first) where
  module _ (q : Place) (is_ready : IsReady sys tiles (standing sys tiles first ++ part) q) where
    empty : tile_at (standing sys tiles first ++ part) q.site ≡ None
    empty = part_empty tiles (standing sys tiles first ++ part) q distinct placed is_ready.placed is_ready.unlisted

    no_seed : tile_at sys.seeds q.site ≡ None
    no_seed = elim (some_or_none (tile_at sys.seeds q.site)) [
      | inl none ↦ none
      | inr seed ↦
          absurd (none-some seed.0 (sym (front_empty (standing sys tiles first) part q.site empty) ∙ standing_begun sys.area tiles sys.seeds first q.site seed.0 seed.1))
    ]

    inside : InBox sys.area q.site
    inside = All-contains (λ p. InBox sys.area p.site) tiles q fits.sites is_ready.placed

    pub number : ℕ
    number = (index_of sys.area q.site inside).0

    pub number_within : number < cell_count sys.area
    unfolding number
    number_within = (index_of sys.area q.site inside).1

    pub number_site : site_at sys.area number ≡ q.site
    unfolding number
    number_site = (index_of sys.area q.site inside).2

    -- isn't below it
    pub number_from : first ≤ number
    number_from = elim (cases_lt number first) [
      | inr from ↦ from
      | inl lower ↦
          let there = Contains-tile_at tiles q distinct is_ready.placed in
          let stands = standing_tile sys.area tiles sys.seeds first q.site q.tile no_seed (record { number = number; from = omega arith; before = lower; site = number_site }) there in
          absurd (none-some q.tile (sym (front_empty (standing sys tiles first) part q.site empty) ∙ stands))
    ]

    -- and its site is one of the ready ones, if it is one of the span
    pub number_among : IsInSpan waiting number → IsAmong waiting.ready number
    number_among within =
        (ready number number_within).1 (
          within,
          subst (IsReadySite sys tiles (standing sys tiles first ++ part)) (sym number_site) (record {
            tile = q.tile;
            placed = Contains-tile_at tiles q distinct is_ready.placed;
            no_seed = no_seed;
            empty = empty;
            held = is_ready.held;
          }),
        )

  -- a site of the span with the least ready number has no ready one before it
  pub none_before : IsBox sys.area → (n : ℕ) (m : Site) → site_at sys.area n ≡ m → IsInSpan waiting n → ((i : ℕ) → IsAmong waiting.ready i → n ≤ i) →
      (q : Place) → IsReady sys tiles (standing sys tiles first ++ part) q → ¬ IsBefore q.site m
  none_before limits n m here within least q is_ready =
      let wide : 0 < width_of sys.area = omega (arith, ints, limits.corners.columns) in
      let k = number q is_ready in
      let later : n ≤ k = elim (cases_lt k waiting.end) [
        | inl before ↦ least k (number_among q is_ready (record { from = omega (arith, number_from q is_ready, same_first); before = before }))
        | inr past ↦ omega (arith, past, within.before)
      ]
      in
      subst (λ x. ¬ IsBefore x m) (number_site q is_ready) (subst (λ x. ¬ IsBefore (site_at sys.area k) x) here (not_before sys.area n k later wide))

  -- once no number is ready, no place of the span is
  pub none_of_span : ((i : ℕ) → ¬ IsAmong waiting.ready i) → (q : Place) → IsSiteBetween sys.area first waiting.end q.site → ¬ IsReady sys tiles (standing sys tiles first ++ part) q
  none_of_span none q between is_ready =
      let k = number q is_ready in
      let one : k ≡ between.number = site_at-injective sys.area k between.number (number_site q is_ready ∙ sym between.site) in
      none k (number_among q is_ready (record { from = omega (arith, number_from q is_ready, same_first); before = omega (arith, one, between.before) }))

-- the least ready number is taken out, and the place at its site is listed
module _ (sys : TileSystem) (tiles : List Place) (first end : ℕ) (old new : List Place) (a b : Waiting) (n : ℕ) (p : Place)
    (limits : IsBox sys.area) (distinct : HasDistinctSites tiles) (fits : Fits sys tiles) (begun : IsSpanBegun sys tiles first end old new a) (takes : TakesLeast a b n)
    (here : p.site ≡ site_at sys.area n) (at : tile_at tiles p.site ≡ Some p.tile) where
  -- it is ready
  next_site : IsReadySite sys tiles (standing sys tiles first ++ begun.part) p.site
  next_site = taken_ready sys tiles (standing sys tiles first ++ begun.part) a b n p.site here begun.lacks begun.ready takes

  next_ready : IsReady sys tiles (standing sys tiles first ++ begun.part) p
  next_ready =
      let Held : TypeId → Type 0 = λ t. sys.tau ≤ pull sys (standing sys tiles first ++ begun.part) p.site t in
      record {
        placed = tile_at-Contains tiles p.site p.tile at;
        unlisted = λ listed. listed_site (standing sys tiles first ++ begun.part) p listed next_site.empty;
        held = subst Held (same_Some next_site.tile p.tile (sym next_site.placed ∙ at)) next_site.held;
      }

  next_waits : IsInSpan a n
  next_waits = taken_waits sys tiles (standing sys tiles first ++ begun.part) a b n p.site here begun.lacks begun.ready takes

  next_distinct : HasDistinctSites ((standing sys tiles first ++ begun.part) ++ p ∷ [])
  next_distinct = HasDistinctSites-push (standing sys tiles first ++ begun.part) p begun.distinct next_site.empty

  next_placed : IsPartOf ((standing sys tiles first ++ begun.part) ++ p ∷ []) tiles
  next_placed = part_push (standing sys tiles first ++ begun.part) tiles p begun.placed at

  next_between : (q : Place) → Contains (begun.part ++ p ∷ []) q → IsSiteBetween sys.area first end q.site
  next_between q contains = elim (Contains-push begun.part p q contains) [
    | inl earlier ↦ begun.between q earlier
    | inr last ↦ subst (λ (x : Place). IsSiteBetween sys.area first end x.site) last (record {
      number = n;
      from = omega (arith, next_waits.from, begun.same_first);
      before = omega (arith, next_waits.before, begun.same_end);
      site = sym here;
    })
  ]

  -- the part is shorter than the span
  pub shorter_begun : length begun.part + 1 ≤ end - first
  shorter_begun =
      let before = standing sys tiles first in
      let whole : (before ++ begun.part) ++ p ∷ [] ≡ before ++ (begun.part ++ p ∷ []) = append_assoc before begun.part (p ∷ []) in
      let all_distinct : HasDistinctSites (before ++ (begun.part ++ p ∷ [])) = subst (λ (l : List Place). HasDistinctSites l) whole next_distinct in
      let few = few_between sys.area first end (begun.part ++ p ∷ []) (distinct_behind before (begun.part ++ p ∷ []) all_distinct) next_between in
      omega (arith, few, length-append begun.part (p ∷ []))

  -- and there are fewer listed places than tiles
  pub fewer_begun : length (standing sys tiles first) + length begun.part + 1 ≤ length tiles
  fewer_begun =
      let before = standing sys tiles first in
      let few = count_in_part ((before ++ begun.part) ++ p ∷ []) tiles next_distinct distinct next_placed in
      omega (arith, few, length-append (before ++ begun.part) (p ∷ []), length-append before begun.part)

  module _ (same_first : b.first ≡ a.first) (same_end : b.end ≡ a.end) (same_area : b.area ≡ a.area) (same_lacks : b.lacks ≡ a.lacks) where
    pub begun_area : b.area ≡ sys.area
    begun_area = same_area ∙ begun.lacks.area

    left_lacks : AreLacks sys tiles (standing sys tiles first ++ begun.part) b
    left_lacks = lacks_still sys tiles (standing sys tiles first ++ begun.part) a b same_first same_end same_area same_lacks begun.lacks

    left_but : AreReadySitesBut sys tiles (standing sys tiles first ++ begun.part) b p.site
    left_but = taken_but sys tiles (standing sys tiles first ++ begun.part) a b n p.site here begun.lacks begun.ready takes same_first same_end

    next_held : IsHeldIfWaiting sys (standing sys tiles first ++ begun.part) p b
    next_held = record {
      held = λ i within same. taken_held sys tiles (standing sys tiles first ++ begun.part) a b n p.site here begun.lacks begun.ready takes p.tile at;
    }

    pub begun_more : (more : List Place) (d : Waiting) (area : BoxArea) → more ≡ new ++ p ∷ [] → area ≡ b.area → Lowers area (given_beside sys tiles p) b d → IsSpanBegun sys tiles first end old more d
    begun_more more d area longer is lowers_area =
        let before = standing sys tiles first in
        let part = begun.part in
        let whole : (before ++ part) ++ p ∷ [] ≡ before ++ (part ++ p ∷ []) = append_assoc before part (p ∷ []) in
        let lowers = subst (λ x. Lowers x (given_beside sys tiles p) b d) (is ∙ begun_area) lowers_area in
        record {
          part = part ++ p ∷ [];
          listed = longer ∙ ap (λ (l : List Place). l ++ p ∷ []) begun.listed ∙ append_assoc old part (p ∷ []);
          goes_on = goes_on-push sys tiles before part p begun.goes_on next_ready
              (none_before sys tiles first part a distinct fits begun.placed begun.ready begun.same_first limits n p.site (sym here) next_waits takes.least);
          between = next_between;
          placed = subst (λ (l : List Place). IsPartOf l tiles) whole next_placed;
          distinct = subst (λ (l : List Place). HasDistinctSites l) whole next_distinct;
          lacks = subst (λ (l : List Place). AreLacks sys tiles l d) whole (lacks_after sys tiles (before ++ part) p b d next_site.empty at next_held lowers left_lacks);
          ready = subst (λ (l : List Place). AreReadySites sys tiles l d) whole (ready_after sys tiles (before ++ part) p b d next_site.empty at next_held lowers left_lacks left_but);
          same_first = lowers.same_first ∙ same_first ∙ begun.same_first;
          same_end = lowers.same_end ∙ same_end ∙ begun.same_end;
        }

-- once no number is ready, the span is listed
pub span_listed : (sys : TileSystem) (tiles : List Place) (first end : ℕ) (old new : List Place) (a b : Waiting) → HasDistinctSites tiles → Fits sys tiles → IsSpanBegun sys tiles first end old new a →
    ((i : ℕ) → ¬ IsAmong a.ready i) → b.first ≡ a.first → b.end ≡ a.end → b.area ≡ a.area → b.lacks ≡ a.lacks → IsSpanListed sys tiles first end old new b
span_listed sys tiles first end old new a b distinct fits begun none same_first same_end same_area same_lacks = record {
  part = begun.part;
  listed = begun.listed;
  is_part = record {
    goes_on = begun.goes_on;
    between = begun.between;
    whole = λ q between.
        none_of_span sys tiles first begun.part a distinct fits begun.placed begun.ready begun.same_first none q (subst (λ n. IsSiteBetween sys.area first n q.site) (sym begun.same_end) between);
  };
  lacks = lacks_still sys tiles (standing sys tiles first ++ begun.part) a b same_first same_end same_area same_lacks begun.lacks;
  same_first = same_first ∙ begun.same_first;
  same_end = same_end ∙ begun.same_end;
}
