-- Seeds that are at sites with numbers from the first one on, as they are gone through.
use Rattle.std.proofs.Common.{◌≡◌, ◌≢◌, ◌<◌, ◌≤◌, ◌+◌, ◌++◌, ℕ, List, [], ◌∷◌, None, Some, Contains, take, slice_get, refl, sym, ◌∙◌, ap, subst, inl, inr, arith}
use Rattle.std.proofs.lemmas.List.Elements.{All-contains, Contains-append_left, Contains-append_right}
use Rattle.atam.specs.declared.site.Site.{Site}
use Rattle.atam.specs.declared.place.TypeId.{TypeId}
use Rattle.atam.specs.declared.place.Place.{Place}
use Rattle.atam.specs.declared.area.BoxArea.{BoxArea}
use Rattle.atam.specs.Placements.{HasDistinctSites, IsPartOf, tile_at}
use Rattle.atam.specs.TileSystem.{TileSystem}
use Rattle.atam.proofs.Lists.{All-slice_get, Contains-here, Contains-push, some_or_none}
use Rattle.atam.proofs.Placements.{none_at, tile_at-Contains, Contains-tile_at, distinct-empty}
use Rattle.assembly.specs.Cells.{site_at}
use Rattle.assembly.proofs.Cells.{site_at-injective}
use Rattle.assembly.proofs.Putting.{take_more}
use Rattle.replay_order.specs.Inner.Replays.{Waiting, Lowers, given_beside}
use Rattle.replay_order.specs.Inner.Spans.{AreSeedsFrom, HaveStood}
use Rattle.replay_order.specs.ReplayAnswers.{HoldsSeeds}
use Rattle.replay_order.proofs.ReadySites.{lacks_after, ready_after, seed_held, seed_but}

-- of a part nothing is where nothing of the whole is
pub part_empty : (part whole : List Place) (m : Site) → IsPartOf part whole → tile_at whole m ≡ None → tile_at part m ≡ None
part_empty part whole m is_part empty = elim (some_or_none (tile_at part m)) [
  | inl none ↦ none
  | inr some ↦
      let p : Place = record { site = m; tile = some.0 } in
      absurd (All-contains (λ q. q.site ≢ m) whole p (none_at whole m empty) (is_part p (tile_at-Contains part m some.0 some.1)) refl)
]

-- and where something of it is, it is the same in a whole of distinct sites
pub part_tile : (part whole : List Place) (m : Site) (t : TypeId) → IsPartOf part whole → HasDistinctSites whole → tile_at part m ≡ Some t → tile_at whole m ≡ Some t
part_tile part whole m t is_part distinct found =
    let p : Place = record { site = m; tile = t } in
    Contains-tile_at whole p distinct (is_part p (tile_at-Contains part m t found))

-- none of none
pub none_from : (area : BoxArea) (first : ℕ) → AreSeedsFrom area first [] []
none_from area first = record {
  part = λ p contains. contains;
  from = λ p contains. let never : ⊥ = omega (arith, contains.1) in absurd never;
  whole = λ p number contains site from. contains;
}

module _ (area : BoxArea) (first : ℕ) (seeds begun : List Place) (k : ℕ) (p : Place) (there : slice_get seeds k ≡ Some p) (number : ℕ) (here : site_at area number ≡ p.site)
    (before : AreSeedsFrom area first (take k seeds) begun) where
  numbered : (q : Place) (other : ℕ) → p ≡ q → site_at area other ≡ q.site → other ≡ number
  numbered q other same site = site_at-injective area other number (site ∙ ap (λ (r : Place). r.site) (sym same) ∙ sym here)

  -- one seed more that is below
  pub seed_below : number < first → AreSeedsFrom area first (take (k + 1) seeds) begun
  seed_below below =
      subst (λ (l : List Place). AreSeedsFrom area first l begun) (sym (take_more seeds k p there)) record {
        part = λ q contains. Contains-append_left (take k seeds) (p ∷ []) q (before.part q contains);
        from = before.from;
        whole = λ q other contains site from. elim (Contains-push (take k seeds) p q contains) [
          | inl earlier ↦ before.whole q other earlier site from
          | inr last ↦ let never : ⊥ = omega (arith, numbered q other last site, from, below) in absurd never
        ];
      }

  -- and one that isn't
  pub seed_from : first ≤ number → AreSeedsFrom area first (take (k + 1) seeds) (begun ++ p ∷ [])
  seed_from from =
      let last = Contains-here p [] in
      subst (λ (l : List Place). AreSeedsFrom area first l (begun ++ p ∷ [])) (sym (take_more seeds k p there)) record {
        part = λ q contains. elim (Contains-push begun p q contains) [
          | inl old ↦ Contains-append_left (take k seeds) (p ∷ []) q (before.part q old)
          | inr new ↦ subst (Contains (take k seeds ++ p ∷ [])) new (Contains-append_right (take k seeds) (p ∷ []) p last)
        ];
        from = λ q contains. elim (Contains-push begun p q contains) [
          | inl old ↦ before.from q old
          | inr new ↦ (number, from, here ∙ ap (λ (r : Place). r.site) new)
        ];
        whole = λ q other contains site later. elim (Contains-push (take k seeds) p q contains) [
          | inl earlier ↦ Contains-append_left begun (p ∷ []) q (before.whole q other earlier site later)
          | inr new ↦ subst (Contains (begun ++ p ∷ [])) new (Contains-append_right begun (p ∷ []) p last)
        ];
      }

-- one seed more stands
module _ (sys : TileSystem) (tiles : List Place) (first k : ℕ) (p : Place) (number : ℕ) (there : slice_get sys.seeds k ≡ Some p) (here : site_at sys.area number ≡ p.site) where
  pub stood_below : (waiting : Waiting) → number < first → HaveStood sys tiles first (take k sys.seeds) 0 waiting → HaveStood sys tiles first (take (k + 1) sys.seeds) 0 waiting
  stood_below waiting below stood = record {
    begun = stood.begun;
    seeds_from = seed_below sys.area first sys.seeds stood.begun k p there number here stood.seeds_from below;
    lacks = stood.lacks;
    ready = stood.ready;
  }

  module _ (old new : Waiting) (distinct : HasDistinctSites sys.seeds) (held : HoldsSeeds sys tiles) (area : BoxArea) (same : area ≡ sys.area) (lowers : Lowers area (given_beside sys tiles p) old new) where
    placed : tile_at tiles p.site ≡ Some p.tile
    placed = All-slice_get (λ q. tile_at tiles q.site ≡ Some q.tile) sys.seeds k p held there

    lowers_here : Lowers sys.area (given_beside sys tiles p) old new
    lowers_here = subst (λ a. Lowers a (given_beside sys tiles p) old new) same lowers

    pub stood_from : first ≤ number → HaveStood sys tiles first (take k sys.seeds) 0 old → HaveStood sys tiles first (take (k + 1) sys.seeds) 0 new
    stood_from from stood =
        let begun = stood.begun in
        let empty : tile_at begun p.site ≡ None = part_empty begun (take k sys.seeds) p.site stood.seeds_from.part (distinct-empty sys.seeds k p distinct there) in
        record {
          begun = begun ++ p ∷ [];
          seeds_from = seed_from sys.area first sys.seeds begun k p there number here stood.seeds_from from;
          lacks = lacks_after sys tiles begun p old new empty placed (seed_held sys distinct k p there begun old) lowers_here stood.lacks;
          ready = ready_after sys tiles begun p old new empty placed (seed_held sys distinct k p there begun old) lowers_here stood.lacks (seed_but sys distinct k p there tiles begun old stood.ready);
        }
