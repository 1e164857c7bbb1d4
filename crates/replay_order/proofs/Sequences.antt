-- A sequence whose places are put into a grid one by one.
use Rattle.std.proofs.Common.{◌≡◌, ◌<◌, ◌≤◌, ◌+◌, ℕ, true, List, length, take, Option, Some, None, is_some, slice_get, refl, sym, ◌∙◌, subst, inl, inr, arith, true≢false, false}
use Rattle.std.proofs.lemmas.Option.{none-some}
use Rattle.atam.specs.declared.site.Side.{Side}
use Rattle.atam.specs.Sites.{neighbor}
use Rattle.atam.specs.declared.place.TypeId.{TypeId}
use Rattle.atam.specs.declared.place.Place.{Place}
use Rattle.atam.specs.Placements.{HasDistinctSites, SamePlacements, tile_at}
use Rattle.atam.specs.TileSystem.{TileSystem, IsType}
use Rattle.atam.specs.Assembly.{Attaches}
use Rattle.atam.specs.Assembly as model
use Rattle.atam.specs.Growth.{IsLegal}
use Rattle.atam.proofs.Lists.{some_or_none}
use Rattle.atam.proofs.Tiles.{same_back, SameTiles-from}
use Rattle.atam.proofs.Sequences.{IsLegal-push, IsLegal-distinct}
use Rattle.atam.specs.declared.legality.Legality.TheVariants.{SiteTaken, TooWeak}
use Rattle.replay_order.specs.Legalities.{IsLegalityAnswer}
use Rattle.atam.proofs.Opening.{pull-beside}
use Rattle.assembly.proofs.Putting.{take_more, same_empty}

-- a place of the sequence, after legal ones that stand in the grid
module _ (sys : TileSystem) (s tiles : List Place) (n : ℕ) (p : Place) (later : length sys.seeds ≤ n) (there : slice_get s n ≡ Some p) (legal : IsLegal sys (take n s)) (same : SamePlacements (take n s) tiles) where
  -- its site is taken
  pub first_taken : (found : Option TypeId) → found ≡ tile_at tiles p.site → is_some found ≡ true → IsLegalityAnswer sys s (SiteTaken n)
  first_taken None at some = absurd (true≢false (sym some))
  first_taken (Some t) at some = elim (some_or_none (tile_at (take n s) p.site)) [
    | inl empty ↦ absurd (none-some t (sym (same_empty (take n s) tiles same p.site empty) ∙ sym at))
    | inr other ↦ record { later = later; before = legal; place = p; there = there; told = other }
  ]

  module _ (seeds_distinct : HasDistinctSites sys.seeds) (distinct : HasDistinctSites tiles) where
    pull_there : model.pull sys tiles p.site p.tile ≡ model.pull sys (take n s) p.site p.tile
    pull_there =
        pull-beside sys tiles (take n s) p.site p.tile
        (λ (d : Side). sym (SameTiles-from (take n s) tiles (IsLegal-distinct sys (take n s) seeds_distinct legal) same (neighbor p.site d)))

    module _ (found : Option TypeId) (at : found ≡ tile_at tiles p.site) (none : is_some found ≡ false) (pull : ℕ) (is : pull ≡ model.pull sys tiles p.site p.tile) where
      empty_there : tile_at (take n s) p.site ≡ None
      empty_there = same_empty tiles (take n s) (same_back (take n s) tiles same) p.site (sym at ∙ not_some found none)
        where
          not_some : (o : Option TypeId) → is_some o ≡ false → o ≡ None
          not_some None h = refl
          not_some (Some t) h = absurd (true≢false h)

      -- the pull on its type is too weak
      pub first_weak : pull < sys.tau → IsLegalityAnswer sys s (TooWeak n pull)
      first_weak weak = record { later = later; before = legal; place = p; there = there; told = (empty_there, is ∙ pull_there, weak) }

      -- it attaches
      pub legal_more : IsType sys p.tile → sys.tau ≤ pull → IsLegal sys (take (n + 1) s)
      legal_more kind held =
          let Held : ℕ → Type 0 = λ k. sys.tau ≤ k in
          subst (IsLegal sys) (sym (take_more s n p there)) (
          IsLegal-push sys (take n s) p legal kind (record { empty = empty_there; held = subst Held (is ∙ pull_there) held })
          )

-- a breach is none of a legal sequence
pub taken_illegal : (sys : TileSystem) (s : List Place) (n : ℕ) → IsLegalityAnswer sys s (SiteTaken n) → ¬ IsLegal sys s
taken_illegal sys s n taken legal =
    none-some taken.told.0 (sym (legal.each n taken.place taken.later taken.there).empty ∙ taken.told.1)

pub weak_illegal : (sys : TileSystem) (s : List Place) (n pull : ℕ) → IsLegalityAnswer sys s (TooWeak n pull) → ¬ IsLegal sys s
weak_illegal sys s n pull is_weak legal =
    let held = (legal.each n is_weak.place is_weak.later is_weak.there).held in
    let never : ⊥ = omega (arith, held, is_weak.told.2, is_weak.told.1) in
    never
