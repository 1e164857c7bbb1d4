-- Comparing places, and lists of them by index.
use Rattle.std.proofs.Common.{◌≡◌, ℕ, ◌+◌, ◌<◌, ◌&&◌, ◌==◌, List, [], ◌∷◌, ◌++◌, length, take, get_or, slice_get, Some, Decides, ap, ◌∙◌, sym}
use Rattle.std.specs.Ordering.{int_eq}
use Rattle.std.proofs.lemmas.Bool.Decides.{Decides-like, Decides-and, Decides-eqb}
use Rattle.std.proofs.lemmas.Option.{slice_get-get_or}
use Rattle.atam.specs.declared.place.Place.{Place}
use Rattle.atam.specs.Sites.{same_site}
use Rattle.atam.proofs.Boxes.{Decides-same_site}
use Rattle.assembly.proofs.Putting.{take_more}

-- the comparison of places tells whether they are one
pub Decides-place : (a b : Place) → Decides ((int_eq a.site.x b.site.x && int_eq a.site.y b.site.y) && a.tile.0 == b.tile.0) (a ≡ b)
Decides-place a b =
    Decides-like ((int_eq a.site.x b.site.x && int_eq a.site.y b.site.y) && a.tile.0 == b.tile.0)
    (λ both. λ k. record { site = both.0 k; tile = record { 0 = both.1 k } })
    (λ same. (ap (λ p. p.site) same, ap (λ p. p.tile.0) same))
    (Decides-and (same_site a.site b.site) (a.tile.0 == b.tile.0) (Decides-same_site a.site b.site) (Decides-eqb a.tile.0 b.tile.0))

-- one place more that both lists have
pub take-both_more : (s t : List Place) (i : ℕ) (p d : Place) → i < length t → slice_get s i ≡ Some p → p ≡ get_or t i d → take i s ≡ take i t → take (i + 1) s ≡ take (i + 1) t
take-both_more s t i p d within there is same =
    let other : slice_get t i ≡ Some p = slice_get-get_or t i d within ∙ ap (λ q. Some q) (sym is) in
    take_more s i p there ∙ (ap (λ (l : List Place). l ++ p ∷ []) same ∙ sym (take_more t i p other))
