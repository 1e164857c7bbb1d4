-- How many places a span takes: at most one for each of its sites.
use Rattle.std.proofs.Common.{◌≡◌, ◌<◌, ◌≤◌, ◌+◌, ◌-◌, ◌*◌, ◌/◌, ◌%◌, ℕ, pos, ◌-ℤ◌, ◌+ℤ◌, nat_abs, List, ◌++◌, length, length-append, Contains, get_or, sym, ◌∙◌, ap, arith}
use Rattle.std.proofs.Math.Nat.{div-add-mod'}
use Rattle.std.proofs.lemmas.Int.{ints}
use Rattle.std.proofs.lemmas.List.{get_or-append_right}
use Rattle.std.proofs.lemmas.List.Elements.{Contains-get_or}
use Rattle.atam.specs.declared.site.Site.{Site}
use Rattle.atam.specs.declared.place.Place.{Place}
use Rattle.atam.specs.declared.area.BoxArea.{BoxArea}
use Rattle.atam.specs.Sites.{width_of}
use Rattle.atam.specs.Placements.{HasDistinctSites}
use Rattle.atam.proofs.Count.{count_numbered}
use Rattle.assembly.specs.Cells.{site_at}
use Rattle.replay_order.specs.Inner.Spans.{IsSiteBetween}

-- the number of a site by its row and column
cell : BoxArea → Site → ℕ
cell area m = nat_abs (m.y -ℤ area.y0) * width_of area + nat_abs (m.x -ℤ area.x0)

cell_is : (area : BoxArea) (i : ℕ) → cell area (site_at area i) ≡ i
unfolding cell
cell_is area i =
    let w = width_of area in
    let row : nat_abs ((area.y0 +ℤ pos (i / w)) -ℤ area.y0) ≡ i / w = omega (arith, ints) in
    let column : nat_abs ((area.x0 +ℤ pos (i % w)) -ℤ area.x0) ≡ i % w = omega (arith, ints) in
    ap (λ (r : ℕ). r * w + nat_abs ((area.x0 +ℤ pos (i % w)) -ℤ area.x0)) row ∙ ap (λ (c : ℕ). i / w * w + c) column ∙ div-add-mod' i w

-- the places behind others have distinct sites, if all have
pub distinct_behind : (before l : List Place) → HasDistinctSites (before ++ l) → HasDistinctSites l
distinct_behind before l distinct i j e below within same =
    let n = length before in
    let at : (k : ℕ) → get_or (before ++ l) (n + k) e ≡ get_or l k e = λ k.
    get_or-append_right before l n (n + k) e (λ _. n) (omega arith) ∙ ap (λ (m : ℕ). get_or l m e) (omega arith)
    in
    let site : Place → Site = λ p. p.site in
    let within_all : n + j < length (before ++ l) = omega (arith, within, length-append before l) in
    let below_all : n + i < n + j = omega (arith, below) in
    distinct (n + i) (n + j) e below_all within_all (ap site (at i) ∙ same ∙ sym (ap site (at j)))

-- distinct sites between two numbers
pub few_between : (area : BoxArea) (first end : ℕ) (l : List Place) → HasDistinctSites l → ((p : Place) → Contains l p → IsSiteBetween area first end p.site) → length l ≤ end - first
few_between area first end l distinct between =
    let at : (i : ℕ) (e : Place) → i < length l → IsSiteBetween area first end (get_or l i e).site = λ i e within. between (get_or l i e) (Contains-get_or l i e within) in
    let number : (m : Site) (b : IsSiteBetween area first end m) → cell area m ≡ b.number = λ m b. ap (cell area) (sym b.site) ∙ cell_is area b.number in
    count_numbered (λ p. cell area p.site - first) l (end - first)
    (λ i j e below within same.
    let in_i : i < length l = omega (arith, below, within) in
    let a = at i e in_i in
    let b = at j e within in
    let one : a.number ≡ b.number = omega (arith, same, number (get_or l i e).site a, number (get_or l j e).site b, a.from, b.from) in
    distinct i j e below within (sym a.site ∙ ap (site_at area) one ∙ b.site))
    (λ i e within.
    let a = at i e within in
    omega (arith, number (get_or l i e).site a, a.from, a.before))
