-- The glues that face a site hold a type as strongly as the site pulls on it.
use Rattle.std.proofs.Common.{◌≡◌, ◌≤◌, ◌<◌, ◌+◌, ◌∙◌, ℕ, Bool, false, true≢false, List, Option, Some, None, IfSome, is_some, option_and_then, sym, ap, subst, inl, inr, arith}
use Rattle.std.proofs.lemmas.Bool.{cases_lt}
use Rattle.atam.specs.declared.site.Site.{Site}
use Rattle.atam.specs.declared.site.Side.{Side}
use Rattle.atam.specs.declared.site.Side.TheVariants.{North, East, South, West}
use Rattle.atam.specs.declared.place.GlueId.{GlueId}
use Rattle.atam.specs.declared.place.TypeId.{TypeId}
use Rattle.atam.specs.declared.place.Place.{Place}
use Rattle.atam.specs.Sites.{neighbor, opposite}
use Rattle.atam.specs.Placements.{tile_at}
use Rattle.atam.specs.TileSystem.{TileSystem, IsType, side_glue}
use Rattle.atam.specs.Assembly.{Fits, interaction, bond, pull}
use Rattle.atam.proofs.Placements.{tile_at-all}
use Rattle.atam.specs.Growth.{IsCandidate}
use Rattle.atam.proofs.Bonds.{interaction-none}
use Rattle.attach_rule.specs.declared.facing.FacingGlues.{FacingGlues}
use Rattle.attach_rule.specs.declared.bonding.Strengths.{Strengths}
use Rattle.attach_rule.specs.Bonds.{AreBonds, sum_of}
use Rattle.attach_rule.specs.Facing.{AreNone, FacesSite, facing_pull}

pub facing_pull-pull : (sys : TileSystem) (tiles : List Place) (m : Site) (glues : FacingGlues) (t : TypeId) → FacesSite sys tiles m glues →
    facing_pull sys glues t ≡ pull sys tiles m t
unfolding pull bond
facing_pull-pull sys tiles m glues t faces =
    λ k. interaction sys (side_glue sys t North) (faces.north k) + interaction sys (side_glue sys t East) (faces.east k)
    + interaction sys (side_glue sys t South) (faces.south k) + interaction sys (side_glue sys t West) (faces.west k)

module _ (sys : TileSystem) (tiles : List Place) (m : Site) (glues : FacingGlues) (faces : FacesSite sys tiles m glues) (t : TypeId) (strength : ℕ) (is : strength ≡ facing_pull sys glues t) where
  -- so a type that they hold attaches where the site is empty
  pub grows_held : IsType sys t → tile_at tiles m ≡ None → sys.tau ≤ strength → IsCandidate sys tiles m t
  grows_held kind empty held =
      let Held : ℕ → Type 0 = λ n. sys.tau ≤ n in
      record {
        kind = kind;
        attaches = record { empty = empty; held = subst Held (facing_pull-pull sys tiles m glues t faces) (subst Held is held) };
      }

  -- and one that they don't hold doesn't
  pub fails_unheld : strength < sys.tau → ¬ IsCandidate sys tiles m t
  fails_unheld weak grows =
      let same = facing_pull-pull sys tiles m glues t faces in
      let never : ⊥ = omega (arith, weak, grows.attaches.held, same, is) in
      never

-- where no glue faces the site, no type attaches
pub none_unfaced : (sys : TileSystem) (tiles : List Place) (m : Site) (glues : FacingGlues) → FacesSite sys tiles m glues → AreNone glues →
    1 ≤ sys.tau → (t : TypeId) → ¬ IsCandidate sys tiles m t
none_unfaced sys tiles m glues faces none some_tau t grows =
    let at : (d : Side) (g : Option GlueId) → g ≡ None → interaction sys (side_glue sys t d) g ≡ 0 = λ d g is_none.
    ap (interaction sys (side_glue sys t d)) is_none ∙ interaction-none sys (side_glue sys t d)
    in
    let never : ⊥ = omega (
      arith,
      some_tau,
      grows.attaches.held,
      facing_pull-pull sys tiles m glues t faces,
      at North glues.north none.north,
      at East glues.east none.east,
      at South glues.south none.south,
      at West glues.west none.west,
    )
    in
    never

-- one type more that doesn't attach
pub none_more : (sys : TileSystem) (tiles : List Place) (m : Site) (n : ℕ) → ((t : TypeId) → t.0 < n → ¬ IsCandidate sys tiles m t) →
    ¬ IsCandidate sys tiles m (record { 0 = n }) → (t : TypeId) → t.0 < n + 1 → ¬ IsCandidate sys tiles m t
none_more sys tiles m n before none t below grows = elim (cases_lt t.0 n) [
  | inl earlier ↦ before t earlier grows
  | inr last ↦
      let equal : t.0 ≡ n = omega (arith, below, last) in
      let Grows : ℕ → Type 0 = λ k. IsCandidate sys tiles m (record { 0 = k }) in
      none (subst Grows equal grows)
]

-- a test that found no tile
pub empty_from : (found tile : Option TypeId) (b : Bool) → found ≡ tile → b ≡ is_some found → b ≡ false → tile ≡ None
empty_from None tile b at test none = sym at
empty_from (Some t) tile b at test none = absurd (true≢false (sym test ∙ none))

-- what stands beside a site is of types of the system
pub kind_beside : (sys : TileSystem) (tiles : List Place) (m : Site) (t : Option TypeId) → Fits sys tiles →
    t ≡ tile_at tiles m → IfSome t (IsType sys)
kind_beside sys tiles m t fits is =
    let P : TypeId → Type 0 = λ u. IsType sys u in
    let Q : Option TypeId → Type 0 = λ o. IfSome o P in
    subst Q (sym is) (tile_at-all P tiles m fits.types)

-- the strengths with the glues that face a site are the bonds of a tile there
pub bonds_facing : (sys : TileSystem) (tiles : List Place) (m : Site) (glues : FacingGlues) (t : TypeId) (found : Strengths) →
    FacesSite sys tiles m glues →
    found.north ≡ interaction sys (side_glue sys t North) glues.north →
    found.east ≡ interaction sys (side_glue sys t East) glues.east →
    found.south ≡ interaction sys (side_glue sys t South) glues.south →
    found.west ≡ interaction sys (side_glue sys t West) glues.west →
    AreBonds sys tiles m t found
unfolding bond
bonds_facing sys tiles m glues t found faces north east south west =
    record {
      north = north ∙ ap (interaction sys (side_glue sys t North)) faces.north;
      east = east ∙ ap (interaction sys (side_glue sys t East)) faces.east;
      south = south ∙ ap (interaction sys (side_glue sys t South)) faces.south;
      west = west ∙ ap (interaction sys (side_glue sys t West)) faces.west;
    }

pub sum_pull : (sys : TileSystem) (tiles : List Place) (m : Site) (t : TypeId) (found : Strengths) → AreBonds sys tiles m t found →
    sum_of found ≡ pull sys tiles m t
unfolding pull
sum_pull sys tiles m t found are = omega (arith, are.north, are.east, are.south, are.west)

-- the strength with the tile beside a site is the bond on that side
pub bond_beside : (sys : TileSystem) (tiles : List Place) (m : Site) (t : TypeId) (d facing : Side) (beside : Option TypeId) (own other : Option GlueId) (strength : ℕ) →
    strength ≡ interaction sys own other → own ≡ side_glue sys t d → other ≡ option_and_then (λ u. side_glue sys u facing) beside →
    facing ≡ opposite d → beside ≡ tile_at tiles (neighbor m d) → strength ≡ bond sys tiles m t d
unfolding bond
bond_beside sys tiles m t d facing beside own other strength is own_is other_is faces there =
    let glue : Side → Option TypeId → Option GlueId = λ e o. option_and_then (λ u. side_glue sys u e) o in
    is ∙ ap (λ g. interaction sys g other) own_is ∙ ap (interaction sys (side_glue sys t d)) (other_is ∙ ap (λ e. glue e beside) faces ∙ ap (glue (opposite d)) there)
