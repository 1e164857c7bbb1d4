-- What sums up the types that glues hold.
use Rattle.std.proofs.Common.{◌≡◌, ◌≤◌, ◌<◌, ◌∙◌, ℕ, refl, sym, ap, subst, arith, List, [], Option, Some, None, All, IfSome, length, slice_get}
use Rattle.std.proofs.lemmas.List.Elements.{All-nil}
use Rattle.atam.specs.declared.site.Side.{Side}
use Rattle.atam.specs.declared.site.Side.TheVariants.{North, East, South, West}
use Rattle.atam.specs.declared.site.Site.{Site}
use Rattle.atam.specs.declared.place.GlueId.{GlueId}
use Rattle.atam.specs.declared.place.TypeId.{TypeId}
use Rattle.atam.specs.declared.place.Place.{Place}
use Rattle.atam.specs.TileSystem.{TileSystem, side_glue}
use Rattle.atam.specs.Placements.{tile_at}
use Rattle.atam.specs.Assembly.{interaction}
use Rattle.atam.proofs.Lists.{All-slice_get}
use Rattle.atam.proofs.Bonds.{interaction-none}
use Rattle.attach_rule.specs.declared.facing.FacingGlues.{FacingGlues}
use Rattle.attach_rule.specs.Candidates.{RoomyTypes}
use Rattle.attach_rule.specs.Facing.{FacesSite}
use Rattle.type_index.specs.declared.found.Found.{Found}
use Rattle.type_index.specs.Codes.{IsKeyOf}
use Rattle.type_index.specs.HeldTypes.{IsHeld, AreHeld}
use Rattle.type_index.specs.Sums.{SumsUp, SumsUpCandidates, SumsUpHeld}
use Rattle.type_index.proofs.Holding.{candidates_listed}
use Rattle.type_cache.specs.Findings.{IsHeldList, IsSmall, KeyedTypes}

-- what sums up the types that are held fits in 16 bits
small_place : (P : TypeId → Type 0) (types : List TypeId) (k : ℕ) (found : Option TypeId) → All P types → slice_get types k ≡ found → IfSome found P
small_place P types k None all at = search
small_place P types k (Some t) all at = All-slice_get P types k t all at

pub small_sum : (sys : TileSystem) (glues : FacingGlues) (types : List TypeId) (found : Found) → AreHeld sys glues types → length types ≤ length sys.types → length sys.types ≤ 16384 → SumsUp types found → IsSmall found
small_sum sys glues types found held within few sum =
    let Small : TypeId → Type 0 = λ t. t.0 < 65535 in
    let all : All Small types = λ k d inside. let is = held.each k d inside in let kind = is.kind in omega (arith, kind, few) in
    record {
      count = let counted = sum.count in omega arith;
      first = small_place Small types 0 found.first all (sym sum.first);
      second = small_place Small types 1 found.second all (sym sum.second);
    }

-- a list of the types that glues with its key hold sums them up
pub sums_listed : (sys : TileSystem) (glues : FacingGlues) (list : KeyedTypes) (types : RoomyTypes) (key : ℕ) (found : Found) → IsHeldList sys list → list.key ≡ key → IsKeyOf glues key → types ≡ list.listed →
    SumsUp types.types found → SumsUpHeld sys glues found
sums_listed sys glues list types key found is keyed of_key same sum = record {
  types = list.listed.types;
  are = is.held glues (subst (IsKeyOf glues) (sym keyed) of_key);
  sum = subst (λ (l : RoomyTypes). SumsUp l.types found) same sum;
}

-- where no glue faces a site, no type is held
pub unfaced_none : (sys : TileSystem) (glues : FacingGlues) (types : List TypeId) → 1 ≤ sys.tau → glues.north ≡ None → glues.east ≡ None → glues.south ≡ None → glues.west ≡ None →
    types ≡ [] → AreHeld sys glues types
unfaced_none sys glues types some_tau north east south west empty =
    let Held : List TypeId → Type 0 = AreHeld sys glues in
    subst Held (sym empty) (record {
      sorted = λ i j d less within. let never : ⊥ = omega (arith, within) in absurd never;
      each = All-nil (IsHeld sys glues);
      complete = λ t held.
          let at : (d : Side) (g : Option GlueId) → g ≡ None → interaction sys (side_glue sys t d) g ≡ 0 = λ d g is_none.
          ap (interaction sys (side_glue sys t d)) is_none ∙ interaction-none sys (side_glue sys t d)
          in
          absurd (omega (arith, some_tau, held.held, at North glues.north north, at East glues.east east, at South glues.south south, at West glues.west west));
    })

pub unfaced : (sys : TileSystem) (glues : FacingGlues) (found : Found) → 1 ≤ sys.tau → glues.north ≡ None → glues.east ≡ None → glues.south ≡ None → glues.west ≡ None →
    found.count ≡ 0 → found.first ≡ None → found.second ≡ None → SumsUpHeld sys glues found
unfaced sys glues found some_tau north east south west count first second = record {
  types = [];
  are = unfaced_none sys glues [] some_tau north east south west refl;
  sum = record { count = count; first = first; second = second };
}

-- what sums up the types that are held sums up those that attach at an empty site
pub candidates_held : (sys : TileSystem) (tiles : List Place) (m : Site) (glues : FacingGlues) (found : Found) → FacesSite sys tiles m glues → tile_at tiles m ≡ None → SumsUpHeld sys glues found → SumsUpCandidates sys tiles m found
candidates_held sys tiles m glues found faces empty held = record {
  types = held.types;
  are = candidates_listed sys tiles m glues held.types faces empty held.are;
  sum = held.sum;
}
