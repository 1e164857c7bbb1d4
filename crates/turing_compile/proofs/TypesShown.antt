-- What the types of a machine's system show.
use Rattle.std.proofs.Common.{◌≡◌, ◌<◌, ℕ, List, length, get_or, Some, slice_get, option_and_then, Contains, sym, ◌∙◌, ap, subst, arith}
use Rattle.std.proofs.lemmas.List.{length-map}
use Rattle.std.proofs.lemmas.List.Elements.{All-contains, Contains-get_or}
use Rattle.std.proofs.lemmas.Option.{slice_get-get_or}
use Rattle.atam.specs.declared.site.Site.{Site}
use Rattle.atam.specs.declared.place.TypeId.{TypeId}
use Rattle.atam.specs.declared.place.Place.{Place}
use Rattle.atam.specs.Assembly.{Fits}
use Rattle.atam.specs.Placements.{tile_at}
use Rattle.atam.specs.TileSystem.{IsType}
use Rattle.atam.proofs.Placements.{tile_at-Contains}
use Rattle.design.specs.TileSets.{tile_type}
use Rattle.machine_text.specs.Machines.{TuringMachine, IsMachine}
use Rattle.turing_compile.specs.declared.kind.Kind.{Kind}
use Rattle.turing_compile.specs.Shown.{shown}
use Rattle.turing_compile.specs.Compiled.{tiles_of, compiled}
use Rattle.turing_compile.specs.Inner.Listed.{kinds}
use Rattle.turing_compile.specs.Rows.{type_shown}
use Rattle.turing_compile.specs.Inner.Members.{IsKind}
use Rattle.turing_compile.proofs.Listed.{listed_kind}

module _ (M : TuringMachine) where
  -- a tile of an assembly of the system is of a listed kind
  pub tile_listed : (tiles : List Place) (m : Site) (t : TypeId) (listed : List Kind) → Fits (compiled M) tiles → listed ≡ kinds M → tile_at tiles m ≡ Some t → t.0 < length listed
  tile_listed tiles m t listed fits same there =
      let is_type : IsType (compiled M) t = All-contains (λ p. IsType (compiled M) p.tile) tiles (record { site = m; tile = t }) fits.types (tile_at-Contains tiles m t there) in
      let count = length-map (kinds M) (tile_type (tiles_of M)) in
      let long = ap length same in
      omega (arith, is_type, count, long)

  pub kind_read : IsMachine M → (listed : List Kind) (t : ℕ) (d : Kind) → listed ≡ kinds M → t < length listed → IsKind M (get_or listed t d)
  kind_read is_machine listed t d same less =
      listed_kind M is_machine (get_or listed t d) (subst (λ ks. Contains ks (get_or listed t d)) same (Contains-get_or listed t d less))

  pub type_shown-read : (listed : List Kind) (t : TypeId) (d : Kind) → listed ≡ kinds M → t.0 < length listed → shown M (get_or listed t.0 d) ≡ type_shown M t
  type_shown-read listed t d same less =
      sym (ap (option_and_then (shown M)) (ap (λ ks. slice_get ks t.0) (sym same) ∙ slice_get-get_or listed t.0 d less))
