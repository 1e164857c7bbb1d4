use Rattle.std.proofs.Common.{List, Bool, IfSome, Option, Some, ◌≡◌, ◌∙◌, length, slice_get, refl, sym, ap, subst, arith}
use Rattle.std.proofs.lemmas.List.{length-set}
use Rattle.atam.specs.declared.site.Site.{Site}
use Rattle.atam.specs.declared.place.Place.{Place}
use Rattle.atam.specs.declared.place.TypeId.{TypeId}
use Rattle.attach_rule.specs.Facing.{FacesSite}
use Rattle.attach_rule.specs.declared.facing.FacingGlues.{FacingGlues}
use Rattle.type_index.specs.HeldTypes.{FirstHeldBut}
use Rattle.type_cache.specs.Findings.{AreFindings}
use Rattle.type_index.proofs.Keys.{same_key}
use Rattle.local_check.specs.declared.findings.PlaceFinding.{PlaceFinding}
use Rattle.local_check.specs.declared.findings.LastFinding.{LastFinding}
use Rattle.type_cache.specs.SideSets.{intersection, difference, complement, glues_on}
use Rattle.local_check.specs.Inner.PlaceFindings.{IsFinding, IsKnown}
use Rattle.local_check.proofs.PlaceFindings.{known_set, same_facing}
use Rattle.local_check.proofs.Sites.{slice_get-set}
use Rattle.local_check.proofs.Sides.{bound_by-bonds, sum_on-bonds}
use Rattle.local_check.proofs.findings.Findings.find.Goals as goal

pub returns-clause-known : goal.returns-clause-known
returns-clause-known c =
    let sys = c.args.sys.now in
    let tile = c.args.tile in
    let before = c.args.before in
    let seeks = c.args.self.now.seeks in
    let glues = c.glues_of_key-glues.result in
    let finding : PlaceFinding = record { earlier = c.within.result; sum = c.sum_on.result; outputs = c.without-outputs.result; rival = c.rival-rival.result } in
    let here : (tiles : List Place) (m : Site) → FacesSite sys tiles m glues → IsFinding sys tiles m tile before seeks finding = λ tiles m faces.
    let bonds = c.bonds-bonds.ensures.bonds tiles m faces in
    let bound = c.bound_by-bound.ensures ∙ bound_by-bonds sys tiles m tile c.bonds-bonds.result bonds in
    let Kept : FacingGlues → Type 0 = λ kept. FirstHeldBut sys kept tile c.rival-rival.result in
    let Held : FacingGlues → Type 0 = λ g. Kept (glues_on (complement c.without-outputs.result) g) in
    let kept : c.glues_on-kept.result ≡ glues_on (complement c.without-outputs.result) glues =
    c.glues_on-kept.ensures ∙ ap (λ sides. glues_on sides glues) c.complement.ensures
    in
    record {
      earlier = c.within.ensures ∙ ap (λ sides. intersection sides before) bound;
      outputs = c.without-outputs.ensures ∙ ap (λ sides. difference sides before) bound;
      sum = c.sum_on.ensures ∙ sum_on-bonds sys tiles m tile c.bonds-bonds.result before bonds;
      rival = λ sought g faces_g. subst Held (same_facing sys tiles m glues g faces faces_g) (subst Kept kept (c.rival-rival.ensures.rival sought));
    }
    in
    let last : LastFinding = record { key = c.args.key; before = before; finding = finding } in
    let is : IsKnown sys seeks tile last = λ tiles m g faces of_g.
    here tiles m (subst (λ (h : FacingGlues). FacesSite sys tiles m h) (same_key g glues c.args.key of_g c.glues_of_key-glues.ensures) faces)
    in
    let known = c.requires.known in
    let inside = c.self.inside in
    let items = inside.last.items in
    let items_are : items ≡ c.args.self.now.last = ap (λ table. table.last) c.self.view_is ∙ c.rival-rival.ensures.last in
    let seeks_is : inside.seeks ≡ seeks = ap (λ table. table.seeks) c.self.view_is ∙ c.rival-rival.ensures.seeks in
    let Each : List LastFinding → Bool → Type 0 = λ l b. (t : TypeId) (k : LastFinding) → slice_get l t.0 ≡ Some k → IsKnown sys b t k in
    let each = subst (λ l. Each l inside.seeks) (sym items_are) (subst (λ b. Each c.args.self.now.last b) (sym seeks_is) known.each) in
    record {
      count = length-set items tile.0 _ ∙ ap length items_are ∙ known.count;
      each = known_set sys inside.seeks items tile last (omega (arith, known.count, ap length items_are, c.requires.kind)) each
          (subst (λ b. IsKnown sys b tile last) (sym seeks_is) is);
      cache = subst (AreFindings sys) (sym (ap (λ table. table.cache) c.self.view_is)) c.rival-rival.ensures.known;
    }

pub returns-clause-kept : goal.returns-clause-kept
returns-clause-kept c =
    let items = c.self.inside.last.items in
    let items_are : items ≡ c.args.self.now.last = ap (λ table. table.last) c.self.view_is ∙ c.rival-rival.ensures.last in
    let Kept : Option LastFinding → Type 0 = λ found. IfSome found (λ k. (k.key ≡ c.args.key) × (k.before ≡ c.args.before)) in
    subst Kept (sym (slice_get-set items c.args.tile.0 _ (omega (arith, c.requires.known.count, ap length items_are, c.requires.kind)))) (refl, refl)

pub returns-clause-seeks : goal.returns-clause-seeks
returns-clause-seeks c = ap (λ table. table.seeks) c.self.view_is ∙ c.rival-rival.ensures.seeks
