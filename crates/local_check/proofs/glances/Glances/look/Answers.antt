use Rattle.std.proofs.Common.{◌≡◌, ◌∙◌, List, length, Some, slice_get, sym, ap, subst, arith}
use Rattle.std.proofs.lemmas.List.{length-set}
use Rattle.atam.specs.declared.place.TypeId.{TypeId}
use Rattle.attach_rule.specs.declared.facing.FacingGlues.{FacingGlues}
use Rattle.attach_rule.specs.Facing.{FacesSite}
use Rattle.attach_rule.proofs.Held.{sum_pull}
use Rattle.type_cache.specs.Findings.{AreFindings}
use Rattle.type_index.proofs.Keys.{same_key}
use Rattle.local_check.specs.declared.glances.LastGlance.{LastGlance}
use Rattle.local_check.specs.Inner.Glances.{IsGlanceFor, glance_of}
use Rattle.local_check.proofs.Glimpses.{comes_clean, seen_set}
use Rattle.local_check.proofs.glances.Glances.look.Goals as goal

pub returns-clause-glance : goal.returns-clause-glance
returns-clause-glance c tiles m g faces of_g stands =
    let sys = c.args.sys.now in
    let tile = c.args.tile in
    let glues = c.glues_of_key-glues.result in
    let faces_so = subst (λ (h : FacingGlues). FacesSite sys tiles m h) (same_key g glues c.args.key of_g c.glues_of_key-glues.ensures) faces in
    let bonds = c.bonds-bonds.ensures.bonds tiles m faces_so in
    record {
      sum = c.sum-sum.ensures.sum ∙ sum_pull sys tiles m tile c.bonds-bonds.result bonds;
      clean = λ said.
          comes_clean sys tiles m tile glues faces_so c.bonds-bonds.result bonds c.args.beside stands (c.is_clean-clean.ensures.settled said) (c.is_clean-clean.ensures.sole said);
    }

pub returns-clause-known : goal.returns-clause-known
returns-clause-known c =
    let sys = c.args.sys.now in
    let tile = c.args.tile in
    let inside = c.self.inside in
    let items = inside.last.items in
    let items_are : items ≡ c.args.self.now.last = ap (λ table. table.last) c.self.view_is ∙ c.is_clean-clean.ensures.last in
    let Each : List LastGlance → Type 0 = λ l. (t : TypeId) (k : LastGlance) → slice_get l t.0 ≡ Some k → IsGlanceFor sys t k.key k.beside (glance_of k) in
    let seen : LastGlance = record { key = c.args.key; sum = c.sum-sum.result; beside = c.args.beside; clean = c.is_clean-clean.result } in
    let here : IsGlanceFor sys tile c.args.key c.args.beside (glance_of seen) = λ tiles m g faces of_g stands.
    let glues = c.glues_of_key-glues.result in
    let faces_so = subst (λ (h : FacingGlues). FacesSite sys tiles m h) (same_key g glues c.args.key of_g c.glues_of_key-glues.ensures) faces in
    let bonds = c.bonds-bonds.ensures.bonds tiles m faces_so in
    record {
      sum = c.sum-sum.ensures.sum ∙ sum_pull sys tiles m tile c.bonds-bonds.result bonds;
      clean = λ said.
          comes_clean sys tiles m tile glues faces_so c.bonds-bonds.result bonds c.args.beside stands (c.is_clean-clean.ensures.settled said) (c.is_clean-clean.ensures.sole said);
    }
    in
    record {
      count = length-set items tile.0 _ ∙ ap length items_are ∙ c.requires.known.count;
      each = seen_set sys items tile seen (omega (arith, c.requires.known.count, ap length items_are, c.requires.kind)) (subst Each (sym items_are) c.requires.known.each) here;
      cache = subst (AreFindings sys) (sym (ap (λ table. table.cache) c.self.view_is)) c.is_clean-clean.ensures.known;
    }
