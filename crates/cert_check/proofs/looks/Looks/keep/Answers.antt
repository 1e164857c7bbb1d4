use Rattle.std.proofs.Common.{◌≡◌, ◌∙◌, List, length, Option, Some, slice_get, sym, ap, subst, arith}
use Rattle.std.proofs.lemmas.List.{length-set}
use Rattle.atam.specs.declared.place.TypeId.{TypeId}
use Rattle.type_cache.specs.Findings.{AreFindings}
use Rattle.cert_check.specs.declared.looks.Look.{Look}
use Rattle.cert_check.specs.Inner.Looks.{PassesLooking}
use Rattle.cert_check.proofs.Looking.{looks_set}
use Rattle.cert_check.proofs.looks.Looks.keep.Goals as goal

pub returns : goal.returns
returns c =
    let sys = c.args.sys.now in
    let tile = c.args.tile in
    let items = c.self.inside.last.items in
    let items_are : items ≡ c.args.self.now.last = ap (λ table. table.last) c.self.view_is in
    let Each : List (Option Look) → Type 0 = λ l. (t : TypeId) (look : Look) → slice_get l t.0 ≡ Some (Some look) → PassesLooking sys t look in
    record {
      count = length-set items tile.0 _ ∙ ap length items_are ∙ c.requires.known.count;
      each =
          looks_set sys items tile c.args.look (omega (arith, c.requires.known.count, ap length items_are, c.requires.kind)) (subst Each (sym items_are) c.requires.known.each)
          c.requires.passes;
      cache = subst (AreFindings sys) (sym (ap (λ table. table.cache) c.self.view_is)) c.requires.known.cache;
    }
