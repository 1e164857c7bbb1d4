use Rattle.std.proofs.Common.{length, refl, ap, ◌∙◌}
use Rattle.std.proofs.lemmas.List.{length-replicate}
use Rattle.type_index.proofs.Keys.{no_key}
use Rattle.local_check.proofs.Glimpses.{nothing_seen, all_seen}
use Rattle.local_check.proofs.glances.Glances.make.Goals as goal

pub returns : goal.returns
returns c =
    let sys = c.args.sys.now in
    let items = c.in_ok-from_elem.ensures.items_if_clones_equal (λ y same. same) in
    record {
      count = ap length items ∙ length-replicate _ _ ∙ c.type_count.ensures.count;
      each = all_seen sys c.in_ok-from_elem.field-0.items _ _ items (λ t tiles m glues faces of_glues stands.
          let none = no_key glues of_glues in
          nothing_seen sys tiles m t glues faces (record { north = none.0; east = none.1; south = none.2; west = none.3 }) _ refl refl);
      cache = c.in_ok-make.ensures;
    }
