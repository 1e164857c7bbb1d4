use Rattle.std.proofs.Common.{refl}
use Rattle.type_index.proofs.Keys.{no_key}
use Rattle.type_cache.proofs.Sums.{unfaced}
use Rattle.type_cache.proofs.Keeping.{all_known}
use Rattle.type_cache.proofs.Settling.{settles_none}
use Rattle.type_cache.proofs.cache.FacingCache.make.Goals as goal

pub returns : goal.returns
returns c =
    let sys = c.args.sys.now in
    record {
      known = all_known sys c.in_ok-from_elem.field-0.items _ _ (c.in_ok-from_elem.ensures.items_if_clones_equal (λ y same. same)) (λ glues of_glues.
          let none = no_key glues of_glues in
          record {
            sum = unfaced sys glues _ c.recall_valid.ensures.valid.some_tau none.0 none.1 none.2 none.3 refl refl refl;
            settled = settles_none sys glues _ refl;
          });
      list = c.in_ok-make.ensures;
    }
