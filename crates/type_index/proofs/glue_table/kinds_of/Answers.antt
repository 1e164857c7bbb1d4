use Rattle.std.proofs.Common.{◌∙◌, ap, arith, length, length-append, replicate, slice_get, sym}
use Rattle.type_index.specs.declared.glue_table.GlueKind.TheVariants.{Alone}
use Rattle.type_index.proofs.Mosts.{kinds_alone, kinds_more}
use Rattle.type_index.proofs.glue_table.kinds_of.Goals as goal

pub returns-then-pair_count-eq0 : goal.returns-then-pair_count-eq0
returns-then-pair_count-eq0 c =
    let sys = c.args.sys.now in
    kinds_alone sys c.in_ok-from_elem.field-0.items (omega (arith, c.if-pair_count-eq0.true, c.pair_count.ensures.count))
    (c.in_ok-from_elem.ensures.items_if_clones_equal (λ y same. same) ∙ ap (λ n. replicate n Alone) c.glue_count-count.ensures.count)

pub loop-number-preserved : goal.loop-number-preserved
loop-number-preserved c =
    let sys = c.args.sys.now in
    let at = c.loop-number.invariant in
    let items = c.in_ok-push.ensures.items in
    record {
      count = ap length items ∙ length-append c.loop-number.kinds.items _ ∙ omega (arith, at.count);
      lone = λ g is.
          kinds_more sys c.loop-number.kinds.items c.kind_of-kind.result c.loop-number.number at.count c.kind_of-kind.ensures.lone at.lone g
          (sym (ap (λ ks. slice_get ks g.0) items) ∙ is);
    }
