use Rattle.std.proofs.Common.{◌≡◌, ◌++◌, ◌∷◌, ◌∙◌, [], ap, arith, length, length-append}
use Rattle.type_index.specs.Partners.{partners_of}
use Rattle.type_index.proofs.Partnering.{partners_few, partners_next}
use Rattle.type_index.proofs.partners.Partners.gathered.Goals as goal

pub overflow_cast-len : goal.overflow_cast-len
overflow_cast-len c =
    let own = partners_of c.args.kinds.now (record { 0 = c.loop-number.number }) c.args.sys.now.pairs in
    let longer = ap length c.in_ok-gather.ensures ∙ length-append c.loop-number.partners.items own in
    let few = partners_few c.args.kinds.now (record { 0 = c.loop-number.number }) c.args.sys.now.pairs in
    omega (
      arith,
      c.len.ensures,
      longer,
      few,
      c.loop-number.invariant.few,
      c.loop-number-test.true,
      c.glue_count-count.ensures.count,
      c.recall_valid.ensures.valid.glue_count,
      c.recall_valid.ensures.valid.pair_count,
    )

pub loop-number-preserved : goal.loop-number-preserved
loop-number-preserved c =
    let sys = c.args.sys.now in
    let kinds = c.args.kinds.now in
    let n = c.loop-number.number in
    let before = c.loop-number.partners.items in
    let own = partners_of kinds (record { 0 = n }) sys.pairs in
    let longer = ap length c.in_ok-gather.ensures ∙ length-append before own in
    let few = partners_few kinds (record { 0 = n }) sys.pairs in
    let size : c.len.result ≡ length c.gather.new.partners.items = omega (arith, c.len.ensures, c.gather.new.partners.ok) in
    record {
      lists = partners_next sys kinds n c.loop-number.starts.items c.push-in-loop-number.new.self.items before c.gather.new.partners.items c.loop-number.invariant.lists c.in_ok-gather.ensures
          (c.in_ok-push-2.ensures.items ∙ ap (λ k. c.loop-number.starts.items ++ k ∷ []) size);
      few = omega (arith, longer, few, c.loop-number.invariant.few, c.recall_valid.ensures.valid.pair_count);
    }
