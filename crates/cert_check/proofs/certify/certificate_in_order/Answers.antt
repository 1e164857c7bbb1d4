use Rattle.std.proofs.Common.{◌≡◌, ◌<◌, ◌+◌, ◌++◌, ◌∷◌, [], length, length-append, All, sym, ap, subst, arith}
use Rattle.std.proofs.lemmas.List.Elements.{All-push}
use Rattle.atam.proofs.Sequences.{IsLegal-distinct}
use Rattle.cert_check.specs.Certificates.{IsCertificateOf}
use Rattle.cert_check.proofs.Listed.{own_good}
use Rattle.cert_check.proofs.Certifying.{few_places}
use Rattle.cert_check.proofs.InOrder.{AreInputBits, input_bits-more, in_order-certificate}
use Rattle.cert_check.proofs.certify.certificate_in_order.Goals as goal

pub loop-index-preserved : goal.loop-index-preserved
loop-index-preserved c =
    let stated = c.loop-index.stated.items in
    let so_far = c.loop-index.invariant in
    let set = c.input_bits.result in
    let grown : c.push_reserved.new.self.items ≡ stated ++ set ∷ [] = c.push_reserved.ensures.items in
    let long : length (stated ++ set ∷ []) ≡ length stated + 1 = length-append stated (set ∷ []) in
    record {
      count = omega (arith, ap length grown, long, so_far.count);
      room = omega (arith, c.push_reserved.ensures.capacity, so_far.room);
      inputs =
          subst (AreInputBits c.args.sides.now) (sym grown)
          (input_bits-more c.args.sides.now stated c.loop-index.index set so_far.count so_far.inputs c.input_bits.ensures.value);
      small = subst (All (λ s. s < 16)) (sym grown) (All-push (λ s. s < 16) stated set so_far.small c.input_bits.ensures.small);
    }

pub of-requires-clause-few : goal.of-requires-clause-few
of-requires-clause-few c =
    let few = few_places c.args.sys.now c.args.order c.recall_valid.ensures.valid c.requires.legal c.requires.fits in
    omega (arith, few)

pub of-requires-clause-distinct : goal.of-requires-clause-distinct
of-requires-clause-distinct c = IsLegal-distinct c.args.sys.now c.args.order c.recall_valid.ensures.valid.distinct_seeds c.requires.legal

-- all places have their sides
certificate_of_all : (c : goal.After-of) → IsCertificateOf c.args.sys.now c.args.order c.of.result
certificate_of_all c =
    let stated = c.loop-index.stated.items in
    let all : length stated ≡ length c.args.order =
    omega (arith, c.loop-index.invariant.count, c.len-index-end.ensures, c.loop-index.auto.index-end, c.loop-index-test.false)
    in
    subst (IsCertificateOf c.args.sys.now c.args.order) (sym c.of.ensures) (in_order-certificate c.args.sys.now c.args.order stated c.args.sides.now all c.requires.sides c.loop-index.invariant.inputs)

pub returns-clause-certificate : goal.returns-clause-certificate
returns-clause-certificate c = certificate_of_all c

pub returns-clause-good : goal.returns-clause-good
returns-clause-good c deterministic =
    own_good c.args.sys.now c.args.order c.of.result c.recall_valid.ensures.valid.distinct_seeds deterministic (certificate_of_all c)
