use Rattle.std.proofs.Common.{◌≡◌, ◌<◌, ◌≤◌, ◌+◌, ◌++◌, ◌∷◌, [], ◌∙◌, ℕ, List, length, length-append, take, vec_capacity, Some, slice_get, All, sym, ap, subst, arith}
use Rattle.std.proofs.Math.Seq.{take-length}
use Rattle.std.proofs.lemmas.List.Elements.{All-nil, All-push}
use Rattle.std.proofs.lemmas.Option.{none-some}
use Rattle.atam.specs.declared.site.Side.{Side}
use Rattle.atam.specs.declared.place.Place.{Place}
use Rattle.atam.specs.Placements.{HasDistinctSites}
use Rattle.atam.specs.Determinism.{is_input}
use Rattle.atam.proofs.Sequences.{IsLegal-distinct}
use Rattle.local_check.specs.SideSets.{input_at}
use Rattle.cert_check.specs.declared.entry.Entry.{Entry}
use Rattle.cert_check.specs.Certificates.{states, places_of, IsCertificateOf}
use Rattle.cert_check.proofs.Listed.{own_good}
use Rattle.cert_check.proofs.Certifying.{few_places, places_more, sides_more, ranks_more}
use Rattle.cert_check.proofs.certify.certificate_of.Goals as goal

pub loop-index-init : goal.loop-index-init
loop-index-init c =
    let none = c.in_ok-entries.ensures.items in
    record {
      places = ap places_of none;
      count = ap length none;
      room = omega (arith, c.in_ok-entries.ensures.capacity, c.len.ensures);
      sides = λ i e d there. absurd (none-some e (ap (λ l. slice_get l i) (sym none) ∙ there));
      ranks = λ i e there. absurd (none-some e (ap (λ l. slice_get l i) (sym none) ∙ there));
      four = subst (All (λ (e : Entry). e.sides < 16)) (sym none) (All-nil (λ (e : Entry). e.sides < 16));
    }

pub get-requires : goal.get-requires
get-requires c = omega (arith, c.loop-index-test.true, c.len-index-end.ensures)

pub input_bits-requires : goal.input_bits-requires
input_bits-requires c = omega (arith, c.loop-index-test.true, c.len-index-end.ensures, c.requires.sides.count)

pub overflow_cast-index : goal.overflow_cast-index
overflow_cast-index c =
    let few = few_places c.args.sys.now c.args.seq.now c.recall_valid.ensures.valid c.requires.legal c.requires.fits in
    omega (arith, few, c.loop-index-test.true, c.len-index-end.ensures)

pub push_reserved-requires : goal.push_reserved-requires
push_reserved-requires c =
    let room : length c.loop-index.entries.items < vec_capacity c.loop-index.entries =
    omega (arith, c.loop-index.invariant.count, c.loop-index.invariant.room, c.loop-index-test.true, c.len-index-end.ensures)
    in
    omega (arith, room)

pub loop-index-preserved : goal.loop-index-preserved
loop-index-preserved c =
    let sys = c.args.sys.now in
    let s = c.args.seq.now in
    let i = c.loop-index.index in
    let entries = c.loop-index.entries.items in
    let so_far = c.loop-index.invariant in
    let bits = c.input_bits.result in
    let x : Entry = record { place = c.get.result; sides = bits; rank = i } in
    let grown : c.push_reserved.new.self.items ≡ entries ++ x ∷ [] = c.push_reserved.ensures.items in
    let below : i < length s = omega (arith, c.loop-index-test.true, c.len-index-end.ensures) in
    let long : length (entries ++ x ∷ []) ≡ length entries + 1 = length-append entries (x ∷ []) in
    record {
      places =
          subst (λ (l : List Entry). places_of l ≡ take (i + 1) s) (sym grown)
          (places_more sys s entries i c.get.result bits so_far.places c.get.ensures);
      count = omega (arith, ap length grown, long, so_far.count);
      room = omega (arith, c.push_reserved.ensures.capacity, so_far.room);
      sides =
          subst (λ (l : List Entry). (k : ℕ) (e : Entry) (d : Side) → slice_get l k ≡ Some e → states e d ≡ is_input sys s k d) (sym grown)
          (sides_more sys s entries i c.get.result bits so_far.count (λ d. input_at c.args.sides.now i d) c.input_bits.ensures.value
          (λ d. c.requires.sides.inputs i d below) so_far.sides);
      ranks =
          subst (λ (l : List Entry). (k : ℕ) (e : Entry) → slice_get l k ≡ Some e → e.rank ≡ k) (sym grown)
          (ranks_more sys s entries i c.get.result bits so_far.count so_far.ranks);
      four =
          subst (All (λ (e : Entry). e.sides < 16)) (sym grown)
          (All-push (λ (e : Entry). e.sides < 16) entries x so_far.four c.input_bits.ensures.small);
    }

-- all places have their entries
all_places : (s : List Place) (places : List Place) (i end : ℕ) → places ≡ take i s → end ≡ length s → i ≤ end → end ≤ i → places ≡ s
all_places s places i end so_far is within past =
    let all : i ≡ length s = omega (arith, is, within, past) in
    so_far ∙ ap (λ n. take n s) all ∙ take-length s

pub of-requires-clause-distinct : goal.of-requires-clause-distinct
of-requires-clause-distinct c =
    let sys = c.args.sys.now in
    let s = c.args.seq.now in
    let all = all_places s (places_of c.loop-index.entries.items) c.loop-index.index _ c.loop-index.invariant.places c.len-index-end.ensures c.loop-index.auto.index-end c.loop-index-test.false in
    subst HasDistinctSites (sym all) (IsLegal-distinct sys s c.recall_valid.ensures.valid.distinct_seeds c.requires.legal)

pub of-requires-clause-sides : goal.of-requires-clause-sides
of-requires-clause-sides c = c.loop-index.invariant.four

pub returns-clause-certificate : goal.returns-clause-certificate
returns-clause-certificate c =
    let all = all_places c.args.seq.now (places_of c.loop-index.entries.items) c.loop-index.index _ c.loop-index.invariant.places c.len-index-end.ensures c.loop-index.auto.index-end c.loop-index-test.false in
    subst (IsCertificateOf c.args.sys.now c.args.seq.now) (sym c.of.ensures) (record {
      places = all;
      sides = c.loop-index.invariant.sides;
      ranks = c.loop-index.invariant.ranks;
    })

pub returns-clause-good : goal.returns-clause-good
returns-clause-good c deterministic =
    let all = all_places c.args.seq.now (places_of c.loop-index.entries.items) c.loop-index.index _ c.loop-index.invariant.places c.len-index-end.ensures c.loop-index.auto.index-end c.loop-index-test.false in
    let certificate : IsCertificateOf c.args.sys.now c.args.seq.now c.of.result =
    subst (IsCertificateOf c.args.sys.now c.args.seq.now) (sym c.of.ensures) (record {
      places = all;
      sides = c.loop-index.invariant.sides;
      ranks = c.loop-index.invariant.ranks;
    })
    in
    own_good c.args.sys.now c.args.seq.now c.of.result c.recall_valid.ensures.valid.distinct_seeds deterministic certificate
