use Rattle.std.proofs.Common.{◌≡◌, true, false, Ok, Err, ap, refl, sym, ◌∙◌, rules}
use Rattle.std.specs.Prelude.{filter_map, ◌==◌, is_some}
use Rattle.atam.specs.TileSystem.{is_name}
use Rattle.tile_io.specs.Checks.{count_in, field, referred}
use Rattle.tile_system.specs.Pairs.{paired_strength}
use Rattle.tile_text.specs.SystemText.{glue_names, pair_of}
use Rattle.tile_text.specs.Inner.Kinds.{pair_row}
use Rattle.tile_text.specs.SystemText.SystemItem.{PairLine}
use Rattle.tile_text.proofs.Built.{pairs-built}
use Rattle.std.specs.List.{list_any}
use Rattle.atam.specs.TileSystem.{is_pair_of}
use Rattle.tile_text.proofs.Paired.{paired_any}
use Rattle.tile_text.proofs.take.take_pair.Goals as goal
use Rattle.std.specs.List.{list_any}
use Rattle.atam.specs.TileSystem.{is_pair_of}
use Rattle.tile_text.proofs.Paired.{paired_any}
use Rattle.tile_text.proofs.take.take_pair.Goals.{then-eq-via-then-eq, then-eq-via-else-eq+then-are_paired}

pub returns-in_err-second : goal.returns-in_err-second
returns-in_err-second c = λ items built.
    let words = c.args.words.now in
    let names = glue_names items in
    let first : referred is_name names (field words 1) ≡ Ok c.in_ok-first.first.0 = ap (referred is_name names) (sym c.word.ensures) ∙ c.in_ok-first.ensures.glue items built in
    let second : referred is_name names (field words 2) ≡ Err c.in_err-second.field-0.0 = ap (referred is_name names) (sym c.word-2.ensures) ∙ c.in_err-second.ensures.fault items built in
    let bad : pair_row.fields items words ≡ Err c.in_err-second.field-0.0 = rw (first, second) refl in
    search (rules, bad)

pub returns-in_err-strength : goal.returns-in_err-strength
returns-in_err-strength c = λ items built.
    let words = c.args.words.now in
    let names = glue_names items in
    let first : referred is_name names (field words 1) ≡ Ok c.in_ok-first.first.0 = ap (referred is_name names) (sym c.word.ensures) ∙ c.in_ok-first.ensures.glue items built in
    let second : referred is_name names (field words 2) ≡ Ok c.in_ok-second.second.0 = ap (referred is_name names) (sym c.word-2.ensures) ∙ c.in_ok-second.ensures.glue items built in
    let read = ap (count_in 0 250) (sym c.word-3.ensures) ∙ sym c.in_err-strength.ensures.value in
    let bad : pair_row.fields items words ≡ Err c.in_err-strength.field-0.0 = rw (first, second, read) refl in
    search (rules, bad)

pub returns-then-eq : goal.returns-then-eq
returns-then-eq c = λ items built.
    let words = c.args.words.now in
    let names = glue_names items in
    let g = c.in_ok-first.first in
    let h = c.in_ok-second.second in
    let first : referred is_name names (field words 1) ≡ Ok g.0 = ap (referred is_name names) (sym c.word.ensures) ∙ c.in_ok-first.ensures.glue items built in
    let second : referred is_name names (field words 2) ≡ Ok h.0 = ap (referred is_name names) (sym c.word-2.ensures) ∙ c.in_ok-second.ensures.glue items built in
    let read = ap (count_in 0 250) (sym c.word-3.ensures) ∙ sym c.in_ok-strength.ensures.value in
    elim c.then-eq.branch [
      | then-eq-via-then-eq w ↦ (let same : (g.0 == h.0) ≡ true = sym c.eq.ensures ∙ w.if-eq.true in (rw (first, second, read, same) refl, refl))
      | then-eq-via-else-eq+then-are_paired w ↦ (
          let unlike : (g.0 == h.0) ≡ false = sym c.eq.ensures ∙ w.if-eq.false in
          let paired : list_any (λ p. is_pair_of p (record { 0 = g.0 }) (record { 0 = h.0 })) (filter_map pair_of items) ≡ true = sym (paired_any (filter_map pair_of items) g h) ∙ ap (λ l. is_some (paired_strength l g h)) (pairs-built c.args.builder.now items built) ∙ sym w.are_paired.ensures ∙ w.if-are_paired.true in
          (rw (first, second, read, unlike, paired) refl, refl)
          )
    ]

pub returns-in-Ok : goal.returns-in-Ok
returns-in-Ok c = λ items built.
    let words = c.args.words.now in
    let names = glue_names items in
    let g = c.in_ok-first.first in
    let h = c.in_ok-second.second in
    let first : referred is_name names (field words 1) ≡ Ok g.0 = ap (referred is_name names) (sym c.word.ensures) ∙ c.in_ok-first.ensures.glue items built in
    let second : referred is_name names (field words 2) ≡ Ok h.0 = ap (referred is_name names) (sym c.word-2.ensures) ∙ c.in_ok-second.ensures.glue items built in
    let read = ap (count_in 0 250) (sym c.word-3.ensures) ∙ sym c.in_ok-strength.ensures.value in
    let unlike : (g.0 == h.0) ≡ false = sym c.eq.ensures ∙ c.if-eq.false in
    let fresh : list_any (λ p. is_pair_of p (record { 0 = g.0 }) (record { 0 = h.0 })) (filter_map pair_of items) ≡ false = sym (paired_any (filter_map pair_of items) g h) ∙ ap (λ l. is_some (paired_strength l g h)) (pairs-built c.args.builder.now items built) ∙ sym c.are_paired.ensures ∙ c.if-are_paired.false in
    (PairLine (record { first = g; second = h; strength = c.in_ok-strength.strength }), refl, rw (first, second, read, unlike, fresh) refl, c.in-Ok.ensures.ok)
