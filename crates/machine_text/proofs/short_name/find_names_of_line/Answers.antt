use Rattle.std.proofs.Common.{◌≡◌, ℕ, List, length, Err, drop, sym, ap, ◌∙◌, arith, rules}
use Rattle.tile_io.specs.Lines.{words_of}
use Rattle.machine_text.specs.MachineText.{references}
use Rattle.machine_text.proofs.References.{with_front, references_next, references_fault, no_more, no_front, behind_first}
use Rattle.machine_text.proofs.short_name.find_names_of_line.Goals as goal

pub loop-word-init : goal.loop-word-init
loop-word-init c =
    let names = c.args.names.now in
    let left = words_of c.next_word-first.new.rest in
    ap (λ front. with_front front (references names left)) c.new-numbers.ensures.items
    ∙ no_front (references names left)
    ∙ ap (references names) (behind_first (λ x. x.now) c.next_word-first.result (words_of c.words-rest.result) left c.next_word-first.ensures)
    ∙ ap (λ (line : List ℕ). references names (drop 1 (words_of line))) c.words-rest.ensures

pub returns-in_err-number : goal.returns-in_err-number
returns-in_err-number c =
    let names = c.args.names.now in
    let cause = c.in_err-number.field-0.0 in
    let front = c.loop-word.numbers.items in
    let left = words_of c.next_word.new.rest in
    let stops = references_fault names c.in-Some.word.now left front cause (sym c.in_err-number.ensures.number) in
    let bad : references names (drop 1 (words_of c.args.line.now)) ≡ Err cause =
    sym c.loop-word.invariant ∙ ap (λ l. with_front front (references names l)) c.in-Some.ensures ∙ stops in
    search (rules, bad)

pub loop-word-preserved : goal.loop-word-preserved
loop-word-preserved c =
    let names = c.args.names.now in
    let front = c.loop-word.numbers.items in
    let left = words_of c.next_word.new.rest in
    let more = references_next names c.in-Some.word.now left front c.in_ok-number.number (sym c.in_ok-number.ensures.number) in
    ap (λ f. with_front f (references names left)) c.in-Ok.ensures.items ∙ sym more
    ∙ ap (λ l. with_front front (references names l)) (sym c.in-Some.ensures) ∙ c.loop-word.invariant

pub returns : goal.returns
returns c =
    let names = c.args.names.now in
    let front = c.loop-word.numbers.items in
    sym c.loop-word.invariant ∙ ap (λ l. with_front front (references names l)) c.in_default.ensures.0 ∙ no_more names front

pub loop-word-smaller : goal.loop-word-smaller
loop-word-smaller c = omega (arith, ap (λ (l : List (List ℕ)). length l) c.in-Some.ensures)
