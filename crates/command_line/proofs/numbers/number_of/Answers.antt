use Rattle.std.proofs.Common.{◌≡◌, ◌∙◌, ap, sym, subst, refl, ℕ, Option}
use Rattle.std.specs.Prelude.{IsSome, unwrap_or}
use Rattle.std.specs.Str.Parse.{ParsesUnsigned, ExplainsUnsignedError, HasUnsignedDigitsIfOk}
use Rattle.command_line.proofs.NumberLemmas.{number_read, found_in_range}
use Rattle.command_line.proofs.numbers.number_of.Goals as goal

pub unwrap-requires : goal.unwrap-requires
unwrap-requires c =
    let (least, most, fits, finds) = c.requires in
    let got = number_read _ (λ bs r. ParsesUnsigned 64 10 bs r × ExplainsUnsignedError 10 bs r × HasUnsignedDigitsIfOk bs r)
    least most c.args.id.now c.args.found.now c.get_one.result finds c.get_one.ensures.value (λ u x g. g.0) fits in
    subst (λ (o : Option ℕ). IsSome o) (sym got.1) refl

number_found : goal.returns-clause-number
number_found c =
    let (least, most, fits, finds) = c.requires in
    let got = number_read _ (λ bs r. ParsesUnsigned 64 10 bs r × ExplainsUnsignedError 10 bs r × HasUnsignedDigitsIfOk bs r)
    least most c.args.id.now c.args.found.now c.get_one.result finds c.get_one.ensures.value (λ u x g. g.0) fits in
    let is : got.0 ≡ c.unwrap.result = ap (λ (o : Option ℕ). unwrap_or o 0) (sym got.1 ∙ c.unwrap.ensures) in
    rw (← is) got.2

pub returns-clause-number : goal.returns-clause-number
returns-clause-number c = number_found c

pub returns-clause-range : goal.returns-clause-range
returns-clause-range c = λ least most finds. found_in_range c.args.id.now c.args.found.now least most c.unwrap.result finds (number_found c)
