-- From the tests of a simple command to what a parse of it asks.
use Rattle.std.proofs.Common.{◌≡◌, ◌⊎◌, ◌∙◌, ◌<◌, ◌≤◌, ap, ℕ, true, false, List, [], ◌∷◌, length, map, Some, None, refl, sym, inl, inr, arith, zero, suc}
use Rattle.std.proofs.lemmas.List.{length-map}
use Rattle.std.specs.Prelude.{codes, is_some, not, Option}
use Rattle.std.specs.List.{list_all, slice_index_or}
use Rattle.clap.specs.Texts.{items_of}
use Rattle.std.specs.Borrow.{Bor}
use Rattle.clap.specs.Facts.{args_of, WantsDefault, least_values, unwrap_or_range}
use Rattle.clap.specs.Built.{IsPlain}
use Rattle.clap.specs.Walk.{Rule, is_simple_arg, rule_of, texts}
use Rattle.clap.specs.Simple.{IsSimpleArg, app_of, has_simple_rules}
use Rattle.clap.proofs.WalkLemmas.{both}
use Rattle.clap.proofs.SimpleLemmas.{is_false, is_nil}
use Rattle.clap.proofs.TakesLemmas.{each_rule}
use Rattle.clap.specs.declared.builder.action.ArgAction.TheVariants.{Set}
use Rattle.clap.specs.declared.builder.arg.Arg.{Arg}
use Rattle.clap.specs.declared.builder.command.Command.{Command}
use Rattle.clap.specs.declared.builder.command.Command.TheViews.{out-Command}
use Rattle.clap.specs.declared.builder.value_parser.ValueParser.{ValueParser}
use Rattle.command_line.proofs.FoundLemmas.{IsAlone, IsSetOption}

pub plain_command : (c : Command) → has_simple_rules (app_of c).top ≡ true → list_all (λ r. r.is_free) (app_of c).top.rules ≡ true → IsPlain c
plain_command c simple free = (
  λ k d lt.
      let s = each_rule (λ r. r.is_simple) (args_of c) (both _ _ simple).1 k d lt in
      let f = each_rule (λ r. r.is_free) (args_of c) free k d lt in (
        is_false _ (both _ _ f).0,
        is_nil _ (both _ _ (both _ _ f).1).0,
        is_nil _ (both _ _ s).0,
        is_nil _ (both _ _ (both _ _ (both _ _ s).1).1).0,
      ),
  is_nil _ (both _ _ (both _ _ simple).0).0,
)

pub no_globals : (c : Command) → has_simple_rules (app_of c).top ≡ true → (out-Command c).has_globals ≡ false
no_globals c simple = is_false _ (both _ _ (both _ _ (both _ _ (both _ _ simple).0).1).1).0

pub rule_at : (xs : List Arg) (k : ℕ) (d : Arg) → rule_of (slice_index_or xs k d) ≡ slice_index_or (map rule_of xs) k (rule_of d)
rule_at [] k d = refl
rule_at (x ∷ xs) zero d = refl
rule_at (x ∷ xs) (suc k) d = rule_at xs k d

is_none : {X : Type 0} (o : Option X) → not (is_some o) ≡ true → o ≡ None
is_none None e = refl
is_none (Some x) e = cc

-- what an argument with none of the rarer settings has
simple_arg_facts : (a : Arg) → is_simple_arg a ≡ true → IsSimpleArg a × (a.groups.items ≡ []) × (a.global ≡ false)
simple_arg_facts a e =
    let p = both _ _ e in
    let q = both _ _ p.1 in
    let r = both _ _ q.1 in
    let s = both _ _ r.1 in
    let t = both _ _ s.1 in
    let u = both _ _ t.1 in
    let v = both _ _ u.1 in
    let w = both _ _ v.1 in
    let x = both _ _ w.1 in (
      record {
        overrides = is_nil _ p.0;
        default_ifs = is_nil _ q.0;
        delimiter = is_none _ s.0;
        terminator = is_none _ t.0;
        hyphen_values = is_false _ u.0;
        negative_numbers = is_false _ v.0;
        require_equals = is_false _ w.0;
        last = is_false _ x.0;
      },
      is_nil _ r.0,
      is_false _ x.1,
    )

one_is_some : (n : ℕ) → n ≡ 1 → 1 ≤ n
one_is_some n is = omega arith

some_along : (a b n : ℕ) → a ≡ n → a ≡ b → 0 < n → 0 < b
some_along a b n is same some = omega arith

pub set_option : (c : Command) (k : ℕ) (d : Arg) (r : Rule) (q : ValueParser) → k < length (args_of c)
    → has_simple_rules (app_of c).top ≡ true → rule_of (slice_index_or (args_of c) k d) ≡ r
    → r.action ≡ Some Set → r.range ≡ None → r.parser ≡ Some q → (r.id ≡ [] → ⊥)
    → ((r.id ≡ codes "help") ⊎ (r.id ≡ codes "version") → ⊥) → IsAlone c k d → IsSetOption c k d q
set_option c k d r q lt simple is set range parser named own alone =
    let s = each_rule (λ r. r.is_simple) (args_of c) (both _ _ simple).1 k d lt in
    let id = ap (λ (x : Rule). x.id) is in
    let one : least_values (slice_index_or (args_of c) k d) ≡ 1 = ap (λ (x : Rule). (unwrap_or_range x.range).start_inclusive) is ∙ ap (λ o. (unwrap_or_range o).start_inclusive) range in
    record {
      below = lt;
      set = ap (λ (x : Rule). x.action) is ∙ set;
      delim = (simple_arg_facts (slice_index_or (args_of c) k d) s).0.delimiter;
      least = one_is_some _ one;
      alone = alone;
      named = λ empty. named (sym id ∙ empty);
      own = λ auto. own (elim auto [ inl h ↦ inl (sym id ∙ h) | inr h ↦ inr (sym id ∙ h) ]);
      parser = ap (λ (x : Rule). x.parser) is ∙ parser;
    }

pub wants_default : (c : Command) (k : ℕ) (d : Arg) (r : Rule) → k < length (args_of c)
    → has_simple_rules (app_of c).top ≡ true → rule_of (slice_index_or (args_of c) k d) ≡ r
    → 0 < length r.defaults → WantsDefault (slice_index_or (args_of c) k d)
wants_default c k d r lt simple is some =
    let s = each_rule (λ r. r.is_simple) (args_of c) (both _ _ simple).1 k d lt in
    let many : length (texts (items_of (slice_index_or (args_of c) k d).default_vals)) ≡ length r.defaults = ap (λ (x : Rule). length x.defaults) is in
    let same = length-map (items_of (slice_index_or (args_of c) k d).default_vals) (λ (s : Bor (List ℕ)). s.now) in
    ((simple_arg_facts (slice_index_or (args_of c) k d) s).0.default_ifs, some_along _ _ _ many same some)
