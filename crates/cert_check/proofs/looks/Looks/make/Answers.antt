use Rattle.std.proofs.Common.{◌≡◌, ℕ, All, Option, Some, None, length, refl, ap, subst, sym, ◌∙◌}
use Rattle.std.proofs.lemmas.List.{length-replicate}
use Rattle.std.proofs.lemmas.List.Elements.{All-replicate}
use Rattle.std.proofs.lemmas.Option.{none-some}
use Rattle.std.proofs.Math.ListN.{replicate}
use Rattle.std.specs.Prelude.{List, slice_get}
use Rattle.atam.proofs.Lists.{All-slice_get}
use Rattle.cert_check.specs.declared.looks.Look.{Look}
use Rattle.cert_check.proofs.looks.Looks.make.Goals as goal

-- what is as none is none
as_none : (Alike : Option Look → Type 0) → ((look : Look) → Alike (Some look) → ⊥) → (other : Option Look) → Alike other → other ≡ None
as_none Alike never None alike = refl
as_none Alike never (Some look) alike = absurd (never look alike)

-- no entry passed where all are none
none_passed : (last : List (Option Look)) (n i : ℕ) (look : Look) → last ≡ replicate n None → slice_get last i ≡ Some (Some look) → ⊥
none_passed last n i look are at =
    let IsNone : Option Look → Type 0 = λ o. o ≡ None in
    let all = All-replicate IsNone n None refl in
    none-some look (sym (All-slice_get IsNone last i (Some look) (subst (λ l. All IsNone l) (sym are) all) at))

pub returns : goal.returns
returns c =
    let are = c.in_ok-from_elem.ensures.items_if_clones_equal (as_none _ (λ look never. never)) in
    record {
      count = ap length are ∙ length-replicate _ _ ∙ c.type_count.ensures.count;
      each = λ t look at. absurd (none_passed c.in_ok-from_elem.field-0.items _ t.0 look are at);
      cache = c.in_ok-make.ensures;
    }
