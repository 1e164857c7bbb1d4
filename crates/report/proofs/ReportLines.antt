-- The text of a report's value is its line.
use Rattle.std.proofs.Common.{◌≡◌, ◌++◌, ◌∷◌, [], ℕ, List, Bool, true, false, refl, append_assoc, rules, codes, decimal, drop, flat_map}
use Rattle.serde_json.specs.Written.{compact_text, has_float, items_have_float, items_text}
use Rattle.serde_json.specs.View.{items_of}
use Rattle.serde_json.proofs.OnLiterals.{serde_json_on_literals}
use Rattle.atam.specs.TileSystem.{TileSystem}
use Rattle.report.specs.Reports.{report_line}
use Rattle.report.specs.Inner.Values.{number_data, report_data}

numbers_have_none : (ns : List ℕ) → items_have_float (items_of (number_data ns)) ≡ false
numbers_have_none [] = refl
numbers_have_none (n ∷ ns) = numbers_have_none ns

pub no_float : (sys : TileSystem) (tiles : ℕ) (won : List ℕ) (clipped unique : Bool) → has_float (report_data sys tiles won clipped unique) ≡ false
no_float sys tiles won clipped unique = rw numbers_have_none refl

more_text : (ns : List ℕ) → items_text true (items_of (number_data ns)) ≡ flat_map (λ n. codes "," ++ decimal n) ns ++ 93 ∷ []
more_text [] = refl
more_text (n ∷ ns) = rw (more_text ns) (search (rules, append_assoc))

number_text : (ns : List ℕ) → items_text false (items_of (number_data ns)) ≡ drop 1 (flat_map (λ n. codes "," ++ decimal n) ns) ++ 93 ∷ []
number_text [] = refl
number_text (n ∷ ns) = rw (more_text ns) (search (rules, append_assoc))

pub line_text : (sys : TileSystem) (tiles : ℕ) (won : List ℕ) (clipped unique : Bool) → compact_text (report_data sys tiles won clipped unique) ≡ report_line sys tiles won clipped unique
unfolding serde_json_on_literals
line_text sys tiles won true true = rw (number_text won) (search (rules, append_assoc))
line_text sys tiles won true false = rw (number_text won) (search (rules, append_assoc))
line_text sys tiles won false true = rw (number_text won) (search (rules, append_assoc))
line_text sys tiles won false false = rw (number_text won) (search (rules, append_assoc))
