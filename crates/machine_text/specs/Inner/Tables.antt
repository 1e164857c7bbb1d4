-- A table of rules, by state and then by symbol.
use Rattle.std.specs.Prelude.{◌≡◌, ℕ, ◌+◌, ◌*◌, ◌<◌, List, length, slice_get, Option, Some}
use Rattle.machine_text.specs.declared.limits.TheConstants.{MOST_STATES, MOST_SYMBOLS}
use Rattle.machine_text.specs.declared.rule.Rule.{Rule}
use Rattle.machine_text.specs.declared.rule.Transition.{Transition}
use Rattle.machine_text.specs.Machines.{rule_among}

-- the place of a state and a symbol in the table
abbrev pub entry : ℕ → ℕ → ℕ
entry state symbol = state * MOST_SYMBOLS + symbol

-- the table has the rule of each state and symbol, if there is one among the transitions
pub record IsTableOf (transitions : List Transition) (table : List (Option Rule)) : Type 0 where
  pub size : length table ≡ MOST_STATES * MOST_SYMBOLS
  pub entries : (state symbol : ℕ) → state < MOST_STATES → symbol < MOST_SYMBOLS → slice_get table (entry state symbol) ≡ Some (rule_among transitions state symbol)
