use Rattle.std.proofs.Common.{List, ℕ, codes, sym, ap, arith, find, bytes_eq, Option}
use Rattle.std.proofs.lemmas.Slice.Eq.{text_from_reads}
use Rattle.tile_io.specs.Checks.{Keyword, Table}
use Rattle.machine_text.specs.MachineText.{MachineItem, machine_table}
use Rattle.machine_text.proofs.kind.LineKind.of.Goals as goal

abbrev found : Table MachineItem → List ℕ → Option (Keyword (List MachineItem) MachineItem)
found table word = find (λ row. bytes_eq word row.word) table.keywords

pub returns-in-symbol : goal.returns-in-symbol
unfolding machine_table
returns-in-symbol c =
    let is = text_from_reads c.args.word.now (codes "symbol") (omega arith) (omega arith, (omega arith, (omega arith, (omega arith, (omega arith, (omega arith, tt)))))) in
    sym (ap (found machine_table) is)

pub returns-in-machine : goal.returns-in-machine
unfolding machine_table
returns-in-machine c =
    let is = text_from_reads c.args.word.now (codes "machine") (omega arith) (omega arith, (omega arith, (omega arith, (omega arith, (omega arith, (omega arith, (omega arith, tt))))))) in
    sym (ap (found machine_table) is)
