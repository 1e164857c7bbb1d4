-- The spellings of a valid system read back as it.
use Rattle.std.proofs.Common.{◌≡◌, ◌++◌, ℕ, List, [], length, drop, refl, sym, ap, subst, ◌∙◌, append-nil, inr}
use Rattle.tile_io.specs.declared.mark.Mark.{Mark}
use Rattle.tile_io.specs.Checks.{nothing_more}
use Rattle.tile_io.specs.Formats.{Passes}
use Rattle.tile_io.specs.Lines.{TextLine, lines_from, lines_of, mark_after, first_mark}
use Rattle.tile_io.specs.Rest.{HasNoMore}
use Rattle.tile_io.proofs.Progress.{passes_nothing}
use Rattle.atam.specs.TileSystem.{TileSystem, IsValid}
use Rattle.tile_text.specs.declared.version.Version.{Version}
use Rattle.tile_text.specs.declared.version.Version.TheVariants.{Two}
use Rattle.tile_text.specs.SystemText.{IsSystemOf, ReadsAny}
use Rattle.tile_text.specs.Spelling.{end_of_print, newest_spelling, spelling, spelling_by, version_of}
use Rattle.tile_text.proofs.PrintLemmas.{has_version}
use Rattle.tile_text.proofs.SystemSpelled.{printed_any}
use Rattle.seq_text.proofs.Printed.{behind_text}
use Rattle.tilebench.specs.Inputs.{IsAlone}
use Rattle.tilebench.specs.Spelled.{SpellsSystem}

no_lines : lines_of [] ≡ []
unfolding lines_of
no_lines = refl

-- where a text has ended, nothing follows
nothing_left : (text : List ℕ) (from : Mark) → drop from.at text ≡ [] → HasNoMore text from
nothing_left text from ended =
    let lines = lines_from text from in
    let none : lines ≡ [] = ap lines_of ended ∙ no_lines in
    let Passed : List TextLine → Type 0 = λ l. Passes nothing_more l [] in
    (mark_after lines from (length lines), inr (record { passed = subst Passed (sym none) (passes_nothing nothing_more); complete = refl; place = refl }))

-- the text of a version that has a system, and nothing behind it
alone_back : (version : Version) (sys : TileSystem) → IsValid sys → IsSystemOf version sys → IsAlone ReadsAny (spelling_by version sys) sys
alone_back version sys valid has =
    let Alone : List ℕ → Type 0 = λ text. IsAlone ReadsAny text sys in
    let text = spelling_by version sys in
    let end = end_of_print version sys first_mark in
    subst Alone (append-nil text) (record {
      end = end;
      reads = printed_any version sys (text ++ []) [] first_mark valid has refl;
      rest = nothing_left (text ++ []) end (behind_text version sys []);
    })

pub spelled : (sys : TileSystem) → IsValid sys → SpellsSystem spelling sys (spelling sys)
spelled sys valid = record { printed = refl; valid = valid; reads_back = alone_back (version_of sys) sys valid (has_version sys) }

pub spelled_newest : (sys : TileSystem) → IsValid sys → SpellsSystem newest_spelling sys (newest_spelling sys)
spelled_newest sys valid = record { printed = refl; valid = valid; reads_back = alone_back Two sys valid tt }
