use Rattle.std.proofs.Common.{◌≡◌, ◌++◌, drop}
use Rattle.text_sections.specs.Tables.{find_in}
use Rattle.text_sections.specs.Fields.{encodings_by}
use Rattle.text_sections.proofs.fields.find_all.Given as goal

abbrev pub invariant-loop-place : goal.invariant-loop-place
invariant-loop-place l =
    l.all ++ encodings_by l.text (find_in l.base) (find_in l.default) (drop l.place l.fields) (drop l.place l.own) ≡ encodings_by l.text (find_in l.base) (find_in l.default) l.fields l.own
