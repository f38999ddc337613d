use Rattle.std.proofs.Common.{rules, [], false, ◌∙◌, refl, sym, ap}
use Rattle.std.specs.Prelude.{IsTrue, slice_get, unwrap_or}
use Rattle.std.proofs.lemmas.Option.{slice_get_read}
use Rattle.sem_filling.specs.declared.filling.Filling.{Filling}
use Rattle.sem_filling.specs.declared.filling.FilledField.{FilledField}
use Rattle.sem_filling.specs.Fillings.{fields_of}
use Rattle.sem_filling.specs.Entries.{below, entries_below, own_entry}
use Rattle.sem_pages.specs.Progress.{GoesOn}
use Rattle.sem_filling.specs.FillingLaws.{entries_at}
use Rattle.sem_filling.proofs.EntriesLevels.{entries_are}
use Rattle.sem_pages.proofs.InOrder.{begins, turn}
use Rattle.sem_filling.proofs.Coded.{ok_weaker}
use Rattle.sem_pages.specs.declared.page.Shown.{out-Shown}
use Rattle.sem_pages.specs.Pages.{StandsFor, Shows}
use Rattle.sem_pages.proofs.Leaving.{field_shown, called_goes, plain_goes, all_gone}
use Rattle.sem_pages.proofs.entries.+entries.Goals as goal

pub add_field-returns : goal.add_field-returns
add_field-returns t c =
    let next = rw c.in-Some-2.is at c.in_ok-here.ensures in
    ok_weaker (λ b. IsTrue b → (f : Filling) → Shows c.args.methods.now c.in-Call.method c.in-Some.inner f → GoesOn false c.args.context.now c.add_next.new.progress c.add_page.new.progress (entries_below f c.in-Some-2.here.now)) (λ b. IsTrue b → (g : FilledField) → StandsFor c.args.methods.now c.args.field.now c.args.shown.now g
    → GoesOn false c.args.context.now c.args.progress.now c.add_page.new.progress (entries_at c.args.path.now g)) c.add_page.result
    (λ b goes is. called_goes false c.args.methods.now c.args.context.now c.args.progress.now c.add_next.new.progress c.add_page.new.progress c.args.path.now c.in-Some-2.here.now c.args.field.now c.args.shown.now c.in-Call.method _ c.in-Some.inner
    (search rules) (sym c.get.ensures ∙ c.in-Call.is) (next.0 ∙ ap (below c.args.path.now) c.as_str-name.ensures) next.1 (goes is))
    c.add_page.ensures

pub add_field-returns-in_default : goal.add_field-returns-in_default
add_field-returns-in_default t c =
    ok_weaker (λ b. IsTrue b → GoesOn false c.args.context.now c.args.progress.now c.add_plain.new.progress (own_entry c.args.field.now.declared.part (below c.args.path.now c.args.field.now.declared.name) (unwrap_or (out-Shown c.args.shown.now).uncompressed [])))
    (λ b. IsTrue b → (g : FilledField) → StandsFor c.args.methods.now c.args.field.now c.args.shown.now g → GoesOn false c.args.context.now c.args.progress.now c.add_plain.new.progress (entries_at c.args.path.now g)) c.add_plain.result
    (λ b goes is g. plain_goes false c.args.methods.now c.args.context.now c.args.progress.now c.add_plain.new.progress c.args.path.now c.args.field.now c.args.shown.now (search rules) (goes is) g)
    (rw c.as_str-name.ensures at c.add_plain.ensures)

pub add_page-loop-i-init : goal.add_page-loop-i-init
add_page-loop-i-init t c = λ f shown. begins false c.args.context.now c.args.progress.now _ (entries_below f c.args.path.now) (sym (entries_are f c.args.path.now))

pub add_page-loop-i-preserved : goal.add_page-loop-i-preserved
add_page-loop-i-preserved t c = λ f shown.
    let d_at = ap (λ xs. slice_get xs c.loop-i.i) (sym c.as_slice-fields.ensures) ∙ slice_get_read c.as_slice-fields.result.now _ c.loop-i.i c.index-fields-i.result refl (search rules) c.index-fields-i.is in
    let s_at = ap (λ xs. slice_get xs c.loop-i.i) (sym c.as_slice-shown.ensures) ∙ slice_get_read c.as_slice-shown.result.now _ c.loop-i.i c.index-shown-i.result refl (search rules) c.index-shown-i.is in
    let g = field_shown c.args.methods.now c.in-Some.format.now c.loop-i.i _ _ (search rules) (search rules) d_at s_at shown in
    turn false c.args.context.now c.args.progress.now c.loop-i.progress c.add_field.new.progress c.args.path.now (fields_of f) c.loop-i.i g.0 (entries_below f c.args.path.now) g.1
    (c.in_ok-add_field.ensures c.if-not-branch.false g.0 g.2) (c.loop-i.invariant f shown)

pub add_page-returns : goal.add_page-returns
add_page-returns t c = λ is f shown.
    all_gone false c.args.methods.now c.in-Some.format.now c.args.context.now c.args.progress.now c.loop-i.progress c.args.path.now c.loop-i.i (search rules) (search rules) (search rules) shown (c.loop-i.invariant f shown)
