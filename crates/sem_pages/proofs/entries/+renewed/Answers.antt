use Rattle.std.proofs.Common.{rules, true, ◌∙◌, refl, sym, ap}
use Rattle.std.specs.Prelude.{IsTrue, slice_get}
use Rattle.std.proofs.lemmas.Option.{slice_get_read}
use Rattle.sem_filling.specs.declared.filling.Filling.{Filling}
use Rattle.sem_filling.specs.declared.filling.FilledField.{FilledField}
use Rattle.sem_filling.specs.Fillings.{fields_of}
use Rattle.sem_filling.specs.Entries.{Path, below, entries_below}
use Rattle.sem_pages.specs.Progress.{GoesOn}
use Rattle.sem_filling.specs.FillingLaws.{entries_at}
use Rattle.sem_filling.proofs.EntriesLevels.{entries_are}
use Rattle.sem_pages.proofs.InOrder.{begins, turn}
use Rattle.sem_filling.proofs.Coded.{ok_weaker}
use Rattle.sem_pages.specs.Pages.{StandsFor, Shows}
use Rattle.sem_pages.proofs.Leaving.{field_shown, called_goes, plain_goes, all_gone}
use Rattle.sem_pages.proofs.entries.+renewed.Goals as goal

pub renew_field-returns : goal.renew_field-returns
renew_field-returns t c =
    ok_weaker (λ b. IsTrue b → (f : Filling) (path : Path) → Shows c.args.methods.now c.in-Call.method c.in-Some.inner f → GoesOn true c.args.context.now c.renew_own.new.progress c.renew_page.new.progress (entries_below f path)) (λ b. IsTrue b → (g : FilledField) (path : Path) → StandsFor c.args.methods.now c.args.field.now c.args.shown.now g
    → GoesOn true c.args.context.now c.args.progress.now c.renew_page.new.progress (entries_at path g)) c.renew_page.result
    (λ b goes is g path. called_goes true c.args.methods.now c.args.context.now c.args.progress.now c.renew_own.new.progress c.renew_page.new.progress path (below path c.args.field.now.declared.name) c.args.field.now c.args.shown.now c.in-Call.method _ c.in-Some.inner
    (search rules) (sym c.get.ensures ∙ c.in-Call.is) refl (c.in_ok-renew_own.ensures c.if-not-branch.false (below path c.args.field.now.declared.name)) (λ f. goes is f (below path c.args.field.now.declared.name)) g)
    c.renew_page.ensures

pub renew_page-loop-i-init : goal.renew_page-loop-i-init
renew_page-loop-i-init t c = λ f path shown. begins true c.args.context.now c.args.progress.now _ (entries_below f path) (sym (entries_are f path))

pub renew_page-loop-i-preserved : goal.renew_page-loop-i-preserved
renew_page-loop-i-preserved t c = λ f path shown.
    let d_at = ap (λ xs. slice_get xs c.loop-i.i) (sym c.as_slice-fields.ensures) ∙ slice_get_read c.as_slice-fields.result.now _ c.loop-i.i c.index-fields-i.result refl (search rules) c.index-fields-i.is in
    let s_at = ap (λ xs. slice_get xs c.loop-i.i) (sym c.as_slice-shown.ensures) ∙ slice_get_read c.as_slice-shown.result.now _ c.loop-i.i c.index-shown-i.result refl (search rules) c.index-shown-i.is in
    let g = field_shown c.args.methods.now c.in-Some.format.now c.loop-i.i _ _ (search rules) (search rules) d_at s_at shown in
    turn true c.args.context.now c.args.progress.now c.loop-i.progress c.renew_field.new.progress path (fields_of f) c.loop-i.i g.0 (entries_below f path) g.1
    (c.in_ok-renew_field.ensures c.if-not-branch.false g.0 path g.2) (c.loop-i.invariant f path shown)

pub renew_page-returns : goal.renew_page-returns
renew_page-returns t c = λ is f path shown.
    all_gone true c.args.methods.now c.in-Some.format.now c.args.context.now c.args.progress.now c.loop-i.progress path c.loop-i.i (search rules) (search rules) (search rules) shown (c.loop-i.invariant f path shown)
