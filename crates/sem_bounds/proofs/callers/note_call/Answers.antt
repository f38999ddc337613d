use Rattle.std.proofs.Common.{◌≡◌, ◌∙◌, sym, subst, IfOk, nat_eq}
use Rattle.std.specs.Prelude.{slice_get}
use Rattle.std.proofs.lemmas.Result.{IfOk-weaker}
use Rattle.sem_profile.specs.declared.profile.Encoding.{Encoding}
use Rattle.sem_profile.specs.Passes.{changed}
use Rattle.sem_profile.specs.Parameters.{is_call}
use Rattle.sem_bounds.specs.Callers.{ending, noted}
use Rattle.sem_bounds.proofs.CallersRows.{noted-none, noted-one}
use Rattle.sem_bounds.proofs.callers.note_call.Goals as goal

pub returns-in-Bare : goal.returns-in-Bare
returns-in-Bare c = rw c.in-Bare.is (noted-none c.args.place c.args.rows.now.items)

pub returns-in-Library : goal.returns-in-Library
returns-in-Library c = rw c.in-Library.is (noted-none c.args.place c.args.rows.now.items)

pub returns-in-Call : goal.returns-in-Call
returns-in-Call c =
    let place = c.args.place in
    let rows = c.args.rows.now.items in
    let j = c.in-Call.method in
    subst (λ (e : Encoding). IfOk c.note_at.result (λ u. c.note_at.new.rows.items ≡ noted place (λ k. is_call k e) rows)) (sym c.in-Call.is)
    (IfOk-weaker c.note_at.result (λ u. c.note_at.new.rows.items ≡ changed (ending place) rows j (slice_get rows j))
    (λ u. c.note_at.new.rows.items ≡ noted place (λ k. nat_eq j k) rows) (λ u e. e ∙ noted-one place j rows) c.note_at.ensures)
