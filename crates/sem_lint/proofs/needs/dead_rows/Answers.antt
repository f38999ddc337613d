use Rattle.std.proofs.Common.{refl, sym, ◌∙◌, ap, length, subst, ◌≤◌, List}
use Rattle.std.specs.Prelude.{slice_get}
use Rattle.std.proofs.lemmas.Option.{slice_get_read}
use Rattle.sem_profile.specs.declared.profile.Method.{Method}
use Rattle.sem_lint.proofs.NeedsTelling.{rows_next, rows_tell}
use Rattle.sem_lint.proofs.needs.dead_rows.Goals as goal

pub loop-index-preserved : goal.loop-index-preserved
loop-index-preserved c =
    rows_next c.args.judged.now c.loop-index.index c.loop-index.all c.push.new.self c.in_ok-dead_row.field-0 c.index-methods-index.result c.loop-index.invariant
    (ap (λ (ms : List Method). slice_get ms c.loop-index.index) (sym c.requires) ∙ slice_get_read c.args.methods.now _ c.loop-index.index c.index-methods-index.result refl c.loop-index-test.true c.index-methods-index.is)
    c.in_ok-dead_row.ensures c.in_ok-push.ensures.ok

pub returns : goal.returns
returns c = rows_tell c.args.judged.now c.loop-index.all c.loop-index.index (subst (λ (ms : List Method). length ms ≤ c.loop-index.index) c.requires c.loop-index-test.false) c.loop-index.invariant
