use Rattle.std.proofs.Common.{sym, subst}
use Rattle.std.specs.Prelude.{IfErr}
use Rattle.std.proofs.lemmas.Result.{err_from_is_err_and}
use Rattle.sem_expr.specs.declared.expr.Side.TheVariants.{Uncompressed}
use Rattle.walk_steps.specs.Calls.{BlamesFilling}
use Rattle.walk_steps.proofs.CallsFilled.{blamed_on, fills}
use Rattle.walk_steps.proofs.calls.fill.Goals as goal

pub returns-in_err-fill_side-2-clause-fault : goal.returns-in_err-fill_side-2-clause-fault
returns-in_err-fill_side-2-clause-fault c =
    let g = c.args.inner in
    let old = c.args.level.now in
    let blamed = blamed_on c.args.level_frame.now old c.fill_side.new.level c.args.field Uncompressed g c.in_ok-fill_side.ensures.learns c.in_err-fill_side-2.field-0.0 c.in_err-fill_side-2.ensures.fault in
    let p = err_from_is_err_and c.from_residual-in_err-fill_side-2.result c.from_residual-in_err-fill_side-2.ensures.1 in
    subst (λ r. IfErr r (λ e. BlamesFilling e c.args.level_frame.now old c.args.field g)) (sym p.1) (subst (λ e. BlamesFilling e c.args.level_frame.now old c.args.field g) (sym p.2) blamed)

pub returns-clause-fills : goal.returns-clause-fills
returns-clause-fills c =
    fills c.args.level.now c.fill_side.new.level c.fill_side-2.new.level c.hold.new.self c.args.field c.args.inner c.in_ok-fill_side.ensures.learns c.in_ok-fill_side-2.ensures.learns c.hold.ensures c.requires.empty
