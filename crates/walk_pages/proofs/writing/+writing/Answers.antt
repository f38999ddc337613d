use Rattle.std.proofs.Common.{ap, refl, rules, sym, ◌∙◌, ◌≡◌}
use Rattle.sem_filling.specs.Fits.{format_at}
use Rattle.walk_pages.proofs.Drafting.{goes_trans}
use Rattle.walk_pages.proofs.writing.+writing.Goals as goal

pub write_method-loop-operation-preserved : goal.write_method-loop-operation-preserved
write_method-loop-operation-preserved t c =
    let goes = c.in_ok-step.ensures c.if-not-branch.false in
    let was = c.loop-operation.invariant in
    ((search rules), goes.right was.1, goes.same.format_is ∙ was.2, goes.same.arguments_are ∙ was.3, goes.same.prepared_is ∙ was.4)

pub call-returns : goal.call-returns
call-returns t c = λ is.
    let found = rw c.in-Some-2.is at c.in_ok-found.ensures in
    goes_trans c.args.frame.now c.args.draft.now c.target_inside.new.draft c.put_written.new.draft (c.target_inside.ensures c.args.frame.now) (c.put_written.ensures c.args.frame.now is found)

pub step-returns-in-Pass : goal.step-returns-in-Pass
step-returns-in-Pass t c = λ _. c.pass.ensures c.args.frame.now

pub step-returns-in-Skip : goal.step-returns-in-Skip
step-returns-in-Skip t c = λ is. c.skip_up.ensures c.args.frame.now is

pub write_method-loop-operation-init : goal.write_method-loop-operation-init
write_method-loop-operation-init t c =
    let goes = c.begin.ensures c.args.frame.now in
    let new = c.in_ok-draft.ensures in
    (refl, goes.right new.0, goes.same.format_is ∙ new.1, goes.same.arguments_are ∙ new.2, goes.same.prepared_is ∙ new.3)

pub write_method-new-requires : goal.write_method-new-requires
write_method-new-requires t c =
    let found = c.in-Some.ensures in
    let same : c.args.frame.now.methods.now ≡ c.args.accepted.now.profile.methods = (search rules) in
    record { prepared = found.told c.in-Some.start.format.now (ap (λ z. format_at z c.args.frame.now.method c.in-Some.start.index) (sym same) ∙ found.format_is) }

pub step-returns-else-not-branch : goal.step-returns-else-not-branch
step-returns-else-not-branch t c = λ _. goes_trans c.args.frame.now c.args.draft.now c.pass_up.new.self c.call.new.draft (c.pass_up.ensures c.args.frame.now) (c.in_ok-call-in-Call.ensures c.if-not-branch.false)

pub step-returns-else-not-branch-2 : goal.step-returns-else-not-branch-2
step-returns-else-not-branch-2 t c = λ _. goes_trans c.args.frame.now c.args.draft.now c.pass_up-in-Field.new.self c.write_field.new.draft (c.pass_up-in-Field.ensures c.args.frame.now) (c.in_ok-write_field-in-Field.ensures c.if-not-branch-2.false)
