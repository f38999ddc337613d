use Rattle.text_resolve.proofs.PartsForms.{with_method}
use Rattle.text_resolve.proofs.methods.add_method.Goals as goal

pub returns-clause-leads : goal.returns-clause-leads
returns-clause-leads c = λ parts top k table is rest so.
    with_method c.args.file.now parts top k c.args.method.now rest _ _ c.args.is_top c.in_ok-draft.draft.method c.in_ok-draft.draft.fault is (c.in_ok-draft.ensures _ table) c.in_ok-push.ensures.ok c.earlier-drafts.ensures so
