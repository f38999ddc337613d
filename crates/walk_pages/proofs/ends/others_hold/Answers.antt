use Rattle.std.proofs.Common.{get_or}
use Rattle.std.proofs.lemmas.Option.{slice_get-get_or}
use Rattle.sem_filling.proofs.Each.{before_end, before_next}
use Rattle.walk_pages.specs.Drafts.{IsSettled}
use Rattle.walk_pages.proofs.ends.others_hold.Goals as goal

pub loop-index-preserved : goal.loop-index-preserved
loop-index-preserved c =
    let here = slice_get-get_or c.args.others.now c.loop-index.index-index 0 c.loop-index-test.true in
    before_next (λ m. IsSettled c.args.view.now c.args.constraints.now c.args.solved.now) c.args.others.now c.loop-index.index-index (get_or c.args.others.now c.loop-index.index-index 0) here
    (c.is_settled.ensures c.if-not-is_settled.false) c.loop-index.invariant

pub returns : goal.returns
returns c = λ _. before_end (λ m. IsSettled c.args.view.now c.args.constraints.now c.args.solved.now) c.args.others.now c.loop-index.index-index c.loop-index-test.false c.loop-index.invariant
