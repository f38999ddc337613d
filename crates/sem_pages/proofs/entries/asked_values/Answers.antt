use Rattle.std.proofs.Common.{rules}
use Rattle.sem_pages.proofs.Leaving.{asked_by, asked_end}
use Rattle.sem_pages.proofs.entries.asked_values.Goals as goal

pub returns : goal.returns
returns c = λ f shown. asked_by c.args.methods.now c.in-Some.format.now c.as_slice-fields.result.now c.as_slice-shown.result.now _ (search rules) c.as_slice-fields.ensures c.as_slice-shown.ensures (asked_end c.as_slice-fields.result.now c.as_slice-shown.result.now c.loop-i.i _ _ (search rules) c.loop-i.invariant) shown
