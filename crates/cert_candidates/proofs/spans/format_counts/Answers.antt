use Rattle.cert_candidates.proofs.SpansListing.{method_more}
use Rattle.cert_candidates.proofs.spans.format_counts.Goals as goal

pub loop-method-preserved : goal.loop-method-preserved
loop-method-preserved c = λ exact is.
    method_more exact c.args.methods.now c.args.entries.now c.loop-method.method-index c.len.result c.method-item.result c.as_slice-formats.result.now c.loop-method.table c.push.new.self c.in_ok-entry_counts.field-0
    c.loop-method-test.true c.method-item.is c.as_slice-formats.ensures c.len.ensures (c.in_ok-entry_counts.ensures exact is) c.in_ok-push.ensures.ok (c.loop-method.invariant exact is)
