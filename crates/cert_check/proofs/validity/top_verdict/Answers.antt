use Rattle.cert_check.proofs.JudgedTopping.{top_faulty, top_right_as}
use Rattle.cert_check.proofs.validity.top_verdict.Goals as goal

pub returns-in-Some : goal.returns-in-Some
returns-in-Some c = λ version. top_faulty version c.args.methods.now c.args.sizes.now c.args.top c.args.entries.now c.in_ok-counts.counts _ c.top_fault.result c.in-Some.fault c.in_ok-counts.ensures c.as_slice-2.ensures c.top_fault.ensures c.in-Some.is

pub returns : goal.returns
returns c = λ version. top_right_as c.args.methods.now c.args.sizes.now c.args.top c.args.entries.now c.in_ok-counts.counts _ c.top_fault.result c.in_ok-counts.ensures c.as_slice-2.ensures c.top_fault.ensures c.in-None.is
