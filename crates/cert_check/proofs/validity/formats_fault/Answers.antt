use Rattle.std.proofs.Common.{◌≡◌, refl, rules, Some}
use Rattle.std.specs.Prelude.{slice_get}
use Rattle.sem_profile.specs.declared.profile.FormatSizes.{FormatSizes}
use Rattle.std.proofs.lemmas.Option.{slice_get_read}
use Rattle.cert_rules.specs.Valid.{HasPlans}
use Rattle.sem_filling.proofs.Each.{before_next, before_end}
use Rattle.cert_check.proofs.JudgedRefusing.{found_in, none_in, format_refuses}
use Rattle.cert_check.proofs.validity.formats_fault.Goals as goal

pub returns-in-Some-clause-found : goal.returns-in-Some-clause-found
returns-in-Some-clause-found c =
    let at = slice_get_read c.args.method.now.formats _ c.loop-n.n c.index-formats-n.result refl (search rules) (search rules) in
    format_refuses c.args.version c.args.table.now c.args.k c.loop-n.n c.args.bounds.now.formats c.index-formats-n.result c.args.method.now.formats c.args.entry.now c.in-Some.fault at c.loop-n.invariant (found_in _ c.in_ok-fault.field-0 c.in-Some.fault c.in-Some.is (rw c.as_slice-sizes.ensures at c.in_ok-fault.ensures.found))

pub loop-n-preserved : goal.loop-n-preserved
loop-n-preserved c =
    let at = slice_get_read c.args.method.now.formats _ c.loop-n.n c.index-formats-n.result refl (search rules) (search rules) in
    before_next (λ n format. (z : FormatSizes) → slice_get c.args.bounds.now.formats n ≡ Some z → HasPlans c.args.version c.args.table.now z format c.args.entry.now n) c.args.method.now.formats c.loop-n.n c.index-formats-n.result at (none_in _ c.in_ok-fault.field-0 c.in_default.is (rw c.as_slice-sizes.ensures at c.in_ok-fault.ensures.right)) c.loop-n.invariant

pub returns-clause-right : goal.returns-clause-right
returns-clause-right c = before_end (λ n format. (z : FormatSizes) → slice_get c.args.bounds.now.formats n ≡ Some z → HasPlans c.args.version c.args.table.now z format c.args.entry.now n) c.args.method.now.formats c.loop-n.n (search rules) c.loop-n.invariant
