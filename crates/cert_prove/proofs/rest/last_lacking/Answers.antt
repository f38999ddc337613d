use Rattle.std.proofs.Common.{◌≡◌, sym, ◌∙◌, ◌-◌, subst, length}
use Rattle.std.specs.Prelude.{Some, None, slice_get}
use Rattle.cert_plans.specs.Knowing.{shows}
use Rattle.cert_prove.proofs.SearchingAwaiting.{lacks_it, lacks_none, stands_popped, none_there}
use Rattle.cert_prove.proofs.rest.last_lacking.Goals as goal

pub returns-then-not-has-clause-lacks : goal.returns-then-not-has-clause-lacks
returns-then-not-has-clause-lacks c = λ xs stand.
    let known = shows c.args.known.now in
    let left = c.more.left in
    let at = subst (λ z. slice_get z (length z - 1) ≡ Some c.in-Some.last.now) c.as_slice.ensures (sym c.in-Some.ensures.value) in
    lacks_it known xs left (length left - 1) c.in-Some.last.now (c.more.invariant xs stand) at (sym c.has.ensures ∙ c.if-not-has.true)

pub returns-clause-lacks : goal.returns-clause-lacks
returns-clause-lacks c = λ xs stand.
    let known = shows c.args.known.now in
    let left = c.more.left in
    let at = subst (λ z. slice_get z (length z - 1) ≡ None) c.as_slice.ensures (sym c.in_default.ensures.value) in
    lacks_none known xs left (c.more.invariant xs stand) (none_there left at)

pub more-preserved : goal.more-preserved
more-preserved c = λ xs stand.
    let known = shows c.args.known.now in
    let left = c.more.left in
    let at = subst (λ z. slice_get z (length z - 1) ≡ Some c.in-Some.last.now) c.as_slice.ensures (sym c.in-Some.ensures.value) in
    stands_popped known xs left c.pop.new.self c.in-Some.last.now c.pop.result (c.more.invariant xs stand) at (sym c.has.ensures ∙ c.if-not-has.false) c.pop.ensures
