use Rattle.std.proofs.Common.{rules, IfOk, IfErr}
use Rattle.std.proofs.lemmas.Result.{err_from_is_err_and}
use Rattle.sem_profile.specs.Precedence.{Blames}
use Rattle.text_statements.specs.Initial.{IsSpelled, IsNotSpelled}
use Rattle.std.proofs.lemmas.Result.{IfOk-weaker}
use Rattle.text_statements.specs.Initial.{are_arguments, bad_length, bad_value, does_not_fit, wrong_count}
use Rattle.text_statements.proofs.InitialCounted.{two_items}
use Rattle.text_statements.proofs.InitialValueless.{blamed, all_blamed}
use Rattle.text_statements.proofs.initial.argument_bits.Goals as goal

pub returns-in_err-length-in-len2-clause-refused : goal.returns-in_err-length-in-len2-clause-refused
returns-in_err-length-in-len2-clause-refused c =
    let two = two_items c.args.arguments.now _ _ c.in-len2.len_at_least c.in-len2.len_below c.length-item.is c.value-item.is in
    let p = err_from_is_err_and c.from_residual.result c.from_residual.ensures.1 in
    rw (p.1, p.2, two) (blamed _ (λ f cause. bad_length cause) c.in_err-length-in-len2.ensures.refused)

pub returns-in_err-value-in-len2-clause-refused : goal.returns-in_err-value-in-len2-clause-refused
returns-in_err-value-in-len2-clause-refused c =
    let two = two_items c.args.arguments.now _ _ c.in-len2.len_at_least c.in-len2.len_below c.length-item.is c.value-item.is in
    let p = err_from_is_err_and c.from_residual-in_err-value-in-len2.result c.from_residual-in_err-value-in-len2.ensures.1 in
    rw (p.1, p.2, two) (blamed _ (λ f cause. bad_value cause) c.in_err-value-in-len2.ensures.refused)

pub returns-in_ok-value-in-len2-clause-found : goal.returns-in_ok-value-in-len2-clause-found
returns-in_ok-value-in-len2-clause-found c =
    let two = two_items c.args.arguments.now _ _ c.in-len2.len_at_least c.in-len2.len_below c.length-item.is c.value-item.is in
    let spelled_found : IfOk c.spelled.result (IsSpelled c.in_ok-length-in-len2.length c.in_ok-value-in-len2.value) = search (rules, c.spelled.ensures.found) in
    rw two (IfOk-weaker c.spelled.result _ _ (λ bits spelled. are_arguments _ _ c.in_ok-length-in-len2.ensures.found c.in_ok-value-in-len2.ensures.found spelled) spelled_found)

pub returns-in_ok-value-in-len2-clause-refused : goal.returns-in_ok-value-in-len2-clause-refused
returns-in_ok-value-in-len2-clause-refused c =
    let two = two_items c.args.arguments.now _ _ c.in-len2.len_at_least c.in-len2.len_below c.length-item.is c.value-item.is in
    let spelled_refused : IfErr c.spelled.result (Blames (IsNotSpelled c.args.field c.in_ok-length-in-len2.length c.in_ok-value-in-len2.value)) = search (rules, c.spelled.ensures.refused) in
    rw two (all_blamed c.spelled.result (λ f cause. does_not_fit _ _ c.in_ok-length-in-len2.ensures.found c.in_ok-value-in-len2.ensures.found cause) spelled_refused)

pub returns-in-empty-clause-refused : goal.returns-in-empty-clause-refused
returns-in-empty-clause-refused c = rw c.no_value.ensures (wrong_count {arguments = c.args.arguments.now} (search rules))
