use Rattle.std.proofs.Common.{◌≡◌, ◌∙◌, ◌≤◌, ap, length, of_z, rules, subst, sym, to_z, w64}
use Rattle.std.specs.Prelude.{Some}
use Rattle.std.proofs.lemmas.List.{drop_all}
use Rattle.sem_expr.specs.Values.{apply, both}
use Rattle.sem_pages.specs.Chains.{IsOperand, pair_means, up}
use Rattle.sem_pages.specs.Pages.{numbers_seen}
use Rattle.sem_pages.proofs.Chaining.{applied, attribute_at, field_at, found_is, number_at, pair_at, parameter_at, worked_end, worked_next}
use Rattle.sem_pages.proofs.CodedSides.{some_weaker}
use Rattle.sem_pages.proofs.chains.+chains.Goals as goal

pub chain_value-loop-link-preserved : goal.chain_value-loop-link-preserved
chain_value-loop-link-preserved t c = λ m is.
    let kept : to_z w64 (of_z w64 c.in_ok-value-2.value) ≡ c.in_ok-value-2.value = (search rules) in
    worked_next c.args.chains.now (numbers_seen c.args.view.now) c.as_slice-links.result.now c.loop-link.link-index _ _ (to_z w64 (of_z w64 c.in_ok-value-2.value)) m c.loop-link-test.true
    (λ r operand. c.in_ok-value-2.ensures r operand ∙ ap Some (sym kept)) (c.loop-link.invariant m is)

pub chain_value-returns : goal.chain_value-returns
chain_value-returns t c = λ m is.
    let over : length c.as_slice-links.result.now ≤ c.loop-link.link-index = (search rules) in
    worked_end c.args.chains.now (numbers_seen c.args.view.now) _ _ m (drop_all c.loop-link.link-index c.as_slice-links.result.now over) (c.loop-link.invariant m is)

pub operand_value-returns-in-Number : goal.operand_value-returns-in-Number
operand_value-returns-in-Number t c = λ m is. number_at c.in-Number.number (subst (λ o. IsOperand c.args.chains.now o m) c.in-Number.is is) (numbers_seen c.args.view.now) ∙ ap Some (search rules)

pub operand_value-returns-in-Parameter : goal.operand_value-returns-in-Parameter
operand_value-returns-in-Parameter t c = λ m is.
    found_is c.parameter.result (m (numbers_seen c.args.view.now)) (parameter_at c.in-Parameter.index (subst (λ o. IsOperand c.args.chains.now o m) c.in-Parameter.is is) (numbers_seen c.args.view.now) ∙ sym c.parameter.ensures)

pub operand_value-returns-in-Attribute : goal.operand_value-returns-in-Attribute
operand_value-returns-in-Attribute t c = λ m is.
    some_weaker (λ v. (numbers_seen c.args.view.now).attribute c.in-Attribute.attribute ≡ Some v) (λ v. m (numbers_seen c.args.view.now) ≡ Some v) c.attribute.result
    (λ v e. attribute_at c.in-Attribute.attribute (subst (λ o. IsOperand c.args.chains.now o m) c.in-Attribute.is is) (numbers_seen c.args.view.now) ∙ e) c.attribute.ensures

pub operand_value-returns-in-Field : goal.operand_value-returns-in-Field
operand_value-returns-in-Field t c = λ m is.
    some_weaker (λ v. (numbers_seen c.args.view.now).attribute (up c.in-Field.field) ≡ Some v) (λ v. m (numbers_seen c.args.view.now) ≡ Some v) c.number_at.result
    (λ v e. field_at c.in-Field.field (subst (λ o. IsOperand c.args.chains.now o m) c.in-Field.is is) (numbers_seen c.args.view.now) ∙ e) c.number_at.ensures

pub operand_value-returns-in-Pair : goal.operand_value-returns-in-Pair
operand_value-returns-in-Pair t c = λ m is.
    some_weaker (λ v. pair_means c.in-Pair.pair (numbers_seen c.args.view.now) ≡ Some v) (λ v. m (numbers_seen c.args.view.now) ≡ Some v) c.pair_value.result
    (λ v e. pair_at c.in-Pair.pair (subst (λ o. IsOperand c.args.chains.now o m) c.in-Pair.is is) (numbers_seen c.args.view.now) ∙ e) c.pair_value.ensures

pub linked_value-returns-in-Number : goal.linked_value-returns-in-Number
linked_value-returns-in-Number t c = λ r is.
    let op = c.args.link.now.operator in
    let kept : to_z w64 (of_z w64 c.args.value) ≡ c.args.value = (search rules) in
    let own : to_z w64 (of_z w64 c.in-Number.number) ≡ c.in-Number.number = (search rules) in
    some_weaker (λ v. apply op (to_z w64 (of_z w64 c.args.value)) (to_z w64 (of_z w64 c.in-Number.number)) ≡ Some v) (λ v. both (apply op) (Some c.args.value) (r (numbers_seen c.args.view.now)) ≡ Some v) c.calculated.result
    (λ v e. applied op c.args.value (to_z w64 (of_z w64 c.args.value)) c.in-Number.number (to_z w64 (of_z w64 c.in-Number.number)) v (r (numbers_seen c.args.view.now)) kept own (number_at c.in-Number.number (subst (λ o. IsOperand c.args.chains.now o r) c.in-Number.is is) (numbers_seen c.args.view.now)) e) c.calculated.ensures

pub linked_value-returns-in_ok-number_at-in-Field : goal.linked_value-returns-in_ok-number_at-in-Field
linked_value-returns-in_ok-number_at-in-Field t c = λ r is.
    let op = c.args.link.now.operator in
    let kept : to_z w64 (of_z w64 c.args.value) ≡ c.args.value = (search rules) in
    let own : to_z w64 (of_z w64 c.in_ok-number_at-in-Field.field-0) ≡ c.in_ok-number_at-in-Field.field-0 = (search rules) in
    some_weaker (λ v. apply op (to_z w64 (of_z w64 c.args.value)) (to_z w64 (of_z w64 c.in_ok-number_at-in-Field.field-0)) ≡ Some v) (λ v. both (apply op) (Some c.args.value) (r (numbers_seen c.args.view.now)) ≡ Some v) c.calculated-in-Field.result
    (λ v e. applied op c.args.value (to_z w64 (of_z w64 c.args.value)) c.in_ok-number_at-in-Field.field-0 (to_z w64 (of_z w64 c.in_ok-number_at-in-Field.field-0)) v (r (numbers_seen c.args.view.now)) kept own (field_at c.in-Field.field (subst (λ o. IsOperand c.args.chains.now o r) c.in-Field.is is) (numbers_seen c.args.view.now) ∙ c.in_ok-number_at-in-Field.ensures) e) c.calculated-in-Field.ensures

pub linked_value-returns-in_ok-pair_value-in-Pair : goal.linked_value-returns-in_ok-pair_value-in-Pair
linked_value-returns-in_ok-pair_value-in-Pair t c = λ r is.
    let op = c.args.link.now.operator in
    let kept : to_z w64 (of_z w64 c.args.value) ≡ c.args.value = (search rules) in
    let own : to_z w64 (of_z w64 c.in_ok-pair_value-in-Pair.field-0) ≡ c.in_ok-pair_value-in-Pair.field-0 = (search rules) in
    some_weaker (λ v. apply op (to_z w64 (of_z w64 c.args.value)) (to_z w64 (of_z w64 c.in_ok-pair_value-in-Pair.field-0)) ≡ Some v) (λ v. both (apply op) (Some c.args.value) (r (numbers_seen c.args.view.now)) ≡ Some v) c.calculated-in-Pair.result
    (λ v e. applied op c.args.value (to_z w64 (of_z w64 c.args.value)) c.in_ok-pair_value-in-Pair.field-0 (to_z w64 (of_z w64 c.in_ok-pair_value-in-Pair.field-0)) v (r (numbers_seen c.args.view.now)) kept own (pair_at c.in-Pair.pair (subst (λ o. IsOperand c.args.chains.now o r) c.in-Pair.is is) (numbers_seen c.args.view.now) ∙ c.in_ok-pair_value-in-Pair.ensures) e) c.calculated-in-Pair.ensures
