use Rattle.std.proofs.Common.{◌∙◌, ap, refl, sym}
use Rattle.sem_expr.specs.Values.{Assignment, apply, both, val}
use Rattle.sem_pages.specs.Chains.{Meaning, Spells, parameter}
use Rattle.sem_pages.specs.declared.chains.Operand.{Operand}
use Rattle.sem_pages.proofs.Chaining.{spells_alone, spells_more}
use Rattle.sem_pages.proofs.CodedSides.{found_weaker, some_weaker}
use Rattle.sem_pages.proofs.chains.+spine.Goals as goal

pub returns-in-Number-clause-spells : goal.returns-in-Number-clause-spells
returns-in-Number-clause-spells t c =
    some_weaker _ (λ (x : Operand). Spells c.args.chains.now x c.args.links.now (λ a. val a c.args.expr.now)) c.number_operand.result
    (λ x told. spells_alone c.args.chains.now x c.args.links.now (λ a. val a c.args.expr.now) (λ a. val a c.args.expr.now) c.requires (told c.args.chains.now) (λ a. refl)) c.number_operand.ensures

pub returns-in-Parameter-clause-spells : goal.returns-in-Parameter-clause-spells
returns-in-Parameter-clause-spells t c =
    spells_alone c.args.chains.now _ c.args.links.now (λ a. val a c.args.expr.now) (λ (a : Assignment). a.parameter c.in-Parameter.index) c.requires (parameter (λ a. refl)) (λ a. ap (val a) c.in-Parameter.is)

pub returns-in-Attribute-clause-spells : goal.returns-in-Attribute-clause-spells
returns-in-Attribute-clause-spells t c =
    spells_alone c.args.chains.now _ c.args.links.now (λ a. val a c.args.expr.now) (λ (a : Assignment). a.attribute c.in-Attribute.attribute) c.requires (c.attribute_operand.ensures c.args.chains.now) (λ a. ap (val a) c.in-Attribute.is)

pub returns-in_ok-right-in-Binary-clause-spells : goal.returns-in_ok-right-in-Binary-clause-spells
returns-in_ok-right-in-Binary-clause-spells t c =
    let left : Meaning = λ a. val a c.deref.result.now in
    let right : Meaning = λ a. val a c.deref-in-Binary.result.now in
    let one = rw c.in-Some.is at c.in_ok-first-in-Binary.ensures.spells in
    let other = rw c.in-Some-2.is at c.in_ok-other-in-Binary.ensures.spells in
    let more = c.in_ok-other-in-Binary.ensures.grows in
    let again = c.in_ok-right-in-Binary.ensures.grows in
    let among = spells_more c.spine-in-Binary.new.chains again.0 c.closed.new.chains c.in-Some.first c.spine.new.links left again.1
    (spells_more c.spine.new.chains more.0 c.spine-in-Binary.new.chains c.in-Some.first c.spine.new.links left more.1 one) in
    found_weaker _ (λ (x : Operand). Spells c.closed.new.chains x c.linked.new.links (λ a. val a c.args.expr.now)) c.linked.result
    (λ x told. told c.closed.new.chains left right (λ a. val a c.args.expr.now) among (c.in_ok-right-in-Binary.ensures.is right other)
    (λ a. ap (val a) c.in-Binary.is ∙ (λ i. both (apply c.in-Binary.operator) (val a (sym c.deref.ensures i)) (val a (sym c.deref-in-Binary.ensures i))))) c.linked.ensures
