use Rattle.std.proofs.Common.{◌≡◌, ◌∙◌, List, of_z, rules, sym, to_z, w64}
use Rattle.sem_expr.specs.Values.{apply}
use Rattle.sem_pages.specs.Chains.{IsApplied, IsOperand, Meaning, Spells}
use Rattle.sem_pages.specs.declared.chains.Chain.{Chain}
use Rattle.sem_pages.specs.declared.chains.Operand.{Operand}
use Rattle.sem_pages.proofs.Chaining.{spells_number, spells_push}
use Rattle.sem_pages.proofs.CodedSides.{some_weaker}
use Rattle.sem_pages.proofs.chains.linked.Goals as goal

pub returns-then-is_empty : goal.returns-then-is_empty
returns-then-is_empty c =
    let p : to_z w64 (of_z w64 c.in-Number-Number.one) ≡ c.in-Number-Number.one = (search rules) in
    let q : to_z w64 (of_z w64 c.in-Number-Number.other) ≡ c.in-Number-Number.other = (search rules) in
    some_weaker _
    (λ (x : Operand). (chains : List Chain) → (one : Meaning) → (other : Meaning) → (whole : Meaning) → Spells chains c.args.first c.args.links.now one → IsOperand chains c.args.right other → IsApplied c.args.operator one other whole → Spells chains x c.args.links.now whole)
    c.worked_out.result
    (λ x made chains one other whole s o applied. spells_number chains c.args.first c.args.right x c.args.links.now c.args.links.now c.args.operator c.in-Number-Number.one c.in-Number-Number.other made.0 one other whole
    c.in-Number-Number.is-0 c.in-Number-Number.is-1 (c.is_empty.ensures.0 c.if-is_empty.true) (c.is_empty.ensures.0 c.if-is_empty.true) made.1 ((λ i. apply c.args.operator (sym p i) (sym q i)) ∙ made.2) s o applied)
    c.worked_out.ensures

pub returns : goal.returns
returns c = λ chains one other whole s o applied. spells_push chains c.args.first c.args.right c.args.links.now c.push.new.self c.args.operator one other whole c.in_ok-push.ensures.ok s o applied
