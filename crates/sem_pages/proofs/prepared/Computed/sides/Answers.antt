use Rattle.std.proofs.Common.{◌≡◌, ◌∙◌, ap, pos, rules, subst, sym}
use Rattle.std.specs.Prelude.{Some}
use Rattle.sem_pages.specs.Chains.{IsOperand}
use Rattle.sem_pages.proofs.Preparing.{computed_reads}
use Rattle.sem_pages.proofs.prepared.Computed.sides.Goals as goal

pub returns : goal.returns
returns c = λ d is.
    let value_is : c.in_ok-value.value ≡ pos c.in_ok-number.number = (search rules) in
    let spelled = c.in_ok-uncompressed.ensures in
    computed_reads c.args.view.now d c.args.self.now c.in_ok-number.number c.in_ok-uncompressed.uncompressed c.new.result is
    (λ m operand. c.in_ok-value.ensures m (subst (λ z. IsOperand z c.args.self.now.value m) (sym c.as_slice.ensures) operand) ∙ ap Some value_is) spelled.0 spelled.1 spelled.2 (search rules)
