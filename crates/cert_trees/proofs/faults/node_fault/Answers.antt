use Rattle.std.proofs.Common.{◌≡◌, ◌∙◌, sym, ap, subst, rules, to_z, of_z}
use Rattle.std.specs.Prelude.{slice_get}
use mir.Syntax.{w128}
use Rattle.cert_rules.specs.Trees.{IsShort}
use Rattle.cert_trees.specs.Faults.{IsTreeFault}
use Rattle.cert_trees.proofs.JudgedStacks.{outside, at_variant, node_right, short_found, leaf_found, nowhere_found}
use Rattle.cert_trees.proofs.faults.node_fault.Goals as goal

pub returns-else-is_in_range : goal.returns-else-is_in_range
returns-else-is_in_range c = λ formats nodes reach is stands.
    let kept : to_z w128 (of_z w128 c.in-Parameter.constant) ≡ c.in-Parameter.constant = (search rules) in
    let o = outside (slice_get c.as_slice.result.now c.in-Parameter.parameter) c.in-Parameter.constant _ kept c.if-is_in_range.ensures.1 in
    IsTreeFault.constant_outside c.in-Parameter.parameter c.in-Parameter.constant o.0 reach (at_variant formats _ nodes _ _ _ reach c.in-Parameter.is stands)
    (ap (λ xs. slice_get xs c.in-Parameter.parameter) (sym c.as_slice.ensures) ∙ o.1) o.2

pub returns-else-is_word : goal.returns-else-is_word
returns-else-is_word c = λ formats nodes reach is stands.
    let kept : to_z w128 (of_z w128 c.in-Reference.constant) ≡ c.in-Reference.constant = (search rules) in
    IsTreeFault.reference_beyond c.in-Reference.field-0 c.in-Reference.constant reach (at_variant formats _ nodes _ _ _ reach c.in-Reference.is stands)
    (λ short. let wrong = c.if-is_word.ensures.1 (subst IsShort (sym kept) short) in absurd (cc))

pub returns-in_err-format-in-Bit : goal.returns-in_err-format-in-Bit
returns-in_err-format-in-Bit c = λ formats nodes reach is stands.
    rw c.from_residual.ensures (node_right formats _ nodes c.args.place _ reach is _ c.as_slice-in-Bit.ensures c.args.node (λ i d e. let same = c.in-Bit.is in absurd (cc)) (λ i d e. let same = c.in-Bit.is in absurd (cc)) c.in_err-format-in-Bit.ensures)

pub returns-in_err-named-in-Leaf : goal.returns-in_err-named-in-Leaf
returns-in_err-named-in-Leaf c = λ formats nodes reach is stands.
    rw c.from_residual-in_err-named-in-Leaf.ensures
    (node_right formats _ nodes c.args.place _ reach is _ c.as_slice-in-Leaf.ensures c.args.node (λ i d e. let same = c.in-Leaf.is in absurd (cc)) (λ i d e. let same = c.in-Leaf.is in absurd (cc)) c.in_err-named-in-Leaf.ensures)

pub returns-in_err-any-in-Nowhere : goal.returns-in_err-any-in-Nowhere
returns-in_err-any-in-Nowhere c = λ formats nodes reach is stands.
    rw c.from_residual-in_err-any-in-Nowhere.ensures
    (node_right formats _ nodes c.args.place _ reach is _ c.as_slice-in-Nowhere.ensures c.args.node (λ i d e. let same = c.in-Nowhere.is in absurd (cc)) (λ i d e. let same = c.in-Nowhere.is in absurd (cc)) c.in_err-any-in-Nowhere.ensures)

pub returns-in_ok-format-in-Bit : goal.returns-in_ok-format-in-Bit
returns-in_ok-format-in-Bit c = λ formats nodes reach is stands.
    short_found formats _ nodes c.args.place _ reach is _ c.as_slice-in-Bit.ensures c.args.node c.in-Bit.field-0 c.in_ok-format-in-Bit.format c.in-Bit.is stands c.in_ok-format-in-Bit.ensures

pub returns-in_ok-named-in-Leaf : goal.returns-in_ok-named-in-Leaf
returns-in_ok-named-in-Leaf c = λ formats nodes reach is stands.
    leaf_found formats _ nodes c.args.place _ reach is _ c.as_slice-in-Leaf.ensures c.args.node c.in-Leaf.field-0 c.in_ok-named-in-Leaf.named c.in-Leaf.is stands c.in_ok-named-in-Leaf.ensures

pub returns-in_ok-any-in-Nowhere : goal.returns-in_ok-any-in-Nowhere
returns-in_ok-any-in-Nowhere c = λ formats nodes reach is stands.
    nowhere_found formats _ nodes c.args.place _ reach is _ c.as_slice-in-Nowhere.ensures c.args.node c.in_ok-any-in-Nowhere.any c.in-Nowhere.is stands c.in_ok-any-in-Nowhere.ensures
