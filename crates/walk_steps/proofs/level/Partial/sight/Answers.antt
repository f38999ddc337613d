use Rattle.std.proofs.Common.{refl, ◌∙◌, sym, ap}
use Rattle.cert_rules.specs.Numbers.{known_of}
use Rattle.walk_steps.specs.Partial.{whole_numbers, known_by}
use Rattle.walk_steps.proofs.JoinedKept.{known_is}
use Rattle.walk_steps.proofs.Sighted.{clear_as}
use Rattle.walk_steps.proofs.level.Partial.sight.Goals as goal

pub returns-clause-clear : goal.returns-clause-clear
returns-clause-clear c =
    let i = c.self.inside in
    clear_as i.format.now i.sizes.now i.headers.items i.slots.items i.parameters i.fronts c.self.invariant _ (sym c.as_slice.ensures.value) (sym c.as_slice-2.ensures) (sym (c.as_slice-3.ensures ∙ c.get.ensures)) refl

pub returns-clause-known : goal.returns-clause-known
returns-clause-known c =
    let i = c.self.inside in
    (λ k. known_by (c.as_slice.ensures.value k) (whole_numbers (c.as_slice.ensures.value k) (c.as_slice-2.ensures k) ((c.as_slice-3.ensures ∙ c.get.ensures) k)) (c.as_slice-4.ensures k))
    ∙ (known_is i.format.now i.sizes.now i.parameters i.headers.items i.slots.items c.self.invariant.headers_are c.self.invariant.kept
    ∙ ap (λ z. known_of z.format z.slots z.args) c.self.view_is)
