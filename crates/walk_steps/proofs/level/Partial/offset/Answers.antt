use Rattle.std.proofs.Common.{◌∙◌, sym, ap, subst, ◌<◌, ◌^◌, length}
use Rattle.cert_rules.specs.Facts.{before}
use Rattle.walk_steps.specs.Joined.{joined_bits}
use Rattle.walk_steps.specs.Fronts.{IsMeasured}
use Rattle.walk_steps.specs.Partial.{parts_of}
use Rattle.walk_steps.proofs.JoinedKept.{offset_short}
use Rattle.walk_steps.proofs.level.Partial.offset.Goals as goal

pub offset_by-requires-clause-measured : goal.offset_by-requires-clause-measured
offset_by-requires-clause-measured c =
    subst (λ xs. IsMeasured xs c.args.side c.parts.result.now c.front.result) (sym (c.as_slice.ensures.value ∙ ap (λ z. z.slots) c.self.view_is))
    (subst (λ p. IsMeasured c.args.self.now.slots c.args.side p c.front.result) (sym c.parts.ensures) c.front.ensures)

pub offset_by-requires-clause-short : goal.offset_by-requires-clause-short
offset_by-requires-clause-short c =
    let i = c.self.inside in
    let short = offset_short i.format.now i.sizes.now i.parameters i.slots.items c.self.invariant.kept c.args.side c.args.field in
    let parts = ap (before c.args.field) (c.parts.ensures ∙ ap (λ z. parts_of z.format c.args.side) (sym c.self.view_is)) in
    subst (λ xs. length (joined_bits xs c.args.side (before c.args.field c.parts.result.now)) < 2 ^ 31) (sym c.as_slice.ensures.value) (subst (λ p. length (joined_bits i.slots.items c.args.side p) < 2 ^ 31) (sym parts) short)
