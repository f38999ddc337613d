use Rattle.std.proofs.Common.{◌∙◌, sym, ap, subst, ◌<◌, ◌^◌, length}
use Rattle.walk_steps.specs.Joined.{joined_bits}
use Rattle.walk_steps.specs.Partial.{parts_of}
use Rattle.walk_steps.proofs.JoinedKept.{parts_short}
use Rattle.walk_steps.proofs.level.Partial.whole.Goals as goal

pub joined_whole-requires : goal.joined_whole-requires
joined_whole-requires c =
    let i = c.self.inside in
    let short = parts_short i.format.now i.sizes.now i.parameters i.slots.items c.self.invariant.kept c.args.side in
    let parts = c.parts.ensures ∙ ap (λ z. parts_of z.format c.args.side) (sym c.self.view_is) in
    record { short = subst (λ xs. length (joined_bits xs c.args.side c.parts.result.now) < 2 ^ 31) (sym c.as_slice.ensures.value) (subst (λ p. length (joined_bits i.slots.items c.args.side p) < 2 ^ 31) (sym parts) short) }
