use Rattle.std.proofs.Common.{◌∙◌, sym, ap, subst, ◌+◌, ◌<◌, length}
use Rattle.walk_steps.proofs.FrontsAdvancing.{bits_before}
use Rattle.walk_steps.proofs.fronts.offset_by.Goals as goal

pub overflow_sub-result : goal.overflow_sub-result
overflow_sub-result c =
    let same = c.parts_before-before.ensures in
    let parts = c.args.parts.now in
    (bits_before c.args.slots.now c.args.side parts c.args.field c.args.front c.in-Some.count c.requires.measured (subst (λ b. length b < length parts) same c.if-before-parts.true)
    (c.if-front-before.true ∙ ap (λ b. length b + 1) same) (sym c.length_at.ensures ∙ c.in-Some.is)).0

pub returns-in-Some : goal.returns-in-Some
returns-in-Some c =
    let same = c.parts_before-before.ensures in
    let parts = c.args.parts.now in
    sym (bits_before c.args.slots.now c.args.side parts c.args.field c.args.front c.in-Some.count c.requires.measured (subst (λ b. length b < length parts) same c.if-before-parts.true)
    (c.if-front-before.true ∙ ap (λ b. length b + 1) same) (sym c.length_at.ensures ∙ c.in-Some.is)).1
