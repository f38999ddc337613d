use Rattle.std.proofs.Common.{◌≡◌, ◌∙◌, ap, subst, map}
use Rattle.std.specs.Prelude.{IfSome, option_and_then, slice_get}
use Rattle.sem_filling.specs.declared.filling.Filling.{out-roll-Filling}
use Rattle.sem_filling.specs.Fillings.{inner_of, sides_of}
use Rattle.cert_rules.specs.Slots.{slot_sides}
use Rattle.walk_steps.proofs.FillingMaking.{inners_at}
use Rattle.walk_steps.proofs.filling.filling_of.Goals as goal

pub returns-clause-made : goal.returns-clause-made
returns-clause-made c =
    let fields = c.args.format.now.fields in
    let slots = c.args.slots.items in
    let made = c.in-Some.fields in
    let out = out-roll-Filling (record { format = c.args.index; listing = c.in_ok-share.field-0; fields = made }) in
    let sides = subst (λ o. IfSome o (λ v. map sides_of v ≡ slot_sides c.as_slice.result.now slots)) c.in-Some.is c.in_ok-fields.ensures.sides in
    let inners = subst (λ o. IfSome o (λ v. map inner_of v ≡ map (λ s. s.inner) slots)) c.in-Some.is c.in_ok-fields.ensures.inners in
    record {
      format_is = ap (λ r. r.format) out;
      listing_is = ap (λ r. r.listing) out ∙ c.in_ok-share.ensures;
      level_is = ap (λ r. map sides_of r.fields) out ∙ (sides ∙ ap (λ ds. slot_sides ds slots) c.as_slice.ensures);
      inner_is = λ i. ap (λ r. option_and_then inner_of (slice_get r.fields i)) out ∙ inners_at made slots inners i;
    }
