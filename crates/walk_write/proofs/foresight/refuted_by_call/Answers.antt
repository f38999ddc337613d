use Rattle.std.proofs.Common.{◌≡◌, sym, ◌∙◌, ap, subst, drop}
use Rattle.std.specs.Prelude.{Some, slice_get}
use Rattle.sem_filling.specs.Fits.{vals}
use Rattle.walk_write.specs.Foresight.{AreRefutedInside}
use Rattle.walk_write.specs.Premises.{told_numbers}
use Rattle.walk_write.proofs.ForesightLemmas as foreseen
use Rattle.walk_write.proofs.foresight.refuted_by_call.Goals as goal

pub radix_of-radix-requires : goal.radix_of-radix-requires
radix_of-radix-requires c = record {
  within = foreseen.has_count c.args.outlook.now.place.now c.args.outlook.now.index c.args.outlook.now.format.now c.args.outlook.now.source.now.asked.now c.args.number c.args.field c.args.before c.args.choices.now c.requires.stands c.in-Some.found.now c.in-Call.method c.in-Call.arguments
      (ap (λ xs. slice_get xs c.args.field) (sym c.as_slice.ensures) ∙ sym c.in-Some.ensures) (sym c.get.ensures ∙ c.in-Call.is);
}

pub refuted_inside-requires-clause-there : goal.refuted_inside-requires-clause-there
refuted_inside-requires-clause-there c =
    foreseen.within c.args.outlook.now.place.now c.args.outlook.now.index c.args.outlook.now.format.now c.args.outlook.now.source.now.asked.now c.args.number c.args.field c.args.before c.args.choices.now c.requires.stands c.in-Some.found.now c.in-Call.method c.in-Call.arguments
    (ap (λ xs. slice_get xs c.args.field) (sym c.as_slice.ensures) ∙ sym c.in-Some.ensures) (sym c.get.ensures ∙ c.in-Call.is)

pub alike_up_to-requires-clause-fits : goal.alike_up_to-requires-clause-fits
alike_up_to-requires-clause-fits c =
    let inside = rw c.in-Some-2.is at c.in_ok-many.ensures in
    foreseen.fewer_fit c.radix_of-radix.result c.next-digit.result c.in-Some-2.many c.next-digit.new.self.span (inside.within c.radix_of-radix.result c.radix_of-radix.ensures) c.next-digit.ensures.fits

pub returns : goal.returns
returns c =
    let place = c.args.outlook.now.place.now in
    let bits = drop c.args.outlook.now.source.now.from c.args.outlook.now.source.now.cursor.now.left in
    let values = c.in_ok-are_told.ensures c.if-not-are_told.false in
    let told = subst (λ es. vals (told_numbers c.args.outlook.now.format.now place.frame.arguments.now c.args.choices.now) es ≡ Some c.tells_values.new.values.items) c.as_slice-2.ensures values in
    let inside = rw c.in-Some-2.is at c.in_ok-many.ensures in
    let are = subst (λ z. AreRefutedInside place c.args.outlook.now.index c.args.outlook.now.format.now c.args.field c.in-Some.found.now c.in-Call.method z c.next-digit.result c.in-Some-2.many bits) c.as_slice-3.ensures inside in
    let out = foreseen.refuted_out place c.args.outlook.now.index c.args.outlook.now.format.now c.args.outlook.now.source.now.asked.now c.args.number c.args.field c.args.before c.args.choices.now c.requires.stands c.in-Some.found.now c.in-Call.method c.in-Call.arguments
    (ap (λ xs. slice_get xs c.args.field) (sym c.as_slice.ensures) ∙ sym c.in-Some.ensures) (sym c.get.ensures ∙ c.in-Call.is) c.tells_values.new.values.items c.next-digit.result c.in-Some-2.many bits are in
    foreseen.call_fails place c.args.outlook.now.index c.args.outlook.now.format.now c.args.outlook.now.source.now.asked.now c.args.number c.args.field c.args.before c.args.choices.now c.requires.stands c.in-Some.found.now c.in-Call.method c.in-Call.arguments
    (ap (λ xs. slice_get xs c.args.field) (sym c.as_slice.ensures) ∙ sym c.in-Some.ensures) (sym c.get.ensures ∙ c.in-Call.is) c.radix_of-radix.result c.radix_of-radix.ensures c.next-digit.new.self c.next-digit.result
    c.next-digit.ensures.split c.next-digit.ensures.read c.tells_values.new.values.items c.in-Some-2.many bits out told c.alike_up_to.result c.alike_up_to.ensures.count c.alike_up_to.ensures.share
