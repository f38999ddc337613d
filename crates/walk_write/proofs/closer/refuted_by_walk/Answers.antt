use Rattle.std.proofs.Common.{◌≡◌, sym, ◌∙◌, ap, subst}
use Rattle.std.specs.Prelude.{Some, slice_get}
use Rattle.sem_filling.specs.Fits.{vals}
use Rattle.walk_write.specs.declared.foresight.CalledField.{CalledField}
use Rattle.walk_write.specs.Closer.{IsHeaderCall}
use Rattle.walk_write.specs.Premises.{told_numbers}
use Rattle.walk_write.specs.Sources.{front}
use Rattle.walk_write.proofs.CloserLemmas.{fails_out}
use Rattle.walk_write.proofs.ForesightLemmas as foreseen
use Rattle.walk_write.proofs.ForesightLemmas.{AreKeptOut}
use Rattle.walk_write.proofs.closer.refuted_by_walk.Goals as goal

pub radix_of-radix-requires : goal.radix_of-radix-requires
radix_of-radix-requires c = record {
  within = foreseen.has_count c.args.outlook.now.place.now c.args.outlook.now.index c.args.outlook.now.format.now c.args.outlook.now.source.now.asked.now c.args.number c.args.field c.args.before c.args.choices.now c.requires.before c.in-Some.found.now c.in-Call.method c.in-Call.arguments
      (ap (λ xs. slice_get xs c.args.field) (sym c.as_slice.ensures) ∙ sym c.in-Some.ensures) (sym c.get.ensures ∙ c.in-Call.is);
}

pub walked_inside-requires-clause-calls : goal.walked_inside-requires-clause-calls
walked_inside-requires-clause-calls c = record {
  sound = c.requires.before.seen.sound;
  format_is = c.requires.before.seen.format_is;
  field_is = ap (λ xs. slice_get xs c.args.field) (sym c.as_slice.ensures) ∙ sym c.in-Some.ensures;
  exprs = c.in-Call.arguments;
  encoding_is = sym c.get.ensures ∙ c.in-Call.is;
  in_header = sym c.is_header.ensures ∙ c.if-not-is_header.false;
}

pub alike_up_to-requires-clause-some : goal.alike_up_to-requires-clause-some
alike_up_to-requires-clause-some c = let inside = rw c.in-Some-2.is at c.in_ok-many.ensures in inside.fails.some

pub alike_up_to-requires-clause-fits : goal.alike_up_to-requires-clause-fits
alike_up_to-requires-clause-fits c =
    let x : CalledField = record { index = c.args.field; field = c.in-Some.found; method = c.in-Call.method; arguments = c.as_slice-3.result } in
    let call : IsHeaderCall c.args.outlook.now x = record {
      sound = c.requires.before.seen.sound;
      format_is = c.requires.before.seen.format_is;
      field_is = ap (λ xs. slice_get xs c.args.field) (sym c.as_slice.ensures) ∙ sym c.in-Some.ensures;
      exprs = c.in-Call.arguments;
      encoding_is = sym c.get.ensures ∙ c.in-Call.is;
      in_header = sym c.is_header.ensures ∙ c.if-not-is_header.false;
    } in
    let out = fails_out c.args.outlook.now c.args.number c.args.before c.args.choices.now x c.requires.before call c.next-digit.result c.in-Some-2.many (rw c.in-Some-2.is at c.in_ok-many.ensures) in
    foreseen.fewer_fit c.radix_of-radix.result c.next-digit.result c.in-Some-2.many c.next-digit.new.self.span (out.within c.radix_of-radix.result c.radix_of-radix.ensures) c.next-digit.ensures.fits

pub returns : goal.returns
returns c =
    let place = c.args.outlook.now.place.now in
    let format = c.args.outlook.now.format.now in
    let asked = c.args.outlook.now.source.now.asked.now in
    let bits = front c.args.outlook.now.source.now in
    let field_is = ap (λ xs. slice_get xs c.args.field) (sym c.as_slice.ensures) ∙ sym c.in-Some.ensures in
    let encoding_is = sym c.get.ensures ∙ c.in-Call.is in
    let values = c.in_ok-are_told.ensures c.if-not-are_told.false in
    let told = subst (λ es. vals (told_numbers format place.frame.arguments.now c.args.choices.now) es ≡ Some c.tells_values.new.values.items) c.as_slice-2.ensures values in
    let x : CalledField = record { index = c.args.field; field = c.in-Some.found; method = c.in-Call.method; arguments = c.as_slice-3.result } in
    let call : IsHeaderCall c.args.outlook.now x = record {
      sound = c.requires.before.seen.sound;
      format_is = c.requires.before.seen.format_is;
      field_is = field_is;
      exprs = c.in-Call.arguments;
      encoding_is = encoding_is;
      in_header = sym c.is_header.ensures ∙ c.if-not-is_header.false;
    } in
    let out = fails_out c.args.outlook.now c.args.number c.args.before c.args.choices.now x c.requires.before call c.next-digit.result c.in-Some-2.many (rw c.in-Some-2.is at c.in_ok-many.ensures) in
    let kept = subst (λ z. AreKeptOut place c.args.outlook.now.index format c.args.field c.in-Some.found.now c.in-Call.method z c.next-digit.result c.in-Some-2.many bits asked) c.as_slice-3.ensures out in
    foreseen.call_fails place c.args.outlook.now.index format asked c.args.number c.args.field c.args.before c.args.choices.now c.requires.before c.in-Some.found.now c.in-Call.method c.in-Call.arguments field_is encoding_is
    c.radix_of-radix.result c.radix_of-radix.ensures c.next-digit.new.self c.next-digit.result c.next-digit.ensures.split c.next-digit.ensures.read c.tells_values.new.values.items c.in-Some-2.many bits kept told
    c.alike_up_to.result c.alike_up_to.ensures.count c.alike_up_to.ensures.share
