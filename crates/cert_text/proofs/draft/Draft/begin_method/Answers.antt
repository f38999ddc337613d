use Rattle.std.proofs.Common.{◌≡◌, ◌≤◌, ◌∙◌, refl, sym, Some, arith, length}
use Rattle.std.specs.Prelude.{slice_get}
use Rattle.std.proofs.lemmas.Option.{slice_get_read}
use Rattle.cert_text.proofs.DraftsPieces.{begun, some_left}
use Rattle.cert_text.proofs.draft.Draft.begin_method.Goals as goal

pub returns : goal.returns
returns c =
    let at : slice_get c.args.methods.now c.in-Some.place ≡ Some c.in-Some-get.method.now = slice_get_read c.args.methods.now _ c.in-Some.place c.in-Some-get.method.now refl c.in-Some-get.ensures.lookup.3.0 c.in-Some-get.ensures.lookup.1 in
    let up : length c.args.self.now.entries ≤ c.in-Some.place = omega (arith, c.len.ensures) in
    begun c.args.methods.now c.args.self.now c.args.name.now c.in-Some.place c.in-Some-get.method.now c.push_nones.new.entries c.push.new.self (sym c.place_of_method.ensures ∙ c.in-Some.is) at
    (sym c.same.ensures ∙ c.if-not-same.false) up (some_left c.in-Some-get.method.now.formats c.is_empty.result c.is_empty.ensures c.if-is_empty.false) c.in_ok-push_nones.ensures c.in_ok-push.ensures
