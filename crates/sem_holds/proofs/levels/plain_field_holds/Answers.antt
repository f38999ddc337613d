use Rattle.std.proofs.Common.{◌≡◌, ◌∙◌, sym, ap, length, false}
use Rattle.std.specs.Prelude.{slice_get, IsTrue, ◌↔◌}
use Rattle.std.proofs.lemmas.Option.{slice_get_read}
use Rattle.sem_context.specs.Entries.{bits_at}
use Rattle.sem_expr.specs.Known.{assignment_of}
use Rattle.sem_profile.specs.BoundsLaws.{in_encoding, encoding_exprs}
use Rattle.sem_filling.specs.Ready.{FieldFitsAt, IsCoded}
use Rattle.sem_filling.proofs.Coded.{ok_weaker}
use Rattle.sem_holds.proofs.LevelsFields.{bare_holds, coded_holds, not_where_false}
use Rattle.sem_holds.proofs.levels.plain_field_holds.Goals as goal

pub is_coded-requires-clause-ranged : goal.is_coded-requires-clause-ranged
is_coded-requires-clause-ranged c = λ n e here.
    let at = ap (λ xs. slice_get xs c.args.place) (sym c.as_slice.ensures)
    ∙ slice_get_read c.as_slice.result.now _ c.args.place c.index-as_slice-place.result (ap length (sym c.as_slice.ensures)) c.requires.within c.index-as_slice-place.is in
    c.requires.ready.expressions e (in_encoding c.args.place n at (ap (λ x. slice_get (encoding_exprs x) n) (sym c.get.ensures ∙ c.in-Library.is) ∙ here))

pub returns-in-Bare : goal.returns-in-Bare
returns-in-Bare c =
    let at = ap (λ xs. slice_get xs c.args.place) (sym c.as_slice.ensures)
    ∙ slice_get_read c.as_slice.result.now _ c.args.place c.index-as_slice-place.result (ap length (sym c.as_slice.ensures)) c.requires.within c.index-as_slice-place.is in
    not_where_false c.is_bare.result (bare_holds c.args.frame.now.profile.now.methods (bits_at c.args.frame.now.context.now) c.args.frame.now.path.now c.args.level.now.format.now c.args.level.now.filling.now
    (assignment_of c.args.level.now.known) c.args.place c.index-as_slice-place.result c.args.filled.now c.is_bare.result at (sym c.get.ensures ∙ c.in-Bare.is) c.is_bare.ensures)

pub returns-in-Library : goal.returns-in-Library
returns-in-Library c =
    let at = ap (λ xs. slice_get xs c.args.place) (sym c.as_slice.ensures)
    ∙ slice_get_read c.as_slice.result.now _ c.args.place c.index-as_slice-place.result (ap length (sym c.as_slice.ensures)) c.requires.within c.index-as_slice-place.is in
    let f = c.args.level.now.filling.now in
    let a = assignment_of c.args.level.now.known in
    let ctx = bits_at c.args.frame.now.context.now in
    ok_weaker (λ b. IsTrue b ↔ IsCoded ctx c.args.frame.now.path.now f a c.index-as_slice-place.result c.in-Library.library c.args.filled.now)
    (λ b. b ≡ false → FieldFitsAt c.args.frame.now.profile.now.methods ctx c.args.frame.now.path.now c.args.level.now.format.now f a c.args.place c.args.filled.now → ⊥) c.is_coded.result
    (λ b same. not_where_false b (coded_holds c.args.frame.now.profile.now.methods ctx c.args.frame.now.path.now c.args.level.now.format.now f a c.args.place c.index-as_slice-place.result c.in-Library.library
    c.args.filled.now b at (sym c.get.ensures ∙ c.in-Library.is) same))
    c.is_coded.ensures
