use Rattle.std.proofs.Common.{rules, ◌≡◌, ◌∙◌, refl, sym, ap, subst, length}
use Rattle.std.specs.Prelude.{slice_get, Option, Some, IfSome, IsTrue, ◌↔◌}
use Rattle.std.proofs.lemmas.Option.{slice_get_read}
use Rattle.sem_context.specs.Entries.{bits_at}
use Rattle.sem_expr.specs.Known.{assignment_of}
use Rattle.sem_profile.specs.declared.profile.Encoding.TheVariants as encoding
use Rattle.sem_profile.specs.BoundsLaws.{in_encoding, encoding_exprs}
use Rattle.sem_filling.specs.Fillings.{fields_of}
use Rattle.sem_filling.specs.Fits.{Fits}
use Rattle.sem_filling.specs.Ready.{FieldFitsAt, AllFit, IsCoded, IsCalled, IsShown, HasLevel}
use Rattle.sem_holds.specs.declared.level.Level.{Level}
use Rattle.sem_holds.proofs.LevelsFit.{ready_level}
use Rattle.sem_holds.proofs.LevelsAlike.{filling_fits}
use Rattle.sem_filling.proofs.Coded.{ok_weaker}
use Rattle.sem_filling.proofs.Each.{before_next, before_end}
use Rattle.sem_holds.proofs.LevelsFields.{bare_holds, coded_holds, called_holds}
use Rattle.sem_holds.proofs.levels.+holding.Goals as goal

pub field_holds-is_coded-requires-clause-ranged : goal.field_holds-is_coded-requires-clause-ranged
field_holds-is_coded-requires-clause-ranged t c = λ n e here.
    let at = ap (λ xs. slice_get xs c.args.place) (sym c.as_slice.ensures)
    ∙ slice_get_read c.as_slice.result.now _ c.args.place c.index-as_slice-place.result (ap length (sym c.as_slice.ensures)) c.requires.within c.index-as_slice-place.is in
    c.requires.ready.expressions e (in_encoding c.args.place n at (ap (λ x. slice_get (encoding_exprs x) n) (sym c.get.ensures ∙ c.in-Library.is) ∙ here))

pub field_holds-call_holds-requires : goal.field_holds-call_holds-requires
field_holds-call_holds-requires t c =
    let at = ap (λ xs. slice_get xs c.args.place) (sym c.as_slice.ensures)
    ∙ slice_get_read c.as_slice.result.now _ c.args.place c.index-as_slice-place.result (ap length (sym c.as_slice.ensures)) c.requires.within c.index-as_slice-place.is in
    let is : c.index-as_slice-place.result.encoding ≡ encoding.Call c.in-Call.method c.as_slice-in-Call.result.now = sym c.get.ensures ∙ c.in-Call.is ∙ ap (encoding.Call c.in-Call.method) (sym c.as_slice-in-Call.ensures) in (
      (search rules),
      (
        c.requires.ready.callees c.args.place c.in-Call.method _ _ at is,
        (
          λ n e here. c.requires.ready.expressions e (in_encoding c.args.place n at (ap (λ x. slice_get (encoding_exprs x) n) is ∙ here)),
          λ args are. c.requires.ready.arguments c.args.place c.in-Call.method _ _ args at is are,
        ),
      ),
    )

pub field_holds-returns-in-Bare : goal.field_holds-returns-in-Bare
field_holds-returns-in-Bare t c =
    let at = ap (λ xs. slice_get xs c.args.place) (sym c.as_slice.ensures)
    ∙ slice_get_read c.as_slice.result.now _ c.args.place c.index-as_slice-place.result (ap length (sym c.as_slice.ensures)) c.requires.within c.index-as_slice-place.is in
    bare_holds c.args.frame.now.profile.now.methods (bits_at c.args.frame.now.context.now) c.args.frame.now.path.now c.args.level.now.format.now c.args.level.now.filling.now (assignment_of c.args.level.now.known) c.args.place
    c.index-as_slice-place.result c.args.filled.now c.is_bare.result at (sym c.get.ensures ∙ c.in-Bare.is) c.is_bare.ensures

pub field_holds-returns-in-Library : goal.field_holds-returns-in-Library
field_holds-returns-in-Library t c =
    let at = ap (λ xs. slice_get xs c.args.place) (sym c.as_slice.ensures)
    ∙ slice_get_read c.as_slice.result.now _ c.args.place c.index-as_slice-place.result (ap length (sym c.as_slice.ensures)) c.requires.within c.index-as_slice-place.is in
    let f = c.args.level.now.filling.now in
    let a = assignment_of c.args.level.now.known in
    let ctx = bits_at c.args.frame.now.context.now in
    ok_weaker (λ b. IsTrue b ↔ IsCoded ctx c.args.frame.now.path.now f a c.index-as_slice-place.result c.in-Library.library c.args.filled.now)
    (λ b. IsTrue b ↔ FieldFitsAt c.args.frame.now.profile.now.methods ctx c.args.frame.now.path.now c.args.level.now.format.now f a c.args.place c.args.filled.now) c.is_coded.result
    (λ b same. coded_holds c.args.frame.now.profile.now.methods ctx c.args.frame.now.path.now c.args.level.now.format.now f a c.args.place c.index-as_slice-place.result c.in-Library.library c.args.filled.now b at
    (sym c.get.ensures ∙ c.in-Library.is) same)
    c.is_coded.ensures

pub field_holds-returns-in-Call : goal.field_holds-returns-in-Call
field_holds-returns-in-Call t c =
    let at = ap (λ xs. slice_get xs c.args.place) (sym c.as_slice.ensures)
    ∙ slice_get_read c.as_slice.result.now _ c.args.place c.index-as_slice-place.result (ap length (sym c.as_slice.ensures)) c.requires.within c.index-as_slice-place.is in
    let is : c.index-as_slice-place.result.encoding ≡ encoding.Call c.in-Call.method c.as_slice-in-Call.result.now = sym c.get.ensures ∙ c.in-Call.is ∙ ap (encoding.Call c.in-Call.method) (sym c.as_slice-in-Call.ensures) in
    let f = c.args.level.now.filling.now in
    let a = assignment_of c.args.level.now.known in
    let ctx = bits_at c.args.frame.now.context.now in
    ok_weaker (λ b. IsTrue b ↔ IsCalled c.args.frame.now.profile.now.methods ctx c.args.frame.now.path.now a c.index-as_slice-place.result c.in-Call.method c.as_slice-in-Call.result.now c.args.filled.now)
    (λ b. IsTrue b ↔ FieldFitsAt c.args.frame.now.profile.now.methods ctx c.args.frame.now.path.now c.args.level.now.format.now f a c.args.place c.args.filled.now) c.call_holds.result
    (λ b same. called_holds c.args.frame.now.profile.now.methods ctx c.args.frame.now.path.now c.args.level.now.format.now f a c.args.place c.index-as_slice-place.result c.in-Call.method c.as_slice-in-Call.result.now
    c.args.filled.now b at is same)
    c.call_holds.ensures

pub call_holds-inner_holds-requires : goal.call_holds-inner_holds-requires
call_holds-inner_holds-requires t c = (
  (search rules),
  (
    c.requires.within,
    λ s at. c.requires.lie c.as_slice.result.now (c.in_ok-add_values.ensures.all c.if-not-branch.false ∙ ap Some (sym c.as_slice.ensures)) s at,
  ),
)

pub fields_hold-returns-then-not-branch : goal.fields_hold-returns-then-not-branch
fields_hold-returns-then-not-branch t c =
    let here = slice_get_read c.as_slice-filled.result.now _ c.loop-i.i c.index-filled-i.result refl c.loop-i-test.true c.index-filled-i.is in
    let at : slice_get (fields_of c.args.level.now.filling.now) c.loop-i.i ≡ Some c.index-filled-i.result =
    ap (λ f. slice_get (fields_of f) c.loop-i.i) c.requires.same ∙ ap (λ xs. slice_get xs c.loop-i.i) (sym c.as_slice-filled.ensures) ∙ here in
    (λ w. absurd cc, λ all. sym c.if-not-branch.true ∙ c.in_ok-field_holds.ensures.1 (all c.loop-i.i c.index-filled-i.result at))

pub fields_hold-loop-i-preserved : goal.fields_hold-loop-i-preserved
fields_hold-loop-i-preserved t c =
    let here = slice_get_read c.as_slice-filled.result.now _ c.loop-i.i c.index-filled-i.result refl c.loop-i-test.true c.index-filled-i.is in
    before_next (FieldFitsAt c.args.frame.now.profile.now.methods (bits_at c.args.frame.now.context.now) c.args.frame.now.path.now c.args.level.now.format.now c.args.level.now.filling.now (assignment_of c.args.level.now.known))
    c.as_slice-filled.result.now _ _ here (c.in_ok-field_holds.ensures.0 c.if-not-branch.false) c.loop-i.invariant

pub fields_hold-returns : goal.fields_hold-returns
fields_hold-returns t c = (
  λ w i g at.
      let there = ap (λ xs. slice_get xs i) c.as_slice-filled.ensures ∙ ap (λ f. slice_get (fields_of f) i) (sym c.requires.same) ∙ at in
      before_end (FieldFitsAt c.args.frame.now.profile.now.methods (bits_at c.args.frame.now.context.now) c.args.frame.now.path.now c.args.level.now.format.now c.args.level.now.filling.now (assignment_of c.args.level.now.known))
      c.as_slice-filled.result.now _ c.loop-i-test.false c.loop-i.invariant i g there,
  λ all. refl,
)

-- what the level of a filling is
shown_level : {o : Option Level} {l : Level} (P : Level → Type 0) → o ≡ Some l → IfSome o P → P l
shown_level {o} {l} P is all = subst (λ x. IfSome x P) is all

pub whole_holds-fields_hold-requires : goal.whole_holds-fields_hold-requires
whole_holds-fields_hold-requires t c =
    let shown = shown_level (λ l. (l.filling.now ≡ c.args.filling.now) × IsShown l.format.now c.args.filling.now l.header.now l.packed.now) c.in-Some.is c.level_of-level.ensures.shown in
    let found = shown_level (λ l. HasLevel c.args.frame.now.profile.now c.args.frame.now.method c.args.frame.now.arguments.now c.args.filling.now l.format.now l.known) c.in-Some.is c.level_of-level.ensures.found in
    let ready = ready_level c.args.frame.now.profile.now c.keeps.ensures c.args.frame.now.method c.args.frame.now.arguments.now c.args.filling.now _ _ found c.requires.arguments in (
      (search rules),
      (
        shown.0,
        (ready.0, subst (λ f. IsShown c.in-Some.level.format.now f c.in-Some.level.header.now c.in-Some.level.packed.now) (sym shown.0) shown.1),
      ),
    )

pub whole_holds-returns : goal.whole_holds-returns
whole_holds-returns t c =
    let p = c.args.frame.now.profile.now in
    let f = c.args.filling.now in
    let ctx = bits_at c.args.frame.now.context.now in
    let shown = shown_level (λ l. (l.filling.now ≡ f) × IsShown l.format.now f l.header.now l.packed.now) c.in-Some.is c.level_of-level.ensures.shown in
    let found = shown_level (λ l. HasLevel p c.args.frame.now.method c.args.frame.now.arguments.now f l.format.now l.known) c.in-Some.is c.level_of-level.ensures.found in
    let a = assignment_of c.in-Some.level.known in
    ok_weaker (λ b. IsTrue b ↔ AllFit p.methods ctx c.args.frame.now.path.now c.in-Some.level.format.now c.in-Some.level.filling.now a)
    (λ b. IsTrue b ↔ Fits p.methods ctx c.args.frame.now.method c.args.frame.now.arguments.now c.args.frame.now.path.now f) c.fields_hold.result
    (λ b same. filling_fits p c.keeps.ensures c.args.frame.now.method c.args.frame.now.arguments.now f c.in-Some.level.format.now c.in-Some.level.known found c.requires.arguments ctx c.args.frame.now.path.now
    (c.level_holds.ensures.0 c.if-not-level_holds.false) b (subst (λ g. IsTrue b ↔ AllFit p.methods ctx c.args.frame.now.path.now c.in-Some.level.format.now g a) shown.0 same))
    c.fields_hold.ensures
