use Rattle.std.proofs.Common.{rules, ◌≡◌, ◌∙◌, refl, sym, ap, subst, ◌≤◌, ◌^◌, inl, inr, length, ◌+◌, arith}
use Rattle.std.specs.Prelude.{slice_get, Option, Some, None, IfSome, MatchOption}
use Rattle.std.proofs.lemmas.Option.{slice_get_read}
use Rattle.sem_profile.specs.BoundsLaws.{in_encoding, encoding_exprs}
use Rattle.sem_expr.specs.Known.{assignment_of}
use Rattle.sem_profile.specs.declared.profile.Encoding.TheVariants as encoding
use Rattle.sem_filling.specs.Entries.{below}
use Rattle.sem_filling.specs.Fillings.{fields_of, header, inner_of, packed}
use Rattle.sem_filling.specs.Ready.{HasLevel, IsShown}
use Rattle.sem_filling.proofs.Coded.{ok_weaker}
use Rattle.sem_filling.proofs.FitsLimits.{never_long}
use Rattle.sem_holds.specs.declared.level.Level.{Level}
use Rattle.sem_holds.proofs.LevelsFit.{ready_level}
use Rattle.sem_elsewhere.specs.Listed.{UsesAre}
use Rattle.walk_loss.specs.Uses.{AllFitAnywhere, FirstUses, UsesAt, UsesBy, UsesInside, UsesWithin}
use Rattle.walk_loss.proofs.Walking.{bare_at, call_fits_anywhere, called_at, coded_at, first_next, first_none, level_fits_anywhere, level_uses, none_is_inside, within_fits, within_uses}
use Rattle.walk_loss.proofs.uses.+descending.Goals as goal

pub call_uses-returns-then-not-branch : goal.call_uses-returns-then-not-branch
call_uses-returns-then-not-branch t c =
    let none = c.in_ok-add_values.ensures.none c.if-not-branch.true in
    subst (UsesInside c.args.profile.now.methods c.args.path.now c.args.call.now.field.now (assignment_of c.args.known.now) c.args.call.now.method c.args.call.now.arguments.now c.args.filled.now) (sym c.new.ensures)
    (none_is_inside c.args.profile.now.methods c.args.path.now c.args.call.now.field.now (assignment_of c.args.known.now) c.args.call.now.method c.args.call.now.arguments.now c.args.filled.now
    (λ values inner is inner_is. let wrong : None ≡ Some values = sym none ∙ is in absurd (cc)))

pub call_uses-inner_uses-requires : goal.call_uses-inner_uses-requires
call_uses-inner_uses-requires t c = (
  (search rules),
  (
    c.requires.1.1.0,
    (
      λ s at. c.requires.1.1.1.1.0 c.as_slice.result.now (c.in_ok-add_values.ensures.all c.if-not-branch.false ∙ ap Some (sym c.as_slice.ensures)) s at,
      rw (c.as_str-2.ensures ∙ c.in_ok-here.ensures ∙ ap (λ n. below c.args.path.now n) c.as_str.ensures)
          (within_fits c.args.profile.now.methods c.args.path.now c.args.call.now.field.now (assignment_of c.args.known.now) c.args.call.now.method c.args.call.now.arguments.now c.args.filled.now c.requires.1.1.1.1.1 c.as_slice.result.now
          (c.in_ok-add_values.ensures.all c.if-not-branch.false ∙ ap Some (sym c.as_slice.ensures)) _ refl),
    ),
  ),
)

pub call_uses-returns : goal.call_uses-returns
call_uses-returns t c =
    let values = c.in_ok-add_values.ensures.all c.if-not-branch.false ∙ ap Some (sym c.as_slice.ensures) in
    let here = c.as_str-2.ensures ∙ c.in_ok-here.ensures ∙ ap (λ n. below c.args.path.now n) c.as_str.ensures in
    let methods = c.args.profile.now.methods in
    ok_weaker (UsesWithin methods c.args.call.now.method c.as_slice.result.now c.as_str-2.result.now (inner_of c.args.filled.now))
    (UsesInside methods c.args.path.now c.args.call.now.field.now (assignment_of c.args.known.now) c.args.call.now.method c.args.call.now.arguments.now c.args.filled.now) c.inner_uses.result
    (λ xs told. within_uses methods c.args.path.now c.args.call.now.field.now (assignment_of c.args.known.now) c.args.call.now.method c.args.call.now.arguments.now c.args.filled.now c.as_slice.result.now xs values _ refl
    (subst (λ p. UsesWithin methods c.args.call.now.method c.as_slice.result.now p (inner_of c.args.filled.now) xs) here told))
    c.inner_uses.ensures

pub field_uses-own_uses-requires : goal.field_uses-own_uses-requires
field_uses-own_uses-requires t c = λ n e here.
    let at = ap (λ xs. slice_get xs c.args.place) (sym c.as_slice.ensures)
    ∙ slice_get_read c.as_slice.result.now _ c.args.place c.index-as_slice-place.result (ap length (sym c.as_slice.ensures)) c.requires.1.1.0 c.index-as_slice-place.is in
    c.requires.1.1.1.0.expressions e (in_encoding c.args.place n at (ap (λ x. slice_get (encoding_exprs x) n) (sym c.get.ensures ∙ c.in-Library.is) ∙ here))

pub field_uses-call_uses-requires : goal.field_uses-call_uses-requires
field_uses-call_uses-requires t c =
    let at = ap (λ xs. slice_get xs c.args.place) (sym c.as_slice.ensures)
    ∙ slice_get_read c.as_slice.result.now _ c.args.place c.index-as_slice-place.result (ap length (sym c.as_slice.ensures)) c.requires.1.1.0 c.index-as_slice-place.is in
    let is : c.index-as_slice-place.result.encoding ≡ encoding.Call c.in-Call.method c.as_slice-in-Call.result.now = sym c.get.ensures ∙ c.in-Call.is ∙ ap (encoding.Call c.in-Call.method) (sym c.as_slice-in-Call.ensures) in (
      (search rules),
      (
        c.requires.1.1.1.0.callees c.args.place c.in-Call.method _ _ at is,
        (
          λ n e here. c.requires.1.1.1.0.expressions e (in_encoding c.args.place n at (ap (λ x. slice_get (encoding_exprs x) n) is ∙ here)),
          (
            λ args are. c.requires.1.1.1.0.arguments c.args.place c.in-Call.method _ _ args at is are,
            call_fits_anywhere c.args.profile.now.methods c.args.path.now c.args.level.now.format.now c.args.level.now.filling.now (assignment_of c.args.level.now.known) c.args.place c.args.filled.now c.requires.1.1.1.1
                c.index-as_slice-place.result c.in-Call.method c.as_slice-in-Call.result.now at is,
          ),
        ),
      ),
    )

pub field_uses-returns-in-Bare : goal.field_uses-returns-in-Bare
field_uses-returns-in-Bare t c =
    let at = ap (λ xs. slice_get xs c.args.place) (sym c.as_slice.ensures)
    ∙ slice_get_read c.as_slice.result.now _ c.args.place c.index-as_slice-place.result (ap length (sym c.as_slice.ensures)) c.requires.1.1.0 c.index-as_slice-place.is in
    subst (UsesAt c.args.profile.now.methods c.args.path.now c.args.level.now.format.now c.args.level.now.filling.now (assignment_of c.args.level.now.known) c.args.place c.args.filled.now)
    (sym c.new.ensures)
    (bare_at c.args.profile.now.methods c.args.path.now c.args.level.now.format.now c.args.level.now.filling.now (assignment_of c.args.level.now.known) c.args.place c.args.filled.now
    c.index-as_slice-place.result at (sym c.get.ensures ∙ c.in-Bare.is))

pub field_uses-returns-in-Library : goal.field_uses-returns-in-Library
field_uses-returns-in-Library t c =
    let at = ap (λ xs. slice_get xs c.args.place) (sym c.as_slice.ensures)
    ∙ slice_get_read c.as_slice.result.now _ c.args.place c.index-as_slice-place.result (ap length (sym c.as_slice.ensures)) c.requires.1.1.0 c.index-as_slice-place.is in
    let a = assignment_of c.args.level.now.known in
    ok_weaker (UsesBy c.args.path.now c.index-as_slice-place.result a c.in-Library.library c.args.filled.now)
    (UsesAt c.args.profile.now.methods c.args.path.now c.args.level.now.format.now c.args.level.now.filling.now a c.args.place c.args.filled.now) c.own_uses.result
    (λ xs told. coded_at c.args.profile.now.methods c.args.path.now c.args.level.now.format.now c.args.level.now.filling.now a c.args.place c.args.filled.now c.index-as_slice-place.result c.in-Library.library xs at
    (sym c.get.ensures ∙ c.in-Library.is) told)
    c.own_uses.ensures

pub field_uses-returns-in-Call : goal.field_uses-returns-in-Call
field_uses-returns-in-Call t c =
    let at = ap (λ xs. slice_get xs c.args.place) (sym c.as_slice.ensures)
    ∙ slice_get_read c.as_slice.result.now _ c.args.place c.index-as_slice-place.result (ap length (sym c.as_slice.ensures)) c.requires.1.1.0 c.index-as_slice-place.is in
    let is : c.index-as_slice-place.result.encoding ≡ encoding.Call c.in-Call.method c.as_slice-in-Call.result.now = sym c.get.ensures ∙ c.in-Call.is ∙ ap (encoding.Call c.in-Call.method) (sym c.as_slice-in-Call.ensures) in
    let a = assignment_of c.args.level.now.known in
    ok_weaker (UsesInside c.args.profile.now.methods c.args.path.now c.index-as_slice-place.result a c.in-Call.method c.as_slice-in-Call.result.now c.args.filled.now)
    (UsesAt c.args.profile.now.methods c.args.path.now c.args.level.now.format.now c.args.level.now.filling.now a c.args.place c.args.filled.now) c.call_uses.result
    (λ xs told. called_at c.args.profile.now.methods c.args.path.now c.args.level.now.format.now c.args.level.now.filling.now a c.args.place c.args.filled.now c.index-as_slice-place.result c.in-Call.method
    c.as_slice-in-Call.result.now xs at is told)
    c.call_uses.ensures

pub fields_uses-loop-i-init : goal.fields_uses-loop-i-init
fields_uses-loop-i-init t c =
    subst (FirstUses c.args.profile.now.methods c.args.path.now c.args.level.now.format.now c.args.level.now.filling.now (assignment_of c.args.level.now.known) 0) (sym c.new-found.ensures)
    (first_none c.args.profile.now.methods c.args.path.now c.args.level.now.format.now c.args.level.now.filling.now (assignment_of c.args.level.now.known))

pub fields_uses-loop-i-preserved : goal.fields_uses-loop-i-preserved
fields_uses-loop-i-preserved t c =
    let here = slice_get_read c.as_slice-filled.result.now _ c.loop-i.i c.index-filled-i.result refl c.loop-i-test.true c.index-filled-i.is in
    let there : slice_get (fields_of c.args.level.now.filling.now) c.loop-i.i ≡ Some c.index-filled-i.result =
    ap (λ f. slice_get (fields_of f) c.loop-i.i) c.requires.1.1.0 ∙ ap (λ xs. slice_get xs c.loop-i.i) (sym c.as_slice-filled.ensures) ∙ here in
    subst (FirstUses c.args.profile.now.methods c.args.path.now c.args.level.now.format.now c.args.level.now.filling.now (assignment_of c.args.level.now.known) (c.loop-i.i + 1)) (sym c.in_ok-append.ensures)
    (first_next c.args.profile.now.methods c.args.path.now c.args.level.now.format.now c.args.level.now.filling.now (assignment_of c.args.level.now.known) c.loop-i.i c.index-filled-i.result
    c.loop-i.found c.in_ok-more.more there c.loop-i.invariant c.in_ok-more.ensures)

pub fields_uses-returns : goal.fields_uses-returns
fields_uses-returns t c =
    let count : length c.as_slice-filled.result.now ≡ length c.args.level.now.format.now.fields = ap length c.as_slice-filled.ensures ∙ ap (λ f. length (fields_of f)) (sym c.requires.1.1.0) ∙ c.requires.1.1.1.1.0.count in
    let all : c.loop-i.i ≡ length c.args.level.now.format.now.fields = omega (arith, c.loop-i-test.false, c.loop-i.auto.i-end, count) in
    subst (λ n. FirstUses c.args.profile.now.methods c.args.path.now c.args.level.now.format.now c.args.level.now.filling.now (assignment_of c.args.level.now.known) n c.loop-i.found) all c.loop-i.invariant

pub filling_uses-returns-in_default : goal.filling_uses-returns-in_default
filling_uses-returns-in_default t c =
    let fits = c.requires.1.1.1.1 in
    absurd (never_long c.args.profile.now c.keeps.ensures c.args.method c.args.arguments.now c.args.filling.now
    (inl (subst (λ o. MatchOption o (2 ^ 31 ≤ length (header c.args.filling.now)) (λ b. b ≡ header c.args.filling.now)) c.in_default.is c.in_ok-header.ensures)) _ _ fits.fits)

pub filling_uses-returns-in_default-2 : goal.filling_uses-returns-in_default-2
filling_uses-returns-in_default-2 t c =
    let fits = c.requires.1.1.1.1 in
    absurd (never_long c.args.profile.now c.keeps.ensures c.args.method c.args.arguments.now c.args.filling.now
    (inr (subst (λ o. MatchOption o (2 ^ 31 ≤ length (packed c.args.filling.now)) (λ b. b ≡ packed c.args.filling.now)) c.in_default-2.is c.in_ok-packed.ensures)) _ _ fits.fits)

-- what the level of a filling is
shown_level : {o : Option Level} {l : Level} (P : Level → Type 0) → o ≡ Some l → IfSome o P → P l
shown_level {o} {l} P is all = subst (λ x. IfSome x P) is all

pub filling_uses-fields_uses-requires : goal.filling_uses-fields_uses-requires
filling_uses-fields_uses-requires t c =
    let shown = shown_level (λ l. (l.filling.now ≡ c.args.filling.now) × IsShown l.format.now c.args.filling.now l.header.now l.packed.now) c.in-Some-level.is c.level_of-level.ensures.shown in
    let found = shown_level (λ l. HasLevel c.args.profile.now c.args.method c.args.arguments.now c.args.filling.now l.format.now l.known) c.in-Some-level.is c.level_of-level.ensures.found in
    let ready = ready_level c.args.profile.now c.keeps.ensures c.args.method c.args.arguments.now c.args.filling.now _ _ found c.requires.1.1.1.0 in
    let level = c.in-Some-level.level in
    let fit = level_fits_anywhere c.args.profile.now c.keeps.ensures c.args.method c.args.arguments.now c.args.filling.now level.format.now level.known found c.requires.1.1.1.0 c.args.path.now c.requires.1.1.1.1 in (
      (search rules),
      (
        shown.0,
        (
          ready.0,
          (
            subst (λ f. IsShown level.format.now f level.header.now level.packed.now) (sym shown.0) shown.1,
            subst (λ f. AllFitAnywhere c.args.profile.now.methods c.args.path.now level.format.now f (assignment_of level.known)) (sym shown.0) fit,
          ),
        ),
      ),
    )

pub filling_uses-returns : goal.filling_uses-returns
filling_uses-returns t c =
    let p = c.args.profile.now in
    let f = c.args.filling.now in
    let level = c.in-Some-level.level in
    let shown = shown_level (λ l. (l.filling.now ≡ f) × IsShown l.format.now f l.header.now l.packed.now) c.in-Some-level.is c.level_of-level.ensures.shown in
    let found = shown_level (λ l. HasLevel p c.args.method c.args.arguments.now f l.format.now l.known) c.in-Some-level.is c.level_of-level.ensures.found in
    ok_weaker (FirstUses p.methods c.args.path.now level.format.now level.filling.now (assignment_of level.known) (length level.format.now.fields))
    (UsesAre p.methods c.args.method c.args.arguments.now c.args.path.now f) c.fields_uses.result
    (λ xs told. level_uses p c.keeps.ensures c.args.method c.args.arguments.now f level.format.now level.known found c.requires.1.1.1.0 c.args.path.now xs
    (subst (λ g. FirstUses p.methods c.args.path.now level.format.now g (assignment_of level.known) (length level.format.now.fields) xs) shown.0 told))
    c.fields_uses.ensures
