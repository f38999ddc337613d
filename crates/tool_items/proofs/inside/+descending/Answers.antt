use Rattle.std.proofs.Common.{rules, ◌≡◌, ◌∙◌, ◌+◌, refl, sym, ap, subst, length}
use Rattle.std.specs.Prelude.{slice_get, Option, Some, IfSome}
use Rattle.std.proofs.lemmas.Option.{slice_get_read}
use Rattle.sem_profile.specs.BoundsLaws.{in_encoding, encoding_exprs}
use Rattle.sem_expr.specs.Known.{assignment_of}
use Rattle.sem_filling.specs.Entries.{below}
use Rattle.sem_filling.specs.Fillings.{inner_of}
use Rattle.sem_holds.proofs.LevelsFit.{ready_level}
use Rattle.sem_holds.specs.declared.level.Level.{Level}
use Rattle.sem_profile.specs.declared.profile.Encoding.TheVariants as encoding
use Rattle.tool_items.specs.Inside.{StandsAmong, StandsBelow, StandsInField, StandsWithin}
use Rattle.tool_items.proofs.Insides.{at_end, from_field, in_field, ok_part_weaker}
use Rattle.tool_items.specs.declared.inside.Standing.{Standing}
use Rattle.tool_items.proofs.inside.+descending.Goals as goal

-- what the level of a filling is
shown_level : {o : Option Level} {l : Level} (P : Level → Type 0) → o ≡ Some l → IfSome o P → P l
shown_level {o} {l} P is all = subst (λ x. IfSome x P) is all

pub standing_in-add_values-requires-clause-ranged : goal.standing_in-add_values-requires-clause-ranged
standing_in-add_values-requires-clause-ranged t c =
    let at = ap (λ xs. slice_get xs c.args.place) (sym c.as_slice.ensures)
    ∙ slice_get_read c.as_slice.result.now _ c.args.place c.index-as_slice-place.result (ap length (sym c.as_slice.ensures)) c.requires.1.1.0 c.index-as_slice-place.is in
    let is : c.index-as_slice-place.result.encoding ≡ encoding.Call c.in-Call.method c.as_slice-2.result.now = sym c.get.ensures ∙ c.in-Call.is ∙ ap (encoding.Call c.in-Call.method) (sym c.as_slice-2.ensures) in
    λ n e here. c.requires.1.1.1.expressions e (in_encoding c.args.place n at (ap (λ x. slice_get (encoding_exprs x) n) is ∙ here))

pub standing_in-standing_within-requires : goal.standing_in-standing_within-requires
standing_in-standing_within-requires t c =
    let at = ap (λ xs. slice_get xs c.args.place) (sym c.as_slice.ensures)
    ∙ slice_get_read c.as_slice.result.now _ c.args.place c.index-as_slice-place.result (ap length (sym c.as_slice.ensures)) c.requires.1.1.0 c.index-as_slice-place.is in
    let is : c.index-as_slice-place.result.encoding ≡ encoding.Call c.in-Call.method c.as_slice-2.result.now = sym c.get.ensures ∙ c.in-Call.is ∙ ap (encoding.Call c.in-Call.method) (sym c.as_slice-2.ensures) in
    let values = c.in_ok-add_values.ensures.all c.if-not-branch.false ∙ ap Some (sym c.as_slice-3.ensures) in (
      (search rules),
      (
        c.requires.1.1.1.callees c.args.place c.in-Call.method _ _ at is,
        λ s here. c.requires.1.1.1.arguments c.args.place c.in-Call.method _ _ c.as_slice-3.result.now at is values s here,
      ),
    )

pub standing_in-returns : goal.standing_in-returns
standing_in-returns t c =
    let at = ap (λ xs. slice_get xs c.args.place) (sym c.as_slice.ensures)
    ∙ slice_get_read c.as_slice.result.now _ c.args.place c.index-as_slice-place.result (ap length (sym c.as_slice.ensures)) c.requires.1.1.0 c.index-as_slice-place.is in
    let is : c.index-as_slice-place.result.encoding ≡ encoding.Call c.in-Call.method c.as_slice-2.result.now = sym c.get.ensures ∙ c.in-Call.is ∙ ap (encoding.Call c.in-Call.method) (sym c.as_slice-2.ensures) in
    let values = c.in_ok-add_values.ensures.all c.if-not-branch.false ∙ ap Some (sym c.as_slice-3.ensures) in
    let here = c.as_str-2.ensures.value ∙ c.in_ok-here.ensures ∙ ap (λ n. below c.args.path.now n) c.as_str.ensures in
    ok_part_weaker (StandsWithin c.args.profile.now c.in-Call.method c.as_slice-3.result.now c.as_str-2.result.now (inner_of c.args.filled.now))
    (StandsInField c.args.profile.now c.args.path.now c.args.level.now.format.now (assignment_of c.args.level.now.known) c.args.place c.args.filled.now) c.standing_within.result
    (λ s told. in_field c.args.profile.now c.args.path.now c.args.level.now.format.now (assignment_of c.args.level.now.known) c.args.place c.args.filled.now c.index-as_slice-place.result c.in-Call.method c.as_slice-2.result.now
    c.as_slice-3.result.now s at is values (subst (λ p. StandsWithin c.args.profile.now c.in-Call.method c.as_slice-3.result.now p (inner_of c.args.filled.now) s) here told))
    c.standing_within.ensures

pub standing_within-returns-in_ok-from_str-in-None : goal.standing_within-returns-in_ok-from_str-in-None
standing_within-returns-in_ok-from_str-in-None t c =
    let s : Standing = record { method = c.args.method; arguments = c.in_ok-from_slice-in-None.field-0; path = c.in_ok-from_str-in-None.field-0; filling = record { ref_ptr = (c.args.filled.ref_ptr.0, c.args.filled.ref_ptr.1 + 64 + 8); now = c.in-Some.inner } } in
    subst (λ o. StandsWithin c.args.profile.now c.args.method c.args.arguments.now c.args.path.now o s) (sym c.in-Some.is)
    (at_end c.args.profile.now c.args.method c.args.arguments.now c.args.path.now c.in-Some.inner s c.requires.1.1.1 refl c.in_ok-from_slice-in-None.ensures c.in_ok-from_str-in-None.ensures.ok refl)

pub standing_at-standing_among-requires : goal.standing_at-standing_among-requires
standing_at-standing_among-requires t c =
    let ready = ready_level c.args.profile.now c.keeps.ensures c.args.method c.args.arguments.now c.args.filling.now _ _ c.in-Some-level.ensures.found c.requires.1.1.1 in (
      (search rules),
      (ready.0, c.in-Some-level.ensures.shown.1.count),
    )

pub standing_at-returns : goal.standing_at-returns
standing_at-returns t c =
    let p = c.args.profile.now in
    let level = c.in-Some-level.level in
    ok_part_weaker (StandsAmong p c.args.path.now level.format.now (assignment_of level.known) c.args.filling.now)
    (StandsBelow p c.args.method c.args.arguments.now c.args.path.now c.args.filling.now) c.standing_among.result
    (λ s told. from_field p c.keeps.ensures c.args.method c.args.arguments.now c.args.path.now c.args.filling.now level.format.now level.known c.in-Some-level.ensures.found c.requires.1.1.1 told.0 told.1 s told.2 told.3)
    c.standing_among.ensures
