use Rattle.std.proofs.Common.{◌≡◌, ◌∙◌, ◌<◌, ◌≤◌, ap, arith, refl, sym, length, get_or}
use Rattle.std.proofs.lemmas.Option.{slice_get-get_or}
use Rattle.std.specs.Prelude.{slice_get, Some}
use Rattle.sem_profile.specs.declared.profile.Field.{Field}
use Rattle.sem_filling.specs.Fillings.{sides_of}
use Rattle.sem_filling.proofs.Each.{before_next, before_end}
use Rattle.sem_holds.proofs.ShapeLemmas.{declared_alike, declared_at}
use Rattle.sem_holds.proofs.shape.are_declared.Goals as goal

pub returns-then-not-is_declared : goal.returns-then-not-is_declared
returns-then-not-is_declared c =
    let within : c.loop-i.i < length c.args.filled.now = omega (arith, c.loop-i-test.true, c.if-fields-filled.false) in
    let filled = slice_get-get_or c.args.filled.now c.loop-i.i c.index-filled-i.result within in
    let field = slice_get-get_or c.args.fields.now c.loop-i.i c.index-fields-i.result c.loop-i-test.true in
    (λ w. absurd cc, λ same. c.if-not-is_declared.ensures.1 (declared_at c.args.filled.now c.args.fields.now c.loop-i.i _ _ same filled field))

pub loop-i-preserved : goal.loop-i-preserved
loop-i-preserved c =
    let within : c.loop-i.i < length c.args.filled.now = omega (arith, c.loop-i-test.true, c.if-fields-filled.false) in
    let filled = slice_get-get_or c.args.filled.now c.loop-i.i c.index-filled-i.result within in
    let field = slice_get-get_or c.args.fields.now c.loop-i.i c.index-fields-i.result c.loop-i-test.true in
    before_next (λ j g. (d : Field) → slice_get c.args.fields.now j ≡ Some d → (sides_of g).declared ≡ d.declared) c.args.filled.now _ _ filled
    (λ d at.
    let one : Some (get_or c.args.fields.now c.loop-i.i c.index-fields-i.result) ≡ Some d = sym field ∙ at in
    let same : get_or c.args.fields.now c.loop-i.i c.index-fields-i.result ≡ d = cc in
    c.if-not-is_declared.ensures.0 refl ∙ ap (λ x. x.declared) same)
    c.loop-i.invariant

pub returns : goal.returns
returns c =
    let past : length c.args.filled.now ≤ c.loop-i.i = omega (arith, c.loop-i-test.false, c.if-fields-filled.false) in (
      λ t. declared_alike c.args.filled.now c.args.fields.now c.if-fields-filled.false
          (before_end (λ j g. (d : Field) → slice_get c.args.fields.now j ≡ Some d → (sides_of g).declared ≡ d.declared) c.args.filled.now _ past c.loop-i.invariant),
      λ same. refl,
    )
