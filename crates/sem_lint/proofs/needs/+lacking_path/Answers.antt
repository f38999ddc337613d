use Rattle.std.proofs.Common.{sym, ap, ◌∙◌, arith, subst}
use Rattle.sem_lint.specs.Paths.{called_by}
use Rattle.sem_lint.specs.NeedsTold.{FieldLacks}
use Rattle.sem_lint.proofs.NeedsLacking.{inner_holds, inside_lacks, own_lacks}
use Rattle.sem_lint.proofs.needs.+lacking_path.Goals as goal

pub returns-then-depth-eq0 : goal.returns-then-depth-eq0
returns-then-depth-eq0 t c = own_lacks c.args.ground.now c.requires.1.1.0 c.args.known.now.flags c.requires.1.1.1.0 c.args.path.now c.args.method c.args.lack.format c.args.lack.field c.in-Some.field.now _ c.requires.1.1.1.1.0 c.requires.1.1.1.1.1.0 (sym c.in-Some.ensures) (rw c.as_str-name.ensures at c.in_ok-own.ensures)

pub returns-in_default-called_by : goal.returns-in_default-called_by
returns-in_default-called_by t c = own_lacks c.args.ground.now c.requires.1.1.0 c.args.known.now.flags c.requires.1.1.1.0 c.args.path.now c.args.method c.args.lack.format c.args.lack.field c.in-Some.field.now _ c.requires.1.1.1.1.0 c.requires.1.1.1.1.1.0 (sym c.in-Some.ensures) (rw c.as_str-name.ensures at c.in_ok-own.ensures)

pub returns-in_default-2 : goal.returns-in_default-2
returns-in_default-2 t c = own_lacks c.args.ground.now c.requires.1.1.0 c.args.known.now.flags c.requires.1.1.1.0 c.args.path.now c.args.method c.args.lack.format c.args.lack.field c.in-Some.field.now _ c.requires.1.1.1.1.0 c.requires.1.1.1.1.1.0 (sym c.in-Some.ensures) (rw c.as_str-name.ensures at c.in_ok-own.ensures)

pub lacking_path-requires : goal.lacking_path-requires
lacking_path-requires t c = (
  omega (arith, c.requires.1.0, c.if-depth-eq0.false),
  (
    c.requires.1.1.0,
    (
      c.requires.1.1.1.0,
      (
        inner_holds c.args.ground.now c.requires.1.1.0 c.args.known.now.flags c.requires.1.1.1.0 c.args.path.now c.args.method c.args.lack.format c.args.lack.field c.in-Some-called_by.called c.in-Some.field.now c.as_str-2.result.now c.requires.1.1.1.1.0 c.requires.1.1.1.1.1.0 (sym c.in-Some.ensures) (ap called_by (sym c.get.ensures) ∙ sym c.in-Some-called_by.ensures)
            (c.as_str-2.ensures.value ∙ rw c.as_str-name.ensures at c.in_ok-inner.ensures),
        (
          subst (λ p. FieldLacks c.args.ground.now c.args.known.now.flags p c.in-Some-called_by.called c.in-Some-2.next.format c.in-Some-2.next.field) (c.as_str.ensures.value ∙ sym c.as_str-2.ensures.value) (rw c.in-Some-2.is at c.in_ok-next.ensures),
          c.requires.1.1.1.1.1.1,
        ),
      ),
    ),
  ),
)

pub returns : goal.returns
returns t c =
    inside_lacks c.args.ground.now c.requires.1.1.0 c.args.known.now.flags c.requires.1.1.1.0 c.args.path.now c.args.method c.args.lack.format c.args.lack.field c.in-Some-called_by.called c.in-Some-2.next.format c.in-Some-2.next.field c.in-Some.field.now c.as_str-2.result.now _ c.requires.1.1.1.1.0 c.requires.1.1.1.1.1.0 (sym c.in-Some.ensures) (ap called_by (sym c.get.ensures) ∙ sym c.in-Some-called_by.ensures)
    (c.as_str-2.ensures.value ∙ rw c.as_str-name.ensures at c.in_ok-inner.ensures)
    (subst (λ p. FieldLacks c.args.ground.now c.args.known.now.flags p c.in-Some-called_by.called c.in-Some-2.next.format c.in-Some-2.next.field) (c.as_str.ensures.value ∙ sym c.as_str-2.ensures.value) (rw c.in-Some-2.is at c.in_ok-next.ensures)) c.in_ok-told.ensures
