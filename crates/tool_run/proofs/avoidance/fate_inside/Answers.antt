use Rattle.std.proofs.Common.{refl, sym, subst}
use Rattle.tool_run.specs.Avoidance.{HasName, IsPart}
use Rattle.tool_run.proofs.avoidance.fate_inside.Goals as goal

pub returns-then-taken-format : goal.returns-then-taken-format
returns-then-taken-format c =
    let part : IsPart c.args.sought.now.accepted.now.profile c.args.best.now.packed.filling c.args.path.now c.in-Some.part = rw c.profile-profile.ensures at (rw c.in-Some.is at c.in_ok-part.ensures) in
    let name : HasName c.args.sought.now.accepted.now.profile c.in-Some.part.method c.in-Some-format_in.format c.args.name.now = rw c.profile-profile.ensures at c.in-Some-format_in.ensures in (
      c.args.best.now.packed,
      c.requires.best,
      (c.in-Some.part, part, subst (λ n. HasName c.args.sought.now.accepted.now.profile c.in-Some.part.method n c.args.name.now) (sym c.if-taken-format.true) name),
    )

pub lines_inside-requires-clause-lie : goal.lines_inside-requires-clause-lie
lines_inside-requires-clause-lie c =
    let part : IsPart c.args.sought.now.accepted.now.profile c.args.best.now.packed.filling c.args.path.now c.in-Some.part = rw c.profile-profile.ensures at (rw c.in-Some.is at c.in_ok-part.ensures) in
    part.0.1

pub returns-in-Some-3 : goal.returns-in-Some-3
returns-in-Some-3 c =
    let part : IsPart c.args.sought.now.accepted.now.profile c.args.best.now.packed.filling c.args.path.now c.in-Some.part = rw c.profile-profile.ensures at (rw c.in-Some.is at c.in_ok-part.ensures) in
    let name : HasName c.args.sought.now.accepted.now.profile c.in-Some.part.method c.in-Some-format_in.format c.args.name.now = rw c.profile-profile.ensures at c.in-Some-format_in.ensures in (
      c.args.best.now.packed,
      c.requires.best,
      (c.in-Some.part, part, refl, refl, c.in-Some-format_in.format, name, c.if-taken-format.false),
      rw c.in-Some-3.is at c.in_ok-bits.ensures,
    )

pub returns : goal.returns
returns c =
    let part : IsPart c.args.sought.now.accepted.now.profile c.args.best.now.packed.filling c.args.path.now c.in-Some.part = rw c.profile-profile.ensures at (rw c.in-Some.is at c.in_ok-part.ensures) in
    let name : HasName c.args.sought.now.accepted.now.profile c.in-Some.part.method c.in-Some-format_in.format c.args.name.now = rw c.profile-profile.ensures at c.in-Some-format_in.ensures in (
      c.args.best.now.packed,
      c.requires.best,
      (c.in-Some.part, part, refl, refl, c.in-Some-format_in.format, name, c.if-taken-format.false, rw c.in-Some-2.is at c.in_ok-lines.ensures),
    )
