use Rattle.std.proofs.Common.{◌∙◌, ap, sym}
use Rattle.std.specs.Option.{option_copied}
use Rattle.cert_compiled.proofs.Looking.{header_after, other_after}
use Rattle.cert_compiled.proofs.looks.offset_after.Goals as goal

pub returns-then-not-is_header : goal.returns-then-not-is_header
returns-then-not-is_header c = other_after c.args.before c.in_ok-before.before c.args.field.now (option_copied c.args.bounds) c.in_ok-before.was (sym c.is_header.ensures ∙ c.if-not-is_header.true)

pub returns : goal.returns
returns c =
    header_after c.args.before c.in_ok-before.before c.in_ok-only_length.field-0 c.args.field.now (option_copied c.args.bounds) c.in_ok-own.own.now _ c.checked_add.result c.in_ok-before.was (sym c.is_header.ensures ∙ c.if-not-is_header.false)
    (ap option_copied c.in_ok-own.was) c.in_ok-only_length.ensures.0 c.in_ok-only_length.ensures.1 c.checked_add.ensures
