use Rattle.std.proofs.Common.{◌∙◌, sym, ap, drop}
use Rattle.std.proofs.lemmas.Option.{same_Some}
use Rattle.walk_write.proofs.CallsStarting.{offset_there, skipped}
use Rattle.walk_write.proofs.calls.header_from.Goals as goal

pub returns-in_default-clause-skips : goal.returns-in_default-clause-skips
returns-in_default-clause-skips c =
    let is = offset_there c.args.level.now.format c.args.level.now.slots c.args.field c.keeps.ensures.count c.requires.header c.requires.knows in
    absurd (c.in_default.not-Some _ (c.offset.ensures ∙ is))

pub returns-clause-skips : goal.returns-clause-skips
returns-clause-skips c =
    let is = offset_there c.args.level.now.format c.args.level.now.slots c.args.field c.keeps.ensures.count c.requires.header c.requires.knows in
    let same = same_Some c.in-Some.offset _ (sym c.in-Some.is ∙ (c.offset.ensures ∙ is)) in
    skipped c.args.source.now.left c.args.from c.in-Some.offset c.rest.result c.min.result c.requires.within c.rest.ensures.value c.min.ensures ∙ ap (λ n. drop n (drop c.args.from c.args.source.now.left)) same
