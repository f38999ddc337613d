use Rattle.std.proofs.Common.{rules, sym, ap, ◌∙◌}
use Rattle.std.specs.Option.{option_copied}
use Rattle.sem_profile.specs.declared.profile.Bounds.{Bounds}
use Rattle.sem_reasons.specs.Settings.{setting_of}
use Rattle.sem_reasons.proofs.ReasonsMaking.{long_is, short_is}
use Rattle.sem_reasons.proofs.verdicts.of_length.Goals as goal

pub returns-then-length-bounds : goal.returns-then-length-bounds
returns-then-length-bounds c =
    short_is (setting_of c.args.question.now) c.args.format c.in-Some.sizes.now (sym c.sizes_of.ensures ∙ ap option_copied c.in-Some.is) c.len-length.result c.whole_bounds-bounds.result.least
    c.len-length.ensures.value (ap (λ (b : Bounds). b.least) c.whole_bounds-bounds.ensures) (search rules)

pub returns-then-bounds-length : goal.returns-then-bounds-length
returns-then-bounds-length c =
    long_is (setting_of c.args.question.now) c.args.format c.in-Some.sizes.now (sym c.sizes_of.ensures ∙ ap option_copied c.in-Some.is) (search rules) c.len-length.result c.whole_bounds-bounds.result.most
    c.len-length.ensures.value (ap (λ (b : Bounds). b.most) c.whole_bounds-bounds.ensures) (search rules)
