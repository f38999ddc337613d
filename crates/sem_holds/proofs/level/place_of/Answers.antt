use Rattle.std.proofs.Common.{◌∙◌, sym, ap}
use Rattle.std.specs.Option.{option_copied}
use Rattle.sem_filling.proofs.FitsJudged.{never_unsized}
use Rattle.sem_holds.proofs.level.place_of.Goals as goal

pub returns-in_err-sizes-clause-none : goal.returns-in_err-sizes-clause-none
returns-in_err-sizes-clause-none c =
    absurd (never_unsized c.args.profile.now.methods c.args.profile.now.sizes c.keeps.ensures.sized _ _ _
    (sym c.format_of.ensures ∙ ap option_copied c.in_ok-format.was) (sym c.sizes_of.ensures ∙ ap option_copied c.in_err-sizes.was))
