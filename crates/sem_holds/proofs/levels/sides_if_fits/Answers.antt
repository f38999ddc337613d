use Rattle.std.proofs.Common.{◌≡◌, subst, ◌≤◌, ◌^◌, inl, length}
use Rattle.std.specs.Prelude.{MatchOption}
use Rattle.sem_filling.specs.Fillings.{header}
use Rattle.sem_filling.proofs.FitsLimits.{never_long}
use Rattle.sem_holds.proofs.levels.sides_if_fits.Goals as goal

pub returns-in_default-clause-none : goal.returns-in_default-clause-none
returns-in_default-clause-none c = λ fit. never_long c.args.frame.now.profile.now c.keeps.ensures c.args.frame.now.method c.args.frame.now.arguments.now c.args.filling.now
    (inl (subst (λ o. MatchOption o (2 ^ 31 ≤ length (header c.args.filling.now)) (λ b. b ≡ header c.args.filling.now)) c.in_default.is c.in_ok-header.ensures)) _ _ fit
