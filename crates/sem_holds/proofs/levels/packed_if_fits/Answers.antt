use Rattle.std.proofs.Common.{◌≡◌, subst, ◌≤◌, ◌^◌, inr, length}
use Rattle.std.specs.Prelude.{MatchOption}
use Rattle.sem_filling.specs.Fillings.{packed}
use Rattle.sem_filling.proofs.FitsLimits.{never_long}
use Rattle.sem_holds.proofs.levels.packed_if_fits.Goals as goal

pub returns-in_default-clause-none : goal.returns-in_default-clause-none
returns-in_default-clause-none c = λ fit. never_long c.args.frame.now.profile.now c.keeps.ensures c.args.frame.now.method c.args.frame.now.arguments.now c.args.filling.now
    (inr (subst (λ o. MatchOption o (2 ^ 31 ≤ length (packed c.args.filling.now)) (λ b. b ≡ packed c.args.filling.now)) c.in_default.is c.in_ok-packed.ensures)) _ _ fit
