use Rattle.std.proofs.Common.{◌≡◌, sym, subst, false, ◌≤◌, ◌^◌, inl, inr, length}
use Rattle.sem_context.specs.Entries.{bits_at}
use Rattle.sem_expr.specs.Known.{assignment_of}
use Rattle.sem_filling.specs.Fits.{Fits}
use Rattle.sem_filling.specs.Ready.{AllFit, IsShown, HasLevel}
use Rattle.sem_holds.proofs.LevelsFit.{ready_level}
use Rattle.sem_holds.proofs.LevelsAlike.{all_fit}
use Rattle.sem_filling.proofs.FitsLimits.{never_long}
use Rattle.sem_filling.specs.Fillings.{header, packed}
use Rattle.sem_filling.proofs.Coded.{ok_weaker}
use Rattle.sem_holds.proofs.LevelsFields.{not_where_false}
use Rattle.sem_filling.proofs.FitsJudged.{fitting}
use Rattle.std.specs.Prelude.{Option, Some, IfSome, MatchOption}
use Rattle.sem_holds.specs.declared.level.Level.{Level}
use Rattle.sem_holds.proofs.levels.level_fits.Goals as goal

-- what the level of a filling is
shown_level : {o : Option Level} {l : Level} (P : Level → Type 0) → o ≡ Some l → IfSome o P → P l
shown_level {o} {l} P is all = subst (λ x. IfSome x P) is all

pub plain_fields_hold-requires-clause-ready : goal.plain_fields_hold-requires-clause-ready
plain_fields_hold-requires-clause-ready c =
    let found = shown_level (λ l. HasLevel c.args.frame.now.profile.now c.args.frame.now.method c.args.frame.now.arguments.now c.args.filling.now l.format.now l.known) c.in-Some-level.is c.level_of-level.ensures.found in
    (ready_level c.args.frame.now.profile.now c.keeps.ensures c.args.frame.now.method c.args.frame.now.arguments.now c.args.filling.now _ _ found c.requires.arguments).0

pub returns : goal.returns
returns c =
    let p = c.args.frame.now.profile.now in
    let f = c.args.filling.now in
    let ctx = bits_at c.args.frame.now.context.now in
    let shown = shown_level (λ l. (l.filling.now ≡ f) × IsShown l.format.now f l.header.now l.packed.now) c.in-Some-level.is c.level_of-level.ensures.shown in
    let found = shown_level (λ l. HasLevel p c.args.frame.now.method c.args.frame.now.arguments.now f l.format.now l.known) c.in-Some-level.is c.level_of-level.ensures.found in
    let a = assignment_of c.in-Some-level.level.known in
    ok_weaker (λ b. b ≡ false → AllFit p.methods ctx c.args.frame.now.path.now c.in-Some-level.level.format.now c.in-Some-level.level.filling.now a → ⊥)
    (λ b. b ≡ false → Fits p.methods ctx c.args.frame.now.method c.args.frame.now.arguments.now c.args.frame.now.path.now f → ⊥) c.plain_fields_hold.result
    (λ b never e fit. never e (subst (λ g. AllFit p.methods ctx c.args.frame.now.path.now c.in-Some-level.level.format.now g a) (sym shown.0)
    (all_fit p c.keeps.ensures c.args.frame.now.method c.args.frame.now.arguments.now f c.in-Some-level.level.format.now c.in-Some-level.level.known found c.requires.arguments ctx c.args.frame.now.path.now fit)))
    c.plain_fields_hold.ensures

pub returns-in_default : goal.returns-in_default
returns-in_default c = λ e fit. never_long c.args.frame.now.profile.now c.keeps.ensures c.args.frame.now.method c.args.frame.now.arguments.now c.args.filling.now
    (inl (subst (λ o. MatchOption o (2 ^ 31 ≤ length (header c.args.filling.now)) (λ b. b ≡ header c.args.filling.now)) c.in_default.is c.in_ok-header.ensures)) _ _ fit

pub returns-in_default-2 : goal.returns-in_default-2
returns-in_default-2 c = λ e fit. never_long c.args.frame.now.profile.now c.keeps.ensures c.args.frame.now.method c.args.frame.now.arguments.now c.args.filling.now
    (inr (subst (λ o. MatchOption o (2 ^ 31 ≤ length (packed c.args.filling.now)) (λ b. b ≡ packed c.args.filling.now)) c.in_default-2.is c.in_ok-packed.ensures)) _ _ fit

pub returns-then-not-level_holds : goal.returns-then-not-level_holds
returns-then-not-level_holds c =
    let found = shown_level (λ l. HasLevel c.args.frame.now.profile.now c.args.frame.now.method c.args.frame.now.arguments.now c.args.filling.now l.format.now l.known) c.in-Some-level.is c.level_of-level.ensures.found in
    λ e fit. not_where_false c.level_holds.result c.level_holds.ensures c.if-not-level_holds.true (fitting c.in-Some-level.level.format.now found.level.place.format_is fit).level_fits
