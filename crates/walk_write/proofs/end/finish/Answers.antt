use Rattle.std.proofs.Common.{sym, subst}
use Rattle.sem_context.specs.Entries.{bits_at}
use Rattle.sem_filling.specs.Fits.{Fits}
use Rattle.sem_filling.specs.Ready.{ArgumentsLieAt}
use Rattle.walk_steps.specs.Partial.{Lacks}
use Rattle.cert_rules.specs.Reading.{IsMade}
use Rattle.walk_write.proofs.Ended.{method_within, ended, ended_fails, lacking_fails, some_made, none_made}
use Rattle.walk_write.proofs.end.finish.Goals as goal

pub returns-in_default-clause-fault : goal.returns-in_default-clause-fault
returns-in_default-clause-fault c = λ source asked n g.
    lacking_fails c.args.accepted.now c.args.level_frame.now source asked c.requires.ended.serves n c.args.digits c.args.level g
    (none_made (Lacks c.args.level.slots) c.in_ok-filling.field-0 c.in_default.not-Some c.in_ok-filling.ensures.none) c.alike.result

pub level_fits-requires-clause-within : goal.level_fits-requires-clause-within
level_fits-requires-clause-within c =
    let g = c.requires.ended.going in
    method_within c.args.level_frame.now.frame.profile.now.methods c.args.level_frame.now.frame.method c.args.level_frame.now.format c.args.level.format g.at.format_is

pub level_fits-requires-clause-arguments : goal.level_fits-requires-clause-arguments
level_fits-requires-clause-arguments c = subst (ArgumentsLieAt c.args.level_frame.now.frame.profile.now c.args.level_frame.now.frame.method) (sym c.requires.same) c.requires.ended.going.lie

pub returns-then-is_empty-clause-found : goal.returns-then-is_empty-clause-found
returns-then-is_empty-clause-found c = λ source asked n g.
    ended c.args.accepted.now c.args.level_frame.now source asked c.requires.ended.serves n c.args.digits c.args.level g c.in-Some.filling
    (some_made (IsMade c.args.level_frame.now.format c.args.level.format c.args.level.slots) c.in_ok-filling.field-0 c.in-Some.filling c.in-Some.is c.in_ok-filling.ensures.made)

pub returns-then-branch-clause-found : goal.returns-then-branch-clause-found
returns-then-branch-clause-found c = λ source asked n g.
    ended c.args.accepted.now c.args.level_frame.now source asked c.requires.ended.serves n c.args.digits c.args.level g c.in-Some.filling
    (some_made (IsMade c.args.level_frame.now.format c.args.level.format c.args.level.slots) c.in_ok-filling.field-0 c.in-Some.filling c.in-Some.is c.in_ok-filling.ensures.made)

pub returns-else-branch-clause-fault : goal.returns-else-branch-clause-fault
returns-else-branch-clause-fault c = λ source asked n g.
    ended_fails c.args.accepted.now c.args.level_frame.now source asked c.requires.ended.serves n c.args.digits c.args.level g c.in-Some.filling
    (some_made (IsMade c.args.level_frame.now.format c.args.level.format c.args.level.slots) c.in_ok-filling.field-0 c.in-Some.filling c.in-Some.is c.in_ok-filling.ensures.made)
    (λ fits. c.in_ok-level_fits.ensures c.if-branch.false
    (subst (λ z. Fits c.args.level_frame.now.frame.profile.now.methods (bits_at c.args.level_frame.now.frame.context.now) c.args.level_frame.now.frame.method z c.args.level_frame.now.frame.path.now c.in-Some.filling) (sym c.requires.same) fits))
    c.alike.result c.alike.ensures.count c.alike.ensures.share
