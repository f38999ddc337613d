use Rattle.std.proofs.Common.{◌∙◌, sym, ap, subst}
use Rattle.std.specs.Prelude.{IfOk}
use Rattle.sem_profile.specs.Resolved.{Resolved}
use Rattle.sem_lint.specs.Listing.{AreDead}
use Rattle.sem_lint.proofs.formats.dead_formats.Goals as goal

pub dead_in-requires : goal.dead_in-requires
dead_in-requires c = c.methods.ensures ∙ ap (λ (q : Resolved). q.methods) (sym c.in_ok-judged.ensures)

pub returns : goal.returns
returns c = record { found = subst (λ (q : Resolved). IfOk c.dead_in.result (AreDead q 0 0)) c.in_ok-judged.ensures c.dead_in.ensures }
