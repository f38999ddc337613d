use Rattle.text_statements.specs.Conjuncts.{single}
use Rattle.text_statements.proofs.enforce.one.Goals as goal

pub returns-clause-means : goal.returns-clause-means
returns-clause-means c =
    rw (c.in_ok-push.ensures.ok, c.new-found.ensures, c.in_ok-new-2.ensures, c.in_ok-new.ensures) (single c.requires c.in_ok-condition.ensures.means c.span.ensures)
