use Rattle.text_statements.specs.Conjuncts.{both}
use Rattle.text_statements.proofs.enforce.+conjuncts.Goals as goal

pub returns-in_ok-append-in-And-clause-means : goal.returns-in_ok-append-in-And-clause-means
returns-in_ok-append-in-And-clause-means t c =
    rw (c.in-Binary.is, c.in-And.is, c.in_ok-append-in-And.ensures)
    (both (rw c.get.ensures at c.in_ok-found-in-And.ensures.means) (rw c.get-in-And.ensures at c.in_ok-conjuncts-in-And.ensures.means))
