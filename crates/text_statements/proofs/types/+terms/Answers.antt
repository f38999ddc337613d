use Rattle.std.proofs.Common.{sym}
use Rattle.text_statements.specs.Means.{number, negative, truth, denial, arithmetic, comparison, conjunction, disjunction}
use Rattle.text_statements.proofs.MeansParts.{in_brackets}
use Rattle.text_statements.proofs.types.+terms.Goals as goal

pub term-returns-in_ok-within-in-Number-clause-means : goal.term-returns-in_ok-within-in-Number-clause-means
term-returns-in_ok-within-in-Number-clause-means t c = rw (c.in-Number.is, c.in_ok-within-in-Number.ensures.same, c.positive.ensures) number

pub term-returns-in_ok-within-in-Negative-clause-means : goal.term-returns-in_ok-within-in-Negative-clause-means
term-returns-in_ok-within-in-Negative-clause-means t c = rw (c.in-Negative.is, c.in_ok-within-in-Negative.ensures.same, c.negative.ensures) negative

pub term-returns-in-Truth-clause-means : goal.term-returns-in-Truth-clause-means
term-returns-in-Truth-clause-means t c = rw c.in-Truth.is truth

pub term-returns-in-Group-clause-means : goal.term-returns-in-Group-clause-means
term-returns-in-Group-clause-means t c = rw c.in-Group.is (in_brackets _ _ _ c.term.result (rw c.get.ensures at c.term.ensures.means))

pub term-returns-in_ok-new-in-Not-clause-means : goal.term-returns-in_ok-new-in-Not-clause-means
term-returns-in_ok-new-in-Not-clause-means t c =
    rw c.in-Not.is (denial (rw (c.get-in-Not.ensures, sym c.in_ok-new-in-Not.ensures.ok) at c.in_ok-inner-in-Not.ensures.means))

pub term-returns-in_ok-right-in-Comparison-clause-means : goal.term-returns-in_ok-right-in-Comparison-clause-means
term-returns-in_ok-right-in-Comparison-clause-means t c =
    rw c.in-Binary.is (comparison (sym c.in-Comparison.ensures)
    (rw c.get-in-Comparison.ensures at c.in_ok-left-in-Comparison.ensures.means)
    (rw c.get-in-Comparison-2.ensures at c.in_ok-right-in-Comparison.ensures.means))

pub term-returns-in_ok-within-in-Arithmetic-clause-means : goal.term-returns-in_ok-within-in-Arithmetic-clause-means
term-returns-in_ok-within-in-Arithmetic-clause-means t c =
    rw (c.in-Binary.is, c.in_ok-within-in-Arithmetic.ensures.same) (arithmetic (sym c.in-Arithmetic.ensures)
    (rw (c.get-in-Arithmetic.ensures, sym c.in_ok-left-in-Arithmetic.ensures.ok) at c.in_ok-number-in-Arithmetic.ensures.means)
    (rw (c.get-in-Arithmetic-2.ensures, sym c.in_ok-right-in-Arithmetic.ensures.ok) at c.in_ok-number-in-Arithmetic-2.ensures.means))

pub term-returns-in_ok-right-in-And-clause-means : goal.term-returns-in_ok-right-in-And-clause-means
term-returns-in_ok-right-in-And-clause-means t c =
    rw c.in-Binary.is (conjunction (sym c.in-And.ensures)
    (rw (c.get-in-And.ensures, sym c.in_ok-left-in-And.ensures.ok) at c.in_ok-condition-in-And.ensures.means)
    (rw (c.get-in-And-2.ensures, sym c.in_ok-right-in-And.ensures.ok) at c.in_ok-condition-in-And-2.ensures.means))

pub term-returns-in_ok-right-in-Or-clause-means : goal.term-returns-in_ok-right-in-Or-clause-means
term-returns-in_ok-right-in-Or-clause-means t c =
    rw c.in-Binary.is (disjunction (sym c.in-Or.ensures)
    (rw (c.get-in-Or.ensures, sym c.in_ok-left-in-Or.ensures.ok) at c.in_ok-condition-in-Or.ensures.means)
    (rw (c.get-in-Or-2.ensures, sym c.in_ok-right-in-Or.ensures.ok) at c.in_ok-condition-in-Or-2.ensures.means))

pub calculated_number-returns-in_ok-within-in-Arithmetic-clause-means : goal.calculated_number-returns-in_ok-within-in-Arithmetic-clause-means
calculated_number-returns-in_ok-within-in-Arithmetic-clause-means t c =
    rw (c.in-Binary.is, c.in_ok-within-in-Arithmetic.ensures.same) (arithmetic (sym c.in-Arithmetic.ensures)
    (rw (c.get.ensures, sym c.in_ok-left-in-Arithmetic.ensures.ok) at c.in_ok-number-in-Arithmetic.ensures.means)
    (rw (c.get-in-Arithmetic.ensures, sym c.in_ok-right-in-Arithmetic.ensures.ok) at c.in_ok-number-in-Arithmetic-2.ensures.means))
