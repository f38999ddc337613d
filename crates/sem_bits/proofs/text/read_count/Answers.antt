use Rattle.std.proofs.Common.{◌≡◌, arith, sym, ◌∙◌}
use Rattle.std.proofs.lemmas.Fmt.{parse-decimal}
use Rattle.sem_bits.proofs.Texts.{count_read, count_plain}
use Rattle.sem_bits.proofs.text.read_count.Goals as goal

pub returns-in_default-clause-none : goal.returns-in_default-clause-none
returns-in_default-clause-none c = λ n k e. absurd (cc (parse-decimal 64 n _ _ (omega arith) (omega arith) e c.parse.ensures.value.0))

pub returns-then-count-gt-TEXT_LIMIT-clause-none : goal.returns-then-count-gt-TEXT_LIMIT-clause-none
returns-then-count-gt-TEXT_LIMIT-clause-none c = λ n k e.
    let read = parse-decimal 64 n _ _ (omega arith) (omega arith) e c.parse.ensures.value.0 in
    let same : n ≡ c.in-Ok.count = cc read in absurd (omega arith)

pub returns-then-is_plain-clause-found : goal.returns-then-is_plain-clause-found
returns-then-is_plain-clause-found c =
    let read = rw c.in-Ok.is at c.parse.ensures.value.0 in
    let plain = (rw c.as_bytes.ensures.value at c.is_plain.ensures).0 c.if-is_plain.true in
    (omega (arith, c.if-count-gt-TEXT_LIMIT.false), count_read c.args.text.now c.in-Ok.count read.0 read.1 plain.0 plain.1)

pub returns-else-is_plain-clause-none : goal.returns-else-is_plain-clause-none
returns-else-is_plain-clause-none c = λ n k e. absurd (cc (sym c.if-is_plain.false ∙ (rw c.as_bytes.ensures.value at c.is_plain.ensures).1 (count_plain c.args.text.now n (omega arith) e)))
