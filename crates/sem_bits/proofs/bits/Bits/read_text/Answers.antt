use Rattle.std.proofs.Common.{◌∙◌, ap, sym, arith, length, Some, None, Ok}
use Rattle.std.specs.Prelude.{decimal}
use Rattle.std.proofs.lemmas.Str.Pattern.{split_parts}
use Rattle.sem_bits.proofs.Texts.{no_colon, read_parts, read_found, read_none, decoded_not, word_read}
use Rattle.sem_bits.proofs.bits.Bits.read_text.Goals as goal

pub returns-in_default-clause-none : goal.returns-in_default-clause-none
returns-in_default-clause-none c = λ b k r.
    let lacks = split_parts 58 c.args.text.now None (rw c.in_default.is at c.split_once.ensures.cases) (omega arith) in
    no_colon c.args.text.now (decimal (length b)) r.digits lacks r.spelled

pub returns-in_default-read_count-clause-none : goal.returns-in_default-read_count-clause-none
returns-in_default-read_count-clause-none c = λ b k r.
    let parts = split_parts 58 c.args.text.now (Some (c.in-Some.front, c.in-Some.digits)) c.in-Some.ensures.cases (omega arith) in
    let none = rw c.in_default-read_count.is at c.read_count.ensures.none in
    none (length b) k (read_parts _ _ _ b parts.0 parts.1 (omega arith) r).0

pub returns-then-count-le64-clause-none : goal.returns-then-count-le64-clause-none
returns-then-count-le64-clause-none c =
    let parts = split_parts 58 c.args.text.now (Some (c.in-Some.front, c.in-Some.digits)) c.in-Some.ensures.cases (omega arith) in
    let count = rw c.in-Some-read_count.is at c.read_count.ensures.found in
    word_read c.read_word.result _ _ _ _ parts.0 parts.1 count.1 c.if-count-le64.true c.read_word.ensures.none

pub returns-in_default-2-clause-none : goal.returns-in_default-2-clause-none
returns-in_default-2-clause-none c = λ b k r.
    let parts = split_parts 58 c.args.text.now (Some (c.in-Some.front, c.in-Some.digits)) c.in-Some.ensures.cases (omega arith) in
    decoded_not _ _ _ b parts.0 parts.1 (omega arith) (rw c.in_default-2.is at c.in_ok-octets.ensures.none) r

pub returns-clause-found : goal.returns-clause-found
returns-clause-found c =
    let parts = split_parts 58 c.args.text.now (Some (c.in-Some.front, c.in-Some.digits)) c.in-Some.ensures.cases (omega arith) in
    let count = rw c.in-Some-read_count.is at c.read_count.ensures.found in
    let octets = rw c.in-Some-2.is at c.in_ok-octets.ensures.found in
    read_found c.from_octets.result _ _ _ _ _ parts.0 count.1 count.0 (octets ∙ ap Ok (sym c.as_slice.ensures.value)) c.from_octets.ensures.found

pub returns-clause-none : goal.returns-clause-none
returns-clause-none c =
    let parts = split_parts 58 c.args.text.now (Some (c.in-Some.front, c.in-Some.digits)) c.in-Some.ensures.cases (omega arith) in
    let count = rw c.in-Some-read_count.is at c.read_count.ensures.found in
    let octets = rw c.in-Some-2.is at c.in_ok-octets.ensures.found in
    read_none c.from_octets.result _ _ _ _ _ parts.0 parts.1 count.1 count.0 (octets ∙ ap Ok (sym c.as_slice.ensures.value)) c.from_octets.ensures.none
