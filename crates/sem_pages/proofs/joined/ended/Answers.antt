use Rattle.std.proofs.Common.{◌≡◌, ◌∙◌, ◌+◌, ◌*◌, ◌/◌, ◌++◌, ap, length, rules, subst, sym, take, Bool, List}
use Rattle.sem_bits.specs.Octets.{Holds}
use Rattle.sem_pages.proofs.Words.{held_joined, word_is, word_within}
use Rattle.sem_pages.proofs.joined.ended.Goals as goal

pub octets_of-last-requires-clause-below : goal.octets_of-last-requires-clause-below
octets_of-last-requires-clause-below c = (word_within c.args.tail.now c.len-3.result c.value.result c.len-3.ensures.value c.len-3.ensures.limit c.value.ensures).1

pub returns : goal.returns
returns c =
    let found = rw c.in-Some-2.is at c.in_ok-bits.ensures.found in
    let whole : length c.in-Some-2.bits ≡ 8 * length c.args.octets.items + length c.args.tail.now = found.0 ∙ (search rules) in
    let last = take ((c.len-3.result + 7) / 8) c.octets_of-last.result in
    let same : c.len-4.result ≡ c.len-3.result = c.len-4.ensures.value ∙ sym c.len-3.ensures.value in
    let held : Holds last c.args.tail.now = subst (λ (b : List Bool). Holds last b) (word_is c.args.tail.now c.len-3.result c.value.result c.len-3.ensures.value c.value.ensures) c.octets_of-last.ensures in
    held_joined c.args.octets.items c.as_slice.result.now last c.args.tail.now c.in-Some-2.bits c.requires held
    (c.as_slice.ensures.value ∙ c.in_ok-extend_from_slice.ensures.items ∙ ap (λ k. c.args.octets.items ++ take ((k + 7) / 8) c.octets_of-last.result) same) found.1 whole
