use Rattle.std.proofs.Common.{◌≡◌, ◌∙◌, ◌++◌, ◌∷◌, [], ◌+◌, ◌-◌, ◌/◌, ◌%◌, ◌^◌, ◌<◌, get_or, length, arith, ap, sym, subst, rules, List, ℕ}
use Rattle.hex.specs.Hex.{IsBytes}
use Rattle.sem_bits.proofs.Octets.{IsBytes-push}
use Rattle.sem_bits.specs.Octets.{bits_of}
use Rattle.std.proofs.lemmas.List.{length_push}
use Rattle.sem_bits.proofs.NumberWindows.{join_odd, front_bytes}
use Rattle.sem_bits.proofs.long.join.Goals as goal

pub returns-in-Some-clause-ok : goal.returns-in-Some-clause-ok
returns-in-Some-clause-ok c = λ a b h k u n.
    let first = c.octet_or_zero.ensures in
    let now = c.in_ok-reserve.ensures.items in
    let e : c.push_reserved.new.self.items ≡ c.pop.new.self.items ++ ((c.in-Some.last + get_or c.args.octets.now 0 0 / 2 ^ c.args.used) % 256) ∷ [] = (search rules) in
    let more : bits_of c.gather.new.into.items ≡ _ = rw e at c.gather.ensures.bits in
    let small : c.in-Some.last < 256 = omega arith in
    let fits : get_or c.args.octets.now 0 0 < 256 = omega (arith, first) in
    let old : c.args.into.now.items ≡ c.pop.new.self.items ++ c.in-Some.last ∷ [] = sym now ∙ c.in-Some.ensures.items in
    let bytes : IsBytes (c.pop.new.self.items ++ c.in-Some.last ∷ []) = let P : List ℕ → Type 0 = λ x. IsBytes x in subst P old h.octets_fit in
    let pushed : IsBytes c.push_reserved.new.self.items = rw e (IsBytes-push c.pop.new.self.items _ (front_bytes _ _ bytes) (omega arith)) in
    let p = ap length old ∙ length_push c.pop.new.self.items c.in-Some.last in
    let q = ap length e ∙ length_push c.pop.new.self.items _ in
    let held = c.len.ensures.value in
    let count = c.gather.ensures.count in
    let many : length c.gather.new.into.items ≡ length c.args.into.now.items + (c.args.end - c.len.result) = omega (arith, p, q, count) in
    join_odd c.args.into.now.items c.pop.new.self.items c.gather.new.into.items c.args.octets.now c.in-Some.last c.args.used (c.args.end - c.len.result) a b h k old u (omega (arith, c.if-used-eq0.false)) small fits more (c.gather.ensures.fits pushed) many (omega (arith, many, held, c.requires.upto, n))
