use Rattle.std.proofs.Common.{◌≡◌, ◌∙◌, ◌+◌, ◌/◌, ◌++◌, ap, arith, rules}
use Rattle.std.specs.Prelude.{slice_range}
use Rattle.sem_bits.specs.Octets.{bits_of}
use Rattle.sem_bits.proofs.Octets.{bits_of-push, IsBytes-push}
use Rattle.sem_bits.proofs.NumberWindows.{gather_more, gather_even}
use Rattle.std.proofs.lemmas.List.{length_push}
use Rattle.sem_bits.proofs.long.gather.Goals as goal

pub loop-i-preserved : goal.loop-i-preserved
loop-i-preserved c = (
  gather_more _ (bits_of c.loop-i.into.items) _ _ c.args.start c.loop-i.i c.loop-i.invariant.0 c.octet_at.result c.octet_at.ensures (ap bits_of c.push_reserved.ensures.items ∙ bits_of-push c.loop-i.into.items c.octet_at.result),
  (λ fit. rw c.push_reserved.ensures.items (IsBytes-push c.loop-i.into.items c.octet_at.result (c.loop-i.invariant.1 fit) (omega arith))),
  c.push_reserved.ensures.capacity ∙ c.loop-i.invariant.2,
  rw c.push_reserved.ensures.items (omega (arith, length_push c.loop-i.into.items c.octet_at.result, c.loop-i.invariant.3)),
)

pub returns-then-start-eq0-clause-bits : goal.returns-then-start-eq0-clause-bits
returns-then-start-eq0-clause-bits c =
    let e : c.extend_from_slice.new.self.items ≡ c.args.into.now.items ++ slice_range c.args.octets.now (c.args.start / 8) (c.args.start / 8 + c.args.many) = (search rules) in
    gather_even _ _ c.args.octets.now c.args.start c.args.many c.if-start-eq0.true c.requires.within e
