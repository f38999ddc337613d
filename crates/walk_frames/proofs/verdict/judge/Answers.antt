use Rattle.std.proofs.Common.{refl, rules, length, ◌*◌}
use Rattle.hex.specs.Hex.{IsBytes}
use Rattle.walk_frames.proofs.Judgements.{never_none, whole_bits}
use Rattle.walk_frames.proofs.verdict.judge.Goals as goal

pub unreachable-requires : goal.unreachable-requires
unreachable-requires c =
    let fit : IsBytes c.args.body.now = λ i. (search (rules, c.type_inv.body i)) in
    never_none c.args.body.now (length c.args.body.now * 8) fit refl c.requires (rw c.in_default.is at c.in_ok-bits.ensures.none)

pub read_by_page-requires : goal.read_by_page-requires
read_by_page-requires c =
    let held = rw c.in-Some.is at c.in_ok-bits.ensures.found in
    (held.1, whole_bits c.args.body.now c.in-Some.bits _ held.0 refl held.1)

pub judge_read-requires : goal.judge_read-requires
judge_read-requires c =
    let held = rw c.in-Some.is at c.in_ok-bits.ensures.found in
    (held.1, whole_bits c.args.body.now c.in-Some.bits _ held.0 refl held.1)
