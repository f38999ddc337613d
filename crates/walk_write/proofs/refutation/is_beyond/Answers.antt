use Rattle.std.proofs.Common.{rules, ◌≡◌, subst, ◌≤◌, ◌<◌, ◌^◌, to_z, of_z}
use Rattle.std.specs.Prelude.{SomeIff}
use mir.Syntax.{w128}
use Rattle.sem_bits.specs.Number.{enc}
use Rattle.walk_write.proofs.RefutationFronts.{beyond}
use Rattle.walk_write.proofs.refutation.is_beyond.Goals as goal

pub returns : goal.returns
returns c = λ t.
    let m = c.len-2.result in
    let there = subst (λ o. SomeIff o ((m ≤ 64) × (c.in-Some.number < 2 ^ m)) (enc m c.in-Some.number)) c.in-Some-2.is c.in_ok-found.ensures in
    let count_kept : to_z w128 (of_z w128 c.args.count) ≡ c.args.count = (search rules) in
    let offset_kept : to_z w128 (of_z w128 c.args.offset) ≡ c.args.offset = (search rules) in
    beyond c.args.count c.args.offset (to_z w128 (of_z w128 c.args.count)) (to_z w128 (of_z w128 c.args.offset)) c.args.reference.now c.args.source.now.left c.in-Some-2.found c.in_ok-lsb_down.field-0 c.args.begin c.len.result m
    c.in-Some.number count_kept offset_kept c.len.ensures.value c.len-2.ensures.value c.in-Some.ensures.1 there.1 c.in-None.is c.in_ok-lsb_down.ensures
