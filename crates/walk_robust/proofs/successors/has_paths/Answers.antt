use Rattle.std.proofs.Common.{arith}
use Rattle.std.specs.Map.{keys_of}
use Rattle.sem_context.specs.Placing.{shown}
use Rattle.walk_robust.proofs.Comings.{length-keys, length-shown}
use Rattle.walk_robust.proofs.Sparing.{same_all}
use Rattle.walk_robust.proofs.successors.has_paths.Goals as goal

pub returns : goal.returns
returns c = λ t. record {
  distinct = c.len.ensures.distinct;
  paths_are =
      let own = length-keys c.args.context.now in
      let left = length-keys (shown c.args.left.now) in
      let all = length-shown c.args.left.now in
      let len = c.len.ensures.value in
      let same = c.if-len-left.false in
      let end = c.len-place-end.ensures.value in
      let past = c.loop-place-test.false in
      same_all (keys_of c.args.context.now) (keys_of (shown c.args.left.now)) c.loop-place.place (omega (arith, own, left, all, len, same)) (omega (arith, own, end, past)) c.loop-place.invariant;
}
