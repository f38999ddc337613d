use Rattle.std.proofs.Common.{◌≡◌, ◌+◌, rules, vec_len}
use Rattle.tool_input.proofs.CountedReads.{counted_on}
use Rattle.tool_input.proofs.input.read_more.Goals as goal

pub returns-in_ok-extend_from_slice-in-Ok-clause-counted : goal.returns-in_ok-extend_from_slice-in-Ok-clause-counted
returns-in_ok-extend_from_slice-in-Ok-clause-counted g c =
    let size : vec_len c.extend_from_slice.new.self ≡ vec_len c.args.input.now + c.in-Ok.count = search rules in
    λ some. counted_on _ _ _ c.in-Ok.count (vec_len c.args.input.now) _ c.in-Ok.ensures.counted c.requires.counted size some
