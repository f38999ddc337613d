use Rattle.std.proofs.Common.{◌≡◌, map}
use Rattle.tool_input.proofs.inputs.pieces.Given as goal

abbrev pub invariant-loop-word : goal.invariant-loop-word
invariant-loop-word l =
    map (λ x. x.now) l.words.items ≡ map (λ x. x.now) l.yielded
