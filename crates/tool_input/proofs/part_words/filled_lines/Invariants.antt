use Rattle.std.proofs.Common.{◌≡◌, ◌==◌, filter, length, map}
use Rattle.std.specs.Prelude.{not}
use Rattle.tool_input.proofs.part_words.filled_lines.Given as goal

abbrev pub invariant-loop-line : goal.invariant-loop-line
invariant-loop-line l =
    map (λ x. x.now) l.found.items ≡ filter (λ line. not (length line == 0)) (map (λ x. x.now) l.yielded)
