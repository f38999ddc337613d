use Rattle.std.proofs.Common.{◌≡◌, ◌++◌}
use Rattle.std.specs.List.{flat_map}
use Rattle.std.specs.Prelude.{string_bytes}
use Rattle.tool_input.specs.Bundle.{shown_character}
use Rattle.tool_input.proofs.bundle.push_front.Given as goal

abbrev pub invariant-loop-character : goal.invariant-loop-character
invariant-loop-character l = string_bytes l.shown ≡ string_bytes l.fn.shown ++ flat_map shown_character l.yielded
