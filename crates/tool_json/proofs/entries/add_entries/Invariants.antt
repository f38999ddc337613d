use Rattle.std.proofs.Common.{◌≡◌, ◌++◌, map}
use Rattle.std.specs.Prelude.{flat_map}
use Rattle.tool_json.specs.Entries.{after_heading, entry_tokens, has_heading}
use Rattle.tool_json.proofs.entries.add_entries.Given as goal

abbrev pub invariant-loop-line : goal.invariant-loop-line
invariant-loop-line l = (l.found ≡ has_heading (map (λ x. x.now) l.yielded)) × (l.object ≡ l.fn.object ++ flat_map entry_tokens (after_heading (map (λ x. x.now) l.yielded)))
