use Rattle.std.proofs.Common.{◌++◌, ◌∙◌, ap, sym, map-id}
use Rattle.std.specs.List.{flat_map}
use Rattle.std.specs.Prelude.{string_bytes}
use Rattle.std.proofs.lemmas.Iterator.{YieldsList-from_chars, YieldsList-from_take}
use Rattle.std.proofs.lemmas.Iterator.Consumers.{YieldsList-end}
use Rattle.tool_input.specs.Bundle.{shown_character}
use Rattle.tool_input.proofs.bundle.push_front.Goals as goal

pub returns : goal.returns
returns c =
    let end = YieldsList-end (YieldsList-from_take 80 (YieldsList-from_chars c.args.text.now c.utf8.text cc) cc) c.loop-character.yielded _ c.loop-character.yielded_by _ _ c.in-None.is c.next.ensures.steps in
    c.loop-character.invariant ∙ ap (λ cs. string_bytes c.args.shown.now ++ flat_map shown_character cs) (sym (map-id c.loop-character.yielded) ∙ end.0)
