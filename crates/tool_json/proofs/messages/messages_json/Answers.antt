use Rattle.std.proofs.Common.{rules, ◌≡◌, ◌∙◌, ap, sym, lit<}
use Rattle.std.specs.Prelude.{flat_map}
use Rattle.std.proofs.lemmas.List.{map-append}
use Rattle.std.proofs.lemmas.List.Concat.{flat_map-append}
use Rattle.std.proofs.lemmas.Iterator.Consumers.{YieldsList-end}
use Rattle.std.proofs.lemmas.Iterator.Splits.{YieldsList-from_str_split}
use Rattle.tool_json.specs.MessageObjects.{line_json}
use Rattle.tool_json.proofs.messages.messages_json.Goals as goal

pub returns : goal.returns
returns c =
    let split = YieldsList-from_str_split {s = c.split-line-items.result} 10 c.args.text.now (lit< tt) c.split-line-items.ensures.text c.split-line-items.ensures.has_more c.split-line-items.ensures.pattern in
    let gives : c.into_iter-line-iterator.result ≡ c.split-line-items.result = c.into_iter-line-iterator.ensures.into_iter_gives in
    let all = YieldsList-end (rw (sym gives) at split) c.loop-line.yielded _ c.loop-line.yielded_by _ _ c.in-None.is c.next.ensures.steps in
    c.loop-line.invariant ∙ ap (flat_map (line_json c.args.telling)) all.0

pub loop-line-preserved : goal.loop-line-preserved
loop-line-preserved c = search (rules, map-append, flat_map-append)
