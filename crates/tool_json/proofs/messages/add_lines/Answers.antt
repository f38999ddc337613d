use Rattle.std.proofs.Common.{rules, ◌≡◌, ◌∙◌, ◌++◌, ap, sym, lit<, map, append_assoc, ℕ, List, [], ◌∷◌, Bor}
use Rattle.std.specs.Prelude.{flat_map}
use Rattle.std.proofs.lemmas.List.{map-append}
use Rattle.std.proofs.lemmas.List.Concat.{flat_map-append}
use Rattle.std.proofs.lemmas.Iterator.Consumers.{YieldsList-end}
use Rattle.std.proofs.lemmas.Iterator.Splits.{YieldsList-from_str_split}
use Rattle.tool_json.specs.MessageObjects.{element}
use Rattle.tool_json.proofs.messages.add_lines.Goals as goal

one_more : (lines : List (Bor (List ℕ))) (line : Bor (List ℕ)) → flat_map element (map (λ x. x.now) lines) ++ element line.now ≡ flat_map element (map (λ x. x.now) (lines ++ line ∷ []))
one_more lines line = search (rules, map-append, flat_map-append)

pub returns : goal.returns
returns c =
    let split = YieldsList-from_str_split {s = c.split-line-items.result} 10 c.args.text.now (lit< tt) c.split-line-items.ensures.text c.split-line-items.ensures.has_more c.split-line-items.ensures.pattern in
    let gives : c.into_iter-line-iterator.result ≡ c.split-line-items.result = c.into_iter-line-iterator.ensures.into_iter_gives in
    let all = YieldsList-end (rw (sym gives) at split) c.loop-line.yielded _ c.loop-line.yielded_by _ _ c.in-None.is c.next.ensures.steps in
    c.loop-line.invariant ∙ ap (λ ls. c.args.object.now ++ flat_map element ls) all.0

pub loop-line-preserved : goal.loop-line-preserved
loop-line-preserved c =
    c.in_ok-add_line.ensures
    ∙ ap (λ x. x ++ element c.in-Some.line.now) c.loop-line.invariant
    ∙ append_assoc c.args.object.now (flat_map element (map (λ x. x.now) c.loop-line.yielded)) (element c.in-Some.line.now)
    ∙ ap (λ x. c.args.object.now ++ x) (one_more c.loop-line.yielded c.in-Some.line)
