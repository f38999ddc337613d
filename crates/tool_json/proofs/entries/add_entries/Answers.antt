use Rattle.std.proofs.Common.{◌≡◌, ◌∙◌, ◌++◌, [], ◌∷◌, ap, sym, lit<}
use Rattle.std.specs.Prelude.{flat_map}
use Rattle.std.proofs.lemmas.Iterator.Consumers.{YieldsList-end}
use Rattle.std.proofs.lemmas.Iterator.Splits.{YieldsList-from_str_split}
use Rattle.tool_json.specs.Entries.{after_heading, after_on, entry_tokens}
use Rattle.tool_json.proofs.EntriesParted.{after_step, found_step, grown, texts}
use Rattle.tool_json.proofs.entries.add_entries.Goals as goal

pub returns : goal.returns
returns c =
    let split = YieldsList-from_str_split {s = c.split-line-items.result} 10 c.args.text.now (lit< tt) c.split-line-items.ensures.text c.split-line-items.ensures.has_more c.split-line-items.ensures.pattern in
    let gives : c.into_iter-line-iterator.result ≡ c.split-line-items.result = c.into_iter-line-iterator.ensures.into_iter_gives in
    let all = YieldsList-end (rw (sym gives) at split) c.loop-line.yielded _ c.loop-line.yielded_by _ _ c.in-None.is c.next.ensures.steps in
    c.loop-line.invariant.1 ∙ ap (λ ls. c.args.object.now ++ flat_map entry_tokens (after_heading ls)) all.0

pub loop-line-preserved : goal.loop-line-preserved
loop-line-preserved c =
    let ys = c.loop-line.yielded in
    let y = c.in-Some.line in
    let more = after_on c.loop-line.found y.now in (
      found_step ys y c.loop-line.found c.loop-line.invariant.0 c.in_ok-found.found c.in_ok-found.ensures.told,
      grown entry_tokens c.args.object.now c.loop-line.object c.add_after.new.object (after_heading (texts ys)) more (after_heading (texts (ys ++ y ∷ []))) c.loop-line.invariant.1 c.in_ok-found.ensures.adds
          (after_step ys y c.loop-line.found c.loop-line.invariant.0),
    )
