use Rattle.std.proofs.Common.{◌≡◌, ◌∙◌, ◌++◌, [], ◌∷◌, ap, sym, lit<}
use Rattle.std.specs.Prelude.{flat_map, string_bytes}
use Rattle.std.proofs.lemmas.Iterator.Consumers.{YieldsList-end}
use Rattle.std.proofs.lemmas.Iterator.Splits.{YieldsList-from_str_split}
use Rattle.tool_json.specs.Entries.{before_heading, before_on, has_heading}
use Rattle.tool_json.specs.Lines.{line_object}
use Rattle.tool_json.proofs.EntriesParted.{before_step, found_step, grown, texts}
use Rattle.tool_json.proofs.lines.push_lines.Goals as goal

pub returns-clause-told : goal.returns-clause-told
returns-clause-told c =
    let split = YieldsList-from_str_split {s = c.split-line-items.result} 10 c.args.text.now (lit< tt) c.split-line-items.ensures.text c.split-line-items.ensures.has_more c.split-line-items.ensures.pattern in
    let gives : c.into_iter-line-iterator.result ≡ c.split-line-items.result = c.into_iter-line-iterator.ensures.into_iter_gives in
    let all = YieldsList-end (rw (sym gives) at split) c.loop-line.yielded _ c.loop-line.yielded_by _ _ c.in-None.is c.next.ensures.steps in
    c.loop-line.invariant.0 ∙ ap has_heading all.0

pub returns-clause-adds : goal.returns-clause-adds
returns-clause-adds c =
    let split = YieldsList-from_str_split {s = c.split-line-items.result} 10 c.args.text.now (lit< tt) c.split-line-items.ensures.text c.split-line-items.ensures.has_more c.split-line-items.ensures.pattern in
    let gives : c.into_iter-line-iterator.result ≡ c.split-line-items.result = c.into_iter-line-iterator.ensures.into_iter_gives in
    let all = YieldsList-end (rw (sym gives) at split) c.loop-line.yielded _ c.loop-line.yielded_by _ _ c.in-None.is c.next.ensures.steps in
    c.loop-line.invariant.1 ∙ ap (λ ls. string_bytes c.args.output.now ++ flat_map (line_object c.args.telling) (before_heading ls)) all.0

pub loop-line-preserved : goal.loop-line-preserved
loop-line-preserved c =
    let ys = c.loop-line.yielded in
    let y = c.in-Some.line in
    let more = before_on c.loop-line.found y.now in (
      found_step ys y c.loop-line.found c.loop-line.invariant.0 c.in_ok-found.found c.in_ok-found.ensures.told,
      grown (line_object c.args.telling) (string_bytes c.args.output.now) (string_bytes c.loop-line.output) (string_bytes c.push_before.new.output) (before_heading (texts ys)) more (before_heading (texts (ys ++ y ∷ []))) c.loop-line.invariant.1 c.in_ok-found.ensures.adds
          (before_step ys y c.loop-line.found c.loop-line.invariant.0),
    )
