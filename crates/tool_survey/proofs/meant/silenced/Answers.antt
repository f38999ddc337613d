use Rattle.std.proofs.Common.{rules, ◌≡◌, ◌∙◌, ap, sym, refl, subst, false, lit<, [], ◌∷◌, ◌++◌, map, length}
use Rattle.std.specs.Prelude.{flat_map, replicate, string_bytes}
use Rattle.std.proofs.lemmas.List.{map-append}
use Rattle.std.proofs.lemmas.List.Concat.{flat_map-append}
use Rattle.std.proofs.lemmas.Iterator.Consumers.{YieldsList-end}
use Rattle.std.proofs.lemmas.Iterator.Splits.{YieldsList-from_str_split}
use Rattle.tool_survey.specs.Meant.{lines_of, shown_line, unused_by, unused_lines}
use Rattle.tool_survey.proofs.MeantLines.{ToldSoFar, told_more, told_none, unused_same}
use Rattle.tool_survey.proofs.meant.silenced.Goals as goal

pub returns : goal.returns
returns c =
    let split = YieldsList-from_str_split {s = c.split-line-items.result} 10 c.args.text.now (lit< tt) c.split-line-items.ensures.text c.split-line-items.ensures.has_more c.split-line-items.ensures.pattern in
    let gives : c.into_iter-line-iterator.result ≡ c.split-line-items.result = c.into_iter-line-iterator.ensures.into_iter_gives in
    let all = YieldsList-end (rw (sym gives) at split) c.loop-line.yielded _ c.loop-line.yielded_by _ _ c.in-None.is c.next.ensures.steps in
    let lines = lines_of c.args.text.now in
    let m = c.in_ok-meant.meant.items in
    let added : string_bytes c.push_unused.new.shown ≡ string_bytes c.loop-line.shown ++ unused_by c.loop-line.used.items m = rw (c.as_slice-2.ensures.value, c.as_slice-3.ensures.value) at c.in_ok-push_unused.ensures in
    let told : ToldSoFar lines (length m) c.loop-line.used.items = subst (λ xs. ToldSoFar xs (length m) c.loop-line.used.items) all.0 c.loop-line.invariant.1 in
    added
    ∙ ap (λ t. t ++ unused_by c.loop-line.used.items m) (c.loop-line.invariant.0 ∙ ap (flat_map (shown_line m)) all.0)
    ∙ ap (λ u. flat_map (shown_line m) lines ++ u) (unused_same lines c.loop-line.used.items m told)
    ∙ ap (λ x. flat_map (shown_line x) lines ++ unused_lines lines x) c.in_ok-meant.ensures

pub loop-line-init : goal.loop-line-init
loop-line-init c =
    let none : c.in_ok-used.used.items ≡ replicate (length c.in_ok-meant.meant.items) false = search (rules) in
    (c.new-shown.ensures.bytes, told_none (length c.in_ok-meant.meant.items) c.in_ok-used.used.items none)

pub loop-line-preserved : goal.loop-line-preserved
loop-line-preserved c = (
  (search (rules, map-append, flat_map-append)),
  subst (λ xs. ToldSoFar xs (length c.in_ok-meant.meant.items) c.note_used.new.used.items) (sym (map-append (λ x. x.now) c.loop-line.yielded (c.in-Some.line ∷ [])))
      (told_more (map (λ x. x.now) c.loop-line.yielded) (length c.in_ok-meant.meant.items) c.in-Some.line.now c.loop-line.used.items c.note_used.new.used.items c.loop-line.invariant.1 c.note_used.ensures),
)
