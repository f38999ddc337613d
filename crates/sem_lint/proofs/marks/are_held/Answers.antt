use Rattle.std.proofs.Common.{◌≡◌, ◌∙◌, refl, sym, arith}
use Rattle.std.proofs.lemmas.Bool.{true≢false}
use Rattle.std.proofs.lemmas.Option.{slice_get_within}
use Rattle.std.specs.Prelude.{Some, slice_get}
use Rattle.sem_profile.specs.declared.profile.Format.{Format}
use Rattle.sem_lint.specs.Marks.{IsHeld, own_at}
use Rattle.sem_lint.proofs.LengthsFirst.{all_up_to}
use Rattle.sem_lint.proofs.marks.are_held.Goals as goal

pub loop-format-preserved : goal.loop-format-preserved
loop-format-preserved c = λ n format lt at.
    all_up_to (λ n. (format : Format) → slice_get c.args.formats.now n ≡ Some format → IsHeld c.args.marks.now (own_at c.args.own.now c.args.method n) format.fields) c.loop-format.format
    (λ n lt format at. c.loop-format.invariant n format lt at) (c.is_held.ensures.0 c.if-not-is_held.false) n lt format at

pub returns-then-not-is_held : goal.returns-then-not-is_held
returns-then-not-is_held c = (λ e. absurd (true≢false (sym e)), λ all. absurd (true≢false (sym (c.is_held.ensures.1 (λ f at. all c.loop-format.format f at)) ∙ c.if-not-is_held.true)))

pub returns : goal.returns
returns c = (λ e n format at. c.loop-format.invariant n format (let lt = slice_get_within c.args.formats.now n format at in let end = c.loop-format-test.false in omega arith) at, λ all. refl)
