use Rattle.std.proofs.Common.{◌≡◌, ◌∙◌, sym, ℕ, ◌<◌, Bool, List, length, Some, None}
use Rattle.std.specs.Prelude.{Option, IfSome, position}
use Rattle.std.proofs.lemmas.Iterator.Adapters.{position_from-zero}
use Rattle.text_resolve.specs.Parts.{methods_of}
use Rattle.text_resolve.specs.Top.{is_top}
use Rattle.text_resolve.proofs.CallsSites.{place_within}
use Rattle.text_resolve.proofs.top.top.Goals as goal

within : {X : Type 0} (p : X → Bool) (xs : List X) (o : Option ℕ) → o ≡ position p xs → IfSome o (λ k. k < length xs)
within p xs (Some k) is = place_within p xs k (sym is)
within p xs None is = tt

pub returns-clause-place : goal.returns-clause-place
returns-clause-place c = c.first_top.ensures ∙ sym (position_from-zero (is_top c.args.text.now c.args.name.now) (methods_of c.args.parts.now))

pub returns-clause-within : goal.returns-clause-within
returns-clause-within c =
    within (is_top c.args.text.now c.args.name.now) (methods_of c.args.parts.now) c.first_top.result
    (c.first_top.ensures ∙ sym (position_from-zero (is_top c.args.text.now c.args.name.now) (methods_of c.args.parts.now)))
