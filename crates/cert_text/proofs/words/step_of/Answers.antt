use Rattle.std.proofs.Common.{◌∙◌, sym, ap, length, map, drop, take, ◌-◌}
use Rattle.std.specs.Prelude.{option_and_then}
use Rattle.cert_text.specs.Drafts.{step_on}
use Rattle.cert_text.proofs.DraftsPieces.{step_more}
use Rattle.cert_text.proofs.words.step_of.Goals as goal

pub returns-in_err-field : goal.returns-in_err-field
returns-in_err-field c =
    let found = sym c.place_of_field.ensures ∙ c.in_err-field.was in
    c.from_residual.ensures ∙ sym (step_more c.args.format.now c.args.word.now c.args.more.now _ c.in-len1-up.len_at_least ∙ ap (option_and_then _) found)

pub returns : goal.returns
returns c =
    let found = sym c.place_of_field.ensures ∙ c.in_ok-field.was in
    c.step_on.ensures ∙ ap (λ k. step_on k c.in_ok-field.field c.args.word.now (map (λ w. w.now) (take (length c.args.more.now - 1) (drop 1 c.args.more.now)))) c.len.ensures
    ∙ sym (step_more c.args.format.now c.args.word.now c.args.more.now _ c.in-len1-up.len_at_least ∙ ap (option_and_then _) found)
