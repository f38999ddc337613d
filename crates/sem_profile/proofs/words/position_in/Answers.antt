use Rattle.std.proofs.Common.{◌∙◌, sym, ap, ◌+◌, length, Some}
use Rattle.std.specs.Prelude.{option_map}
use Rattle.std.specs.Str.{bytes_eq}
use Rattle.sem_profile.proofs.WordsTables.{position-first, position-second}
use Rattle.sem_profile.proofs.words.position_in.Goals as goal

pub returns-in_err-place-in-None-clause-value : goal.returns-in_err-place-in-None-clause-value
returns-in_err-place-in-None-clause-value c =
    let none = position-second (bytes_eq c.args.name.now) c.args.first.now c.args.last.now (sym c.position.ensures.value ∙ c.in-None.is) in
    c.from_residual.ensures ∙ sym (none ∙ ap (option_map (λ j. length c.args.first.now + j)) (sym c.position-in-None.ensures.value ∙ c.in_err-place-in-None.was {u = tt}))

pub returns-in-Some-clause-value : goal.returns-in-Some-clause-value
returns-in-Some-clause-value c = sym (position-first (bytes_eq c.args.name.now) c.args.first.now c.args.last.now c.in-Some.place (sym c.position.ensures.value ∙ c.in-Some.is))

pub returns-in_ok-place-in-None-clause-value : goal.returns-in_ok-place-in-None-clause-value
returns-in_ok-place-in-None-clause-value c =
    let none = position-second (bytes_eq c.args.name.now) c.args.first.now c.args.last.now (sym c.position.ensures.value ∙ c.in-None.is) in
    ap (λ n. Some (n + c.in_ok-place-in-None.place)) c.len.ensures.value
    ∙ sym (none ∙ ap (option_map (λ j. length c.args.first.now + j)) (sym c.position-in-None.ensures.value ∙ c.in_ok-place-in-None.was {u = tt}))
