use Rattle.std.proofs.Common.{◌≡◌, ◌∙◌, Some, None, ap, sym, length, refl, string_bytes}
use Rattle.std.specs.Prelude.{option_map, slice_get}
use Rattle.std.proofs.lemmas.Option.{slice_get_read, slice_get_past}
use Rattle.std.specs.Map.{keys_of}
use Rattle.sem_context.specs.Placing.{shown}
use Rattle.sem_context.proofs.PlacingPaths.{shown-path}
use Rattle.sem_context.proofs.context.is_at.Goals as goal

pub returns-in-Some : goal.returns-in-Some
returns-in-Some c =
    let items = c.args.kept.now in
    let at : slice_get items c.args.place ≡ Some c.in-Some.field-0.now = slice_get_read items _ c.args.place c.in-Some.field-0.now refl c.in-Some.ensures.lookup.3.0 c.in-Some.ensures.lookup.1 in
    let path : slice_get (keys_of (shown items)) c.args.place ≡ Some c.as_bytes.result.now = shown-path items c.args.place ∙ ap (option_map (λ e. string_bytes e.0)) at ∙ ap Some (sym c.as_bytes.ensures.value) in
    ((λ t. path ∙ ap Some (c.are_same.ensures.0 t ∙ c.as_bytes-in-Some.ensures.value)), (λ e. c.are_same.ensures.1 (cc (path, e, c.as_bytes-in-Some.ensures.value))))

pub returns-in-None : goal.returns-in-None
returns-in-None c =
    let items = c.args.kept.now in
    let none : slice_get (keys_of (shown items)) c.args.place ≡ None = shown-path items c.args.place ∙ ap (option_map (λ e. string_bytes e.0)) (slice_get_past items c.args.place c.in-None.ensures.lookup.3) in
    ((λ t. absurd (cc t)), (λ e. absurd (cc (none, e))))
