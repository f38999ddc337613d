use Rattle.std.proofs.Common.{◌≡◌, ◌∙◌, ℕ, List, Some, None, ap, sym, refl, string_bytes}
use Rattle.std.specs.Prelude.{option_map, slice_get}
use Rattle.std.proofs.lemmas.Option.{slice_get-map, slice_get_past, slice_get_read}
use Rattle.std.specs.Map.{keys_of}
use Rattle.sem_context.specs.Placing.{place_of, shown}
use Rattle.sem_context.proofs.PlacingPaths.{bits_found, placed_at, shown-path}
use Rattle.sem_context.proofs.context.Context.entry_at.Goals as goal

pub returns-in-Some-clause-entry : goal.returns-in-Some-clause-entry
returns-in-Some-clause-entry c =
    let items = c.self.inside.kept.items in
    let at : slice_get items c.args.place ≡ Some c.in-Some.field-0.now = ap (λ xs. slice_get xs c.args.place) (sym c.deref.ensures.value) ∙ slice_get_read c.deref.result.now _ c.args.place c.in-Some.field-0.now refl c.in-Some.ensures.lookup.3.0 c.in-Some.ensures.lookup.1 in
    ap (λ path. Some (path, c.in-Some.field-0.now.1)) c.as_str.ensures.value
    ∙ sym (ap (λ es. slice_get es c.args.place) (sym c.self.view_is) ∙ slice_get-map (λ e. (string_bytes e.0, e.1)) items c.args.place ∙ ap (option_map (λ e. (string_bytes e.0, e.1))) at)

pub returns-in-None-clause-entry : goal.returns-in-None-clause-entry
returns-in-None-clause-entry c =
    let items = c.self.inside.kept.items in
    let at : slice_get items c.args.place ≡ None = ap (λ xs. slice_get xs c.args.place) (sym c.deref.ensures.value) ∙ slice_get_past c.deref.result.now c.args.place c.in-None.ensures.lookup.3 in
    sym (ap (λ es. slice_get es c.args.place) (sym c.self.view_is) ∙ slice_get-map (λ e. (string_bytes e.0, e.1)) items c.args.place ∙ ap (option_map (λ e. (string_bytes e.0, e.1))) at)

pub returns-in-Some-clause-bits : goal.returns-in-Some-clause-bits
returns-in-Some-clause-bits c =
    let items = c.self.inside.kept.items in
    let path : List ℕ = c.as_str.result.now in
    let at : slice_get items c.args.place ≡ Some c.in-Some.field-0.now = ap (λ xs. slice_get xs c.args.place) (sym c.deref.ensures.value) ∙ slice_get_read c.deref.result.now _ c.args.place c.in-Some.field-0.now refl c.in-Some.ensures.lookup.3.0 c.in-Some.ensures.lookup.1 in
    let there : slice_get (keys_of (shown items)) c.args.place ≡ Some path = shown-path items c.args.place ∙ ap (option_map (λ e. string_bytes e.0)) at ∙ ap Some (sym c.as_str.ensures.value) in
    let placed : place_of c.args.self.now path ≡ Some c.args.place = ap (λ es. place_of es path) (sym c.self.view_is) ∙ placed_at (shown items) c.args.place path c.self.invariant.distinct there in
    bits_found items c.args.self.now path c.args.place c.self.view_is placed ∙ ap (option_map (λ e. e.1)) at
