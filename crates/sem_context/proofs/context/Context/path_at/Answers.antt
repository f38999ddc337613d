use Rattle.std.proofs.Common.{◌≡◌, ◌∙◌, Some, None, ap, sym, length, refl, string_bytes}
use Rattle.std.specs.Prelude.{option_map, slice_get}
use Rattle.std.proofs.lemmas.Option.{slice_get_read, slice_get_past}
use Rattle.std.specs.Map.{keys_of}
use Rattle.sem_context.proofs.PlacingPaths.{shown-path}
use Rattle.sem_context.proofs.context.Context.path_at.Goals as goal

pub returns-in-Some : goal.returns-in-Some
returns-in-Some c =
    let items = c.self.inside.kept.items in
    let at : slice_get items c.args.place ≡ Some c.in-Some.field-0.now = ap (λ xs. slice_get xs c.args.place) (sym c.deref.ensures.value) ∙ slice_get_read c.deref.result.now _ c.args.place c.in-Some.field-0.now refl c.in-Some.ensures.lookup.3.0 c.in-Some.ensures.lookup.1 in
    ap Some c.as_str.ensures.value ∙ sym (ap (λ es. slice_get (keys_of es) c.args.place) (sym c.self.view_is) ∙ shown-path items c.args.place ∙ ap (option_map (λ e. string_bytes e.0)) at)

pub returns-in-None : goal.returns-in-None
returns-in-None c =
    let items = c.self.inside.kept.items in
    let at : slice_get items c.args.place ≡ None = ap (λ xs. slice_get xs c.args.place) (sym c.deref.ensures.value) ∙ slice_get_past c.deref.result.now c.args.place c.in-None.ensures.lookup.3 in
    sym (ap (λ es. slice_get (keys_of es) c.args.place) (sym c.self.view_is) ∙ shown-path items c.args.place ∙ ap (option_map (λ e. string_bytes e.0)) at)
