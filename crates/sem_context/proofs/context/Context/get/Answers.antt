use Rattle.std.proofs.Common.{◌≡◌, ◌∙◌, Some, None, ap, sym, length, refl, string_bytes}
use Rattle.std.specs.Prelude.{option_map, slice_get}
use Rattle.std.proofs.lemmas.Option.{slice_get_read, slice_get_past}
use Rattle.sem_context.specs.Placing.{place_of}
use Rattle.sem_context.proofs.PlacingPaths.{bits_found, not_found, none_found}
use Rattle.sem_context.proofs.context.Context.get.Goals as goal

pub returns-in_default : goal.returns-in_default
returns-in_default c = sym (not_found c.args.self.now c.args.path.now (sym c.place_of.ensures ∙ none_found c.place_of.result c.in_default.not-Some))

pub returns-in-Some-get : goal.returns-in-Some-get
returns-in-Some-get c =
    let items = c.self.inside.kept.items in
    let at : slice_get items c.in-Some.place ≡ Some c.in-Some-get.field-0.now = ap (λ xs. slice_get xs c.in-Some.place) (sym c.deref.ensures.value) ∙ slice_get_read c.deref.result.now _ c.in-Some.place c.in-Some-get.field-0.now refl c.in-Some-get.ensures.lookup.3.0 c.in-Some-get.ensures.lookup.1 in
    let place : place_of c.args.self.now c.args.path.now ≡ Some c.in-Some.place = sym c.in-Some.ensures in
    sym (bits_found items c.args.self.now c.args.path.now c.in-Some.place c.self.view_is place ∙ ap (option_map (λ e. e.1)) at)

pub returns-in-None : goal.returns-in-None
returns-in-None c =
    let items = c.self.inside.kept.items in
    let at : slice_get items c.in-Some.place ≡ None = ap (λ xs. slice_get xs c.in-Some.place) (sym c.deref.ensures.value) ∙ slice_get_past c.deref.result.now c.in-Some.place c.in-None.ensures.lookup.3 in
    let place : place_of c.args.self.now c.args.path.now ≡ Some c.in-Some.place = sym c.in-Some.ensures in
    sym (bits_found items c.args.self.now c.args.path.now c.in-Some.place c.self.view_is place ∙ ap (option_map (λ e. e.1)) at)
