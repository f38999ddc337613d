-- The entries of a filling, one level at a time.
use Rattle.std.proofs.Common.{◌≡◌, refl, ◌∙◌, ap, List, [], ◌∷◌, ◌++◌, map}
use Rattle.std.specs.Prelude.{Option, Some, None}
use Rattle.std.specs.List.{flat_map}
use Rattle.sem_context.specs.Entries.{Entries}
use Rattle.sem_filling.specs.Fillings.{inner_of, fields_of}
use Rattle.sem_filling.specs.Entries.{Path, below, own_entry, field_entries, level_entries, inner_entries, entries_below}
use Rattle.sem_filling.specs.FillingLaws.{entries_at, entries_inside}
use Rattle.sem_filling.specs.declared.filling.Filling.{Filling, fold_out-Filling}
use Rattle.sem_filling.specs.declared.filling.FilledField.{FilledField, out-FilledField, fold_out-FilledField, fold-FilledField, map-FilledField}

-- m gives the filling inside a field its entries
inside : (m : Option Filling → Option (Path → Entries)) → m None ≡ None → ((f : Filling) → m (Some f) ≡ Some (entries_below f)) → (o : Option Filling) (here : Path) → inner_entries (m o) here ≡ entries_inside o here
inside m none some None here = ap (λ z. inner_entries z here) none
inside m none some (Some f) here = ap (λ z. inner_entries z here) (some f)

field_is : (g : FilledField) (path : Path) → fold-FilledField (Path → Entries) (Path → Entries) field_entries level_entries g path ≡ entries_at path g
field_is g path =
    let here = below path (out-FilledField g).declared.name in
    ap (λ h. h path) (fold_out-FilledField (Path → Entries) (Path → Entries) field_entries level_entries g)
    ∙ ap (λ z. own_entry (out-FilledField g).declared.part here (out-FilledField g).uncompressed ++ z)
    (inside (λ o. (map-FilledField FilledField Filling (Path → Entries) (Path → Entries) (fold-FilledField (Path → Entries) (Path → Entries) field_entries level_entries) entries_below (record (out-FilledField g) { inner = o })).inner)
    refl (λ f. refl) (inner_of g) here)

map_is : (path : Path) (gs : List FilledField) → flat_map (λ h. h path) (map (fold-FilledField (Path → Entries) (Path → Entries) field_entries level_entries) gs) ≡ flat_map (entries_at path) gs
map_is path [] = refl
map_is path (g ∷ gs) = λ i. field_is g path i ++ map_is path gs i

pub entries_are : (f : Filling) (path : Path) → entries_below f path ≡ flat_map (entries_at path) (fields_of f)
entries_are f path = ap (λ h. h path) (fold_out-Filling (Path → Entries) (Path → Entries) field_entries level_entries f) ∙ map_is path (fields_of f)
