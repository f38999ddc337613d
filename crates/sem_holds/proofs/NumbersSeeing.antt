-- The numbers of a field, as the filling shows them.
use Rattle.std.proofs.Common.{◌≡◌, ◌∙◌, ap, ℕ, map}
use Rattle.std.specs.Prelude.{slice_get, Some, option_map}
use Rattle.std.specs.Option.{unwrap_or}
use Rattle.std.proofs.lemmas.Option.{slice_get-map}
use Rattle.sem_expr.specs.Known.{numbers_at, no_numbers}
use Rattle.sem_filling.specs.declared.filling.Filling.{Filling}
use Rattle.sem_filling.specs.declared.filling.FilledField.{FilledField}
use Rattle.sem_filling.specs.Fillings.{level, fields_of, sides_of}
use Rattle.sem_filling.specs.Numbers.{numbers_of}

pub field_seen : (f : Filling) (i : ℕ) (g : FilledField) → slice_get (fields_of f) i ≡ Some g → numbers_at (map numbers_of (level f)) i ≡ numbers_of (sides_of g)
field_seen f i g at =
    ap (λ o. unwrap_or o record { uncompressed = no_numbers; compressed = no_numbers })
    (slice_get-map numbers_of (level f) i ∙ ap (option_map numbers_of) (slice_get-map sides_of (fields_of f) i ∙ ap (option_map sides_of) at))
