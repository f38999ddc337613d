-- Which methods a method calls.
use Rattle.std.specs.Prelude.{◌≡◌, ℕ, ◌<◌, List, length, slice_get, Some}
use Rattle.std.specs.List.{filter_map, flat_map}
use Rattle.sem_profile.specs.declared.profile.Format.{Format}
use Rattle.sem_profile.specs.declared.profile.Method.{Method}
use Rattle.sem_profile.specs.Methods.{CallsMethod, IsOrder}
use Rattle.cert_rules.specs.Counts.{callee}

-- the methods that fields of the formats call
abbrev pub called_in : List Format → List ℕ
called_in formats = flat_map (λ format. filter_map (λ d. callee d.encoding) format.fields) formats

abbrev pub called : Method → List ℕ
called m = called_in m.formats

-- the methods can stand in an order, callees first
abbrev pub HasOrder : List Method → Type 0
HasOrder methods = (order : List ℕ) × IsOrder methods order

-- each call is of one of the methods
abbrev pub CallsWithin : List Method → Type 0
CallsWithin methods = (k j : ℕ) (m : Method) → slice_get methods k ≡ Some m → CallsMethod m j → j < length methods
