-- No method of a file has a library method's name.
use Rattle.std.proofs.Common.{◌≡◌, ◌∙◌, ℕ, zero, suc, true, false, List, [], ◌∷◌, map, refl, sym, subst}
use Rattle.std.specs.Prelude.{slice_get, Option, Some, None, position}
use Rattle.std.specs.Str.{bytes_eq}
use Rattle.std.proofs.lemmas.Bool.{false≢true}
use Rattle.text_tree.specs.declared.tree.Method.{Method}
use Rattle.text_tree.specs.declared.tree.Part.{Part}
use Rattle.sem_profile.specs.Words.{word}
use Rattle.text_statements.specs.Callees.{is_library}
use Rattle.text_resolve.specs.Parts.{methods_of, method_names}
use Rattle.text_resolve.specs.Twice.{AreDistinct}
use Rattle.text_resolve.specs.Calls.{AreOwn}
use Rattle.text_resolve.proofs.MethodsChosen.{at_position}

own_from : (text : List ℕ) (ms : List Method) → ((k : ℕ) (m : Method) → slice_get ms k ≡ Some m → is_library (word text m.name) ≡ false)
    → (k : ℕ) (name : List ℕ) → slice_get (map (λ m. word text m.name) ms) k ≡ Some name → is_library name ≡ false
own_from text [] own zero name at = let wrong : None ≡ Some name = at in absurd cc
own_from text [] own (suc k) name at = let wrong : None ≡ Some name = at in absurd cc
own_from text (m ∷ ms) own zero name at = let same : word text m.name ≡ name = cc in subst (λ n. is_library n ≡ false) same (own 0 m refl)
own_from text (m ∷ ms) own (suc k) name at = own_from text ms (λ j n here. own (suc j) n here) k name at

pub own_names : (text : List ℕ) (parts : List Part) → AreDistinct text parts → AreOwn (method_names text parts)
own_names text parts distinct = own_from text (methods_of parts) distinct.own

-- so a library method's name is none of theirs
pub no_place : (name : List ℕ) (names : List (List ℕ)) → is_library name ≡ true → AreOwn names → None ≡ position (bytes_eq name) names
no_place name names is own = by (position (bytes_eq name) names) refl
  where
    by : (o : Option ℕ) → position (bytes_eq name) names ≡ o → None ≡ o
    by (Some k) e = absurd (false≢true (sym (own k name (at_position name names k e)) ∙ is))
    by None e = refl
