-- The constants of a file as the crate of expressions has them.
use Rattle.std.proofs.Common.{◌≡◌, ap, refl, subst, sym, ℕ, true, false, List, [], ◌∷◌, map, ◌∙◌, ◌≢◌}
use Rattle.std.specs.Str.{bytes_eq}
use Rattle.std.proofs.lemmas.Map.Keys.{apart_from_distinct}
use Rattle.std.proofs.lemmas.Slice.Eq.{bytes_eq-Decides}
use Rattle.text_tree.specs.declared.tree.Part.{Part}
use Rattle.text_tree.specs.declared.tree.Part.TheVariants as part
use Rattle.sem_profile.specs.Words.{word}
use Rattle.sem_profile.specs.declared.fault.ResolveError.{ResolveError}
use Rattle.sem_profile.specs.declared.fault.ResolveError.TheVariants as errors
use Rattle.sem_profile.specs.Precedence.{Blames}
use Rattle.text_statements.specs.Constants.{constants_in, AreValues, IsFirstFault}
use Rattle.text_statements.specs.Constants as terms
use Rattle.text_resolve.specs.Parts.{constants_of, constant_names}
use Rattle.text_resolve.specs.FileNames.{HeadCause, named_twice, valueless}
use Rattle.text_resolve.specs.Twice.{AreDistinct, Twice}

pub same_constants : (parts : List Part) → constants_of parts ≡ constants_in parts
same_constants [] = refl
same_constants (part.Constant c ∷ ps) = ap (λ cs. c ∷ cs) (same_constants ps)
same_constants (part.Method m ∷ ps) = same_constants ps

pub same_names : (text : List ℕ) (parts : List Part) → constant_names text parts ≡ terms.constant_names text parts
same_names text parts = ap (map (λ c. word text c.name)) (same_constants parts)

apart : (a b : List ℕ) → bytes_eq a b ≡ false → a ≢ b
apart a b h same = let wrong : true ≡ false = sym ((bytes_eq-Decides a b).1 same) ∙ h in absurd cc

pub distinct_there : (text : List ℕ) (parts : List Part) → AreDistinct text parts → terms.AreDistinct (terms.constant_names text parts)
distinct_there text parts distinct = subst terms.AreDistinct (same_names text parts) (λ i j d lt within.
    apart _ _ (apart_from_distinct bytes_eq (constant_names text parts) i j d distinct.constants lt within))

pub values_here : (text : List ℕ) (parts : List Part) (values : List _) → AreValues text (terms.constant_names text parts) (constants_in parts) values
    → AreValues text (constant_names text parts) (constants_of parts) values
values_here text parts values have =
    subst (λ ns. AreValues text ns (constants_of parts) values) (sym (same_names text parts))
    (subst (λ cs. AreValues text (terms.constant_names text parts) cs values) (sym (same_constants parts)) have)

-- what each of the two passes refuses
pub twice_refused : (text : List ℕ) (parts : List Part) (error : ResolveError) → Blames (Twice text parts) error → Blames (HeadCause text parts) error
twice_refused text parts (errors.Fault fault) cause = named_twice cause
twice_refused text parts errors.OutOfMemory cause = tt

pub value_refused : (text : List ℕ) (parts : List Part) (error : ResolveError) → AreDistinct text parts
    → terms.Blames (IsFirstFault text (terms.constant_names text parts) (constants_in parts)) error → Blames (HeadCause text parts) error
value_refused text parts (errors.Fault fault) distinct cause = valueless distinct
    (subst (λ ns. IsFirstFault text ns (constants_of parts) fault) (sym (same_names text parts))
    (subst (λ cs. IsFirstFault text (terms.constant_names text parts) cs fault) (sym (same_constants parts)) cause))
value_refused text parts errors.OutOfMemory distinct cause = tt
