-- The warnings of `lint`, and the numbers of candidates in them.
use Rattle.std.proofs.Common.{◌≡◌, ◌∙◌, ℕ, ◌+◌, ◌<◌, ◌≤◌, List, ◌∷◌, ◌++◌, length, map, take, get_or, ap, sym, subst}
use Rattle.std.specs.Prelude.{Result, Ok, Err, IfOk, String, Some, None, [], slice_get, string_bytes, true}
use Rattle.std.specs.Borrow.{Bor}
use Rattle.std.proofs.lemmas.List.{map-append, take_all, take_more}
use Rattle.std.proofs.lemmas.Option.{get_or_from_slice_get, slice_get-get_or, slice_get_within}
use Rattle.std.specs.Global.{Global}
use Rattle.std.specs.declared.alloc.AllocError.{AllocError}
use Rattle.sem_profile.specs.declared.profile.Method.{Method}
use Rattle.sem_profile.specs.Resolved.{Resolved}
use Rattle.cert_types.specs.declared.certificate.Version.TheVariants.{One}
use Rattle.cert_types.specs.Kept.{Certified}
use Rattle.cert_prove.specs.Proved.{IsProved, IsUnproved}
use Rattle.cert_prove.specs.declared.unproved.Unproved.{Unproved}
use Rattle.sem_lint.specs.declared.needs.Needing.{Needing}
use Rattle.sem_lint.specs.declared.spelled.Misspelled.{Misspelled}
use Rattle.sem_lint.specs.declared.unlike.UnlikeCall.{UnlikeCall}
use Rattle.sem_lint.specs.declared.unnoticed.Unnoticed.{Unnoticed}
use Rattle.sem_lint.specs.Needs.{AreNeeding}
use Rattle.sem_lint.specs.Paths.{AreThose, IsUnknown}
use Rattle.sem_lint.specs.Spelled.{misspelled_names}
use Rattle.sem_lint.specs.Unlike.{unlike_calls}
use Rattle.sem_lint.specs.Unnoticed.{AreUnnoticed}
use Rattle.tool_survey.specs.Warnings.{AreCandidates, AreCountedLines, AreWarnings, counted, is_of_profile, unproved, warning_lines}

-- the lines of what was found are warnings
pub all_warned : (octets : List ℕ) (p : Resolved) (methods : List Method) (paths : List (List ℕ)) (needing : List Needing) (misspelled : List Misspelled) (unnoticed : List Unnoticed) (unlike : List UnlikeCall) (candidates given : List ℕ) (unknown : List (List ℕ))
    (r : Result (String Global) AllocError) → methods ≡ p.methods → AreNeeding p paths needing → misspelled ≡ misspelled_names methods → AreUnnoticed p unnoticed → unlike ≡ unlike_calls methods → AreCandidates octets p candidates → given ≡ candidates → AreThose (IsUnknown p) paths unknown
    → IfOk r (λ text. string_bytes text ≡ warning_lines octets methods needing misspelled unnoticed unlike given unknown) → IfOk r (λ text. AreWarnings octets p paths (string_bytes text))
all_warned octets p methods paths needing misspelled unnoticed unlike candidates given unknown (Err e) ms needed spelled passed alike are same those h = tt
all_warned octets p methods paths needing misspelled unnoticed unlike candidates given unknown (Ok text) ms needed spelled passed alike are same those h = record {
  needing = needing;
  are_needing = needed;
  unnoticed = unnoticed;
  are_unnoticed = passed;
  candidates = candidates;
  are_candidates = are;
  unknown = unknown;
  are_unknown = those;
  text_is = h ∙ (λ i. warning_lines octets (ms i) needing ((spelled ∙ ap misspelled_names ms) i) unnoticed ((alike ∙ ap unlike_calls ms) i) (same i) unknown);
}

-- the lines on candidates, by a certificate that is made, and where none is
pub lines_counted : (octets : List ℕ) (p : Resolved) (cert : Certified) (r : Result (String Global) AllocError) → IsProved One p cert → IfOk r (λ text. AreCountedLines octets p cert.methods (string_bytes text))
    → IfOk r (λ text. AreCandidates octets p (string_bytes text))
lines_counted octets p cert (Err e) is h = tt
lines_counted octets p cert (Ok text) is h = counted cert is h

pub no_lines : (octets : List ℕ) (p : Resolved) (why : Unproved) (r : Result (String Global) AllocError) → IsUnproved One p why → IfOk r (λ text. string_bytes text ≡ []) → IfOk r (λ text. is_of_profile why ≡ true)
    → IfOk r (λ text. AreCandidates octets p (string_bytes text))
no_lines octets p why (Err e) is empty refused = tt
no_lines octets p why (Ok text) is empty refused = subst (AreCandidates octets p) (sym empty) (unproved why is refused)

-- the paths of a context, one after the other
abbrev pub told : List (Bor (List ℕ)) → List (List ℕ)
told paths = map (λ (p : Bor (List ℕ)). p.now) paths

pub path_next : (keys : List (List ℕ)) (i : ℕ) (x : Bor (List ℕ)) (old new : List (Bor (List ℕ))) → slice_get keys i ≡ Some x.now → told old ≡ take i keys → new ≡ old ++ x ∷ [] → told new ≡ take (i + 1) keys
path_next keys i x old new at so is =
    ap told is ∙ map-append (λ (p : Bor (List ℕ)). p.now) old (x ∷ []) ∙ ap (λ ys. ys ++ x.now ∷ []) so ∙ sym (taken)
  where
    taken : take (i + 1) keys ≡ take i keys ++ x.now ∷ []
    taken = take_more keys i x.now (slice_get_within keys i x.now at) ∙ ap (λ y. take i keys ++ y ∷ []) (get_or_from_slice_get keys i x.now x.now at)

pub path_there : (keys : List (List ℕ)) (i : ℕ) → i < length keys → None ≡ slice_get keys i → ⊥
path_there keys i lt none = let wrong : None ≡ Some (get_or keys i []) = none ∙ slice_get-get_or keys i [] lt in cc

pub paths_all : (keys : List (List ℕ)) (i : ℕ) (found : List (Bor (List ℕ))) → length keys ≤ i → told found ≡ take i keys → told found ≡ keys
paths_all keys i found over so = so ∙ take_all i keys over
