-- By a format that stands alone nothing goes wrong.
use Rattle.std.proofs.Common.{◌≡◌, ◌∙◌, refl, sym, subst, ℕ, inl, inr, Bool, true, false, List}
use Rattle.std.specs.Prelude.{◌||◌, ◌↔◌, not, Option, Some, None, slice_get}
use Rattle.std.proofs.lemmas.Bool.{true≢false}
use Rattle.sem_profile.specs.declared.profile.Encoding.{Encoding}
use Rattle.sem_profile.specs.declared.profile.Encoding.TheVariants as encoding
use Rattle.sem_profile.specs.declared.profile.Library.{Library}
use Rattle.sem_profile.specs.declared.profile.Library.TheVariants as library
use Rattle.sem_profile.specs.declared.profile.Field.{Field}
use Rattle.sem_profile.specs.declared.profile.Format.{Format}
use Rattle.sem_profile.specs.declared.profile.Method.{Method}
use Rattle.sem_graph.specs.Calls.{Reaches, by_call, further}
use Rattle.sem_elsewhere.specs.Uses.{StandsAlone, FieldAlone, alone, bare_alone, coded_alone, called_alone, refers_by}
use Rattle.sem_lint.specs.Needs.{is_dead, takes_reference}
use Rattle.sem_lint.specs.Paths.{called_by}
use Rattle.sem_lint.specs.Sites.{format_in}
use Rattle.sem_lint.specs.Unnoticed.{CallsUnchecked, RefersUnchecked, IsLoose, any_place, calls_loose, is_wrong_field, is_wrong_format, AloneIsSilent}
use Rattle.sem_lint.proofs.UnnoticedReaching.{both, either, has_place}

-- each format of the method stands alone
abbrev pub AreAlone : List Method → ℕ → Type 0
AreAlone methods k = (n : ℕ) (f : Format) → format_in methods k n ≡ Some f → StandsAlone methods f

library_refers : (l : Library) → takes_reference (encoding.Library l) ≡ refers_by l
library_refers (library.UncompressedValue len v) = refl
library_refers (library.CompressedValue len v) = refl
library_refers (library.Irregular len) = refl
library_refers library.Static = refl
library_refers (library.Lsb bits offset) = refl
library_refers (library.Crc crc) = refl

module _ (methods : List Method) (dead : List (List Bool)) where
  field_of : (f : Format) → StandsAlone methods f → (i : ℕ) (d : Field) → slice_get f.fields i ≡ Some d → FieldAlone methods d.encoding
  field_of f (alone each) i d at = each i d at

  -- what stands alone doesn't refer
  refers_none : (e : Encoding) → FieldAlone methods e → takes_reference e ≡ true → ⊥
  refers_none e bare_alone is = true≢false (sym is)
  refers_none e (coded_alone {l} none) is = true≢false (sym is ∙ library_refers l ∙ none)
  refers_none e (called_alone {k} {es} all) is = true≢false (sym is)

  -- and calls what stands alone
  calls_alone : (e : Encoding) → FieldAlone methods e → (j : ℕ) → called_by e ≡ Some j → AreAlone methods j
  calls_alone e bare_alone j is = absurd (cc)
  calls_alone e (coded_alone {l} none) j is = absurd (cc)
  calls_alone e (called_alone {k} {es} all) j is = let same : k ≡ j = cc in subst (AreAlone methods) same (λ n f at. all n f at)

  call_alone : (k j : ℕ) → AreAlone methods k → CallsUnchecked methods dead k j → AreAlone methods j
  call_alone k j are c = calls_alone c.field.encoding (field_of c.format (are c.number c.format c.format_is) c.place c.field c.field_at) j c.called

  reach_alone : {k j : ℕ} → AreAlone methods k → Reaches (CallsUnchecked methods dead) k j → AreAlone methods j
  reach_alone {k} {j} are (by_call c) = call_alone k j are c
  reach_alone {k} {j} are (further {j = m} way c) = call_alone m j (reach_alone are way) c

  no_reference : (k : ℕ) → AreAlone methods k → RefersUnchecked methods dead k → ⊥
  no_reference k are r = refers_none r.field.encoding (field_of r.format (are r.number r.format r.format_is) r.place r.field r.field_at) r.refers

  never_loose : (k : ℕ) → AreAlone methods k → IsLoose methods dead k → ⊥
  never_loose k are (inl own) = no_reference k are own
  never_loose k are (inr (j, way, own)) = no_reference j (reach_alone are way) own

  module _ (loose : ℕ → Bool) (are_loose : (k : ℕ) → (loose k ≡ true) ↔ IsLoose methods dead k) where
    never_calls : (e : Encoding) → FieldAlone methods e → (o : Option ℕ) → called_by e ≡ o → calls_loose loose o ≡ true → ⊥
    never_calls e is None at holds = true≢false (sym holds)
    never_calls e is (Some j) at holds = never_loose j (calls_alone e is j at) ((are_loose j).0 holds)

    never_field : (f : Format) → StandsAlone methods f → any_place (is_wrong_field loose f) 0 f.fields ≡ true → ⊥
    never_field f stands holds =
        let p = has_place (is_wrong_field loose f) 0 f.fields holds in
        let is = field_of f stands p.place p.one p.one_at in
        let t = (both (takes_reference p.one.encoding || calls_loose loose (called_by p.one.encoding)) _ p.passes).0 in
        elim (either (takes_reference p.one.encoding) _ t) as (λ _. ⊥) [
          | inl refers ↦ refers_none p.one.encoding is refers
          | inr calls ↦ never_calls p.one.encoding is (called_by p.one.encoding) refl calls
        ]

    silent_by : (k n : ℕ) (f : Format) → StandsAlone methods f → (b : Bool) → is_wrong_format dead loose k n f ≡ b → b ≡ false
    silent_by k n f stands false e = refl
    silent_by k n f stands true e = absurd (never_field f stands (both (not (is_dead dead k n)) _ e).1)

pub alone_is_silent : AloneIsSilent
alone_is_silent methods dead loose are_loose k n f stands = silent_by methods dead loose are_loose k n f stands (is_wrong_format dead loose k n f) refl
