-- The worked example.
use Rattle.std.proofs.Common.{◌≡◌, refl, ◌∙◌, ap, subst, ℕ, zero, suc, ◌+◌, ◌*◌, Bool, true, List, [], ◌∷◌, ◌++◌, map}
use Rattle.std.specs.Prelude.{Option, Some, None, option_map, slice_get}
use Rattle.sem_bits.specs.Number.{num}
use Rattle.sem_profile.specs.declared.profile.Method.{Method}
use Rattle.sem_filling.specs.declared.filling.Filling.{Filling, out-roll-Filling}
use Rattle.sem_filling.specs.declared.filling.FilledField.{FilledField, roll-FilledField, out-roll-FilledField}
use Rattle.sem_filling.specs.Fits.{format_at}
use Rattle.cert_rules.specs.Counts.{entry_ways, entry_at}
use Rattle.cert_candidates.specs.Codes.{Shown, show, code, number, plan_code, plan_number, ways_before, write_plan}
use Rattle.cert_candidates.specs.Example as e
use Rattle.cert_candidates.specs.Example.{ExampleIsNumbered}
use Rattle.cert_candidates.proofs.CodesLevels.{code_is, number_is}

given : {A : Type 0} (P : A → Type 0) (x d : A) → Some x ≡ Some d → P x → P d
given P x d e p = let same : x ≡ d = cc in subst P same p

right : (k n : ℕ) (m : Method) → slice_get e.methods k ≡ Some m → slice_get e.counts k ≡ Some n → n ≡ entry_ways e.counts m.formats (entry_at e.entries k)
right zero n m is_m is_n = given (λ (z : Method). n ≡ entry_ways e.counts z.formats (entry_at e.entries 0)) _ m is_m (let same : 7 ≡ n = cc in cc)
right (suc zero) n m is_m is_n = given (λ (z : Method). n ≡ entry_ways e.counts z.formats (entry_at e.entries 1)) _ m is_m (let same : 3 ≡ n = cc in cc)
right (suc (suc k)) n m is_m is_n = absurd (cc)

-- what the fields show
module _ {A : Type 0} (make : Filling → ℕ → A) where
  shown : (fs : List Bool) (cs : List Bool) (o : Option Filling) → show make (roll-FilledField record { declared = e.bit.declared; uncompressed = fs; compressed = cs; inner = o }) ≡ record { bits = fs; inner = option_map make o }
  shown fs cs o =
      ap (λ z. record { bits = z.uncompressed; inner = option_map make z.inner }) (out-roll-FilledField record { declared = e.bit.declared; uncompressed = fs; compressed = cs; inner = o })

-- one level
number_at : (k : ℕ) (listing : List ℕ) (fields : List FilledField) (gs : List (Shown ℕ)) → map (show (number e.methods e.entries e.counts)) fields ≡ gs →
    number e.methods e.entries e.counts (e.filled listing fields) k ≡ ways_before e.methods e.entries e.counts k 0 + plan_number e.counts gs (format_at e.methods k 0) (write_plan e.entries k 0)
number_at k listing fields gs are =
    number_is e.methods e.entries e.counts k (e.filled listing fields)
    ∙ ap (λ z. ways_before e.methods e.entries e.counts k z.format + plan_number e.counts (map (show (number e.methods e.entries e.counts)) z.fields) (format_at e.methods k z.format) (write_plan e.entries k z.format))
    (out-roll-Filling record { format = 0; listing = listing; fields = fields })
    ∙ ap (λ z. ways_before e.methods e.entries e.counts k 0 + plan_number e.counts z (format_at e.methods k 0) (write_plan e.entries k 0)) are

code_at : (k : ℕ) (listing : List ℕ) (fields : List FilledField) (gs : List (Shown (List ℕ))) → map (show (code e.methods e.entries)) fields ≡ gs →
    code e.methods e.entries (e.filled listing fields) k ≡ 0 ∷ plan_code gs (format_at e.methods k 0) (write_plan e.entries k 0)
code_at k listing fields gs are =
    code_is e.methods e.entries k (e.filled listing fields)
    ∙ ap (λ z. z.format ∷ plan_code (map (show (code e.methods e.entries)) z.fields) (format_at e.methods k z.format) (write_plan e.entries k z.format)) (out-roll-Filling record { format = 0; listing = listing; fields = fields })
    ∙ ap (λ z. 0 ∷ plan_code z (format_at e.methods k 0) (write_plan e.entries k 0)) are

one_is : num (true ∷ []) ≡ 1
unfolding num
one_is = refl

-- the filling inside
abbrev inside : Filling
inside = e.filled (0 ∷ []) (e.one ∷ [])

number_inside : number e.methods e.entries e.counts inside 1 ≡ 1
number_inside =
    number_at 1 (0 ∷ []) (e.one ∷ []) (record { bits = true ∷ []; inner = None } ∷ []) (λ i. shown (number e.methods e.entries e.counts) (true ∷ []) (true ∷ []) None i ∷ [])
    ∙ ap (λ n. 0 + (n * 1 + 0)) one_is

code_inside : code e.methods e.entries inside 1 ≡ 0 ∷ 1 ∷ []
code_inside =
    code_at 1 (0 ∷ []) (e.one ∷ []) (record { bits = true ∷ []; inner = None } ∷ []) (λ i. shown (code e.methods e.entries) (true ∷ []) (true ∷ []) None i ∷ [])
    ∙ ap (λ n. 0 ∷ n ∷ []) one_is

abbrev listing : List ℕ
listing = 0 ∷ 1 ∷ []

abbrev fields : List FilledField
fields = e.one ∷ roll-FilledField record { declared = e.inner.declared; uncompressed = []; compressed = true ∷ []; inner = Some inside } ∷ []

pub example_is_numbered : ExampleIsNumbered
example_is_numbered = record {
  counted = record { each = refl; right = right };
  number_is =
      let make = number e.methods e.entries e.counts in
      number_at 0 listing fields (record { bits = true ∷ []; inner = None } ∷ record { bits = []; inner = Some (make inside) } ∷ []) (λ i. shown make (true ∷ []) (true ∷ []) None i ∷ shown make [] (true ∷ []) (Some inside) i ∷ [])
      ∙ (λ i. 0 + (one_is i * 3 + (number_inside i * 1 + 0)));
  code_is =
      let make = code e.methods e.entries in
      code_at 0 listing fields (record { bits = true ∷ []; inner = None } ∷ record { bits = []; inner = Some (make inside) } ∷ []) (λ i. shown make (true ∷ []) (true ∷ []) None i ∷ shown make [] (true ∷ []) (Some inside) i ∷ [])
      ∙ (λ i. 0 ∷ one_is i ∷ (code_inside i ++ []));
}
