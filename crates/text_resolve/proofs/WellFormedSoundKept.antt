-- Methods stay well formed when those that the top doesn't reach lose their formats.
use Rattle.std.proofs.Common.{◌≡◌, ◌∙◌, ap, ℕ, ◌<◌, inl, inr, suc, zero, List, [], ◌∷◌, length, refl, sym, subst, arith}
use Rattle.std.specs.Prelude.{Option, Some, None, slice_get}
use Rattle.std.proofs.lemmas.Bool.{cases_lt, cases_eq}
use Rattle.std.proofs.lemmas.Option.{slice_get_within}
use Rattle.sem_expr.specs.declared.inputs.Input.{Input}
use Rattle.sem_expr.specs.Inputs.{inputs_of, condition_inputs_of}
use Rattle.sem_profile.specs.declared.profile.Format.{Format}
use Rattle.sem_profile.specs.declared.profile.Method.{Method}
use Rattle.sem_graph.proofs.OrderPushing.{some_is}
use Rattle.sem_graph.specs.Calls.{by_call, further}
use Rattle.sem_profile.specs.Uses.{Uses, IsReached, without_formats, AreReached}
use Rattle.sem_profile.specs.WellFormed.{AreWithin, FormatIsSound, initial_limit}
use Rattle.text_resolve.specs.WellFormed.{KeptIsWellFormed}

-- what is not refuted
abbrev pub Surely : Type 0 → Type 0
Surely P = (P → ⊥) → ⊥

pub surely_from : {P Q : Type 0} → Surely P → (P → Q) → Surely Q
surely_from sure into none = sure (λ p. none (into p))

pub surely_less : (a b : ℕ) → Surely (a < b) → a < b
surely_less a b sure = elim (cases_lt a b) as (λ _. a < b) [
  | inl less ↦ less
  | inr more ↦ absurd (sure (λ less. omega (arith, less, more)))
]

pub surely_same : (a b : ℕ) → Surely (a ≡ b) → a ≡ b
surely_same a b sure = elim (cases_eq a b) as (λ _. a ≡ b) [
  | inl same ↦ same
  | inr other ↦ absurd (sure other)
]

surely_within : (fields parameters : ℕ) (inputs : List Input) → Surely (AreWithin fields parameters inputs) → AreWithin fields parameters inputs
surely_within fields parameters inputs sure = record {
  of_fields = λ k i t at is. surely_less i fields (surely_from sure (λ s. s.of_fields k i t at is));
  of_parameters = λ k i at. surely_less i parameters (surely_from sure (λ s. s.of_parameters k i at));
}

-- a method at a place with so many parameters
abbrev IsThere : List Method → ℕ → ℕ → Type 0
IsThere methods k count = (callee : Method) × (slice_get methods k ≡ Some callee) × (count ≡ length callee.parameters)

surely_there : (methods : List Method) (k count : ℕ) → Surely (IsThere methods k count) → IsThere methods k count
surely_there methods k count sure = by (slice_get methods k) refl
  where
    by : (o : Option Method) → slice_get methods k ≡ o → IsThere methods k count
    by None e = absurd (sure (λ there. let wrong : None ≡ Some there.0 = sym e ∙ there.1 in absurd cc))
    by (Some m) e = (m, e, surely_same count (length m.parameters) (surely_from sure (λ there. there.2 ∙ ap (λ (c : Method). length c.parameters) (some_is (sym there.1 ∙ e)))))

surely_sound : (methods : List Method) (parameters : ℕ) (f : Format) → Surely (FormatIsSound methods parameters f) → FormatIsSound methods parameters f
surely_sound methods parameters f sure = record {
  listed = λ n i at. surely_less i (length f.fields) (surely_from sure (λ s. s.listed n i at));
  once = λ n m i at_n at_m. surely_same n m (surely_from sure (λ s. s.once n m i at_n at_m));
  encoded = λ n i d at_n at bare. sure (λ s. s.encoded n i d at_n at bare);
  initials = λ i d bits at is. (
    let less = surely_less (length bits) (suc initial_limit) (surely_from sure (λ s. let short = (s.initials i d bits at is).0 in omega (arith, short))) in omega (arith, less),
    λ local. sure (λ s. (s.initials i d bits at is).1 local),
  );
  referring = λ i d at refer local. sure (λ s. s.referring i d at refer local);
  bracketed = λ n i side lengths place at. surely_less i (length f.fields) (surely_from sure (λ s. s.bracketed n i side lengths place at));
  expressions = λ e stands. surely_within (length f.fields) parameters (inputs_of e) (surely_from sure (λ s. s.expressions e stands));
  conditions = λ n c place at. surely_within (length f.fields) parameters (condition_inputs_of c) (surely_from sure (λ s. s.conditions n c place at));
  crcs = λ i n d c at is subject. surely_less n (length f.fields) (surely_from sure (λ s. s.crcs i n d c at is subject));
  calls = λ i k d arguments at is. surely_there methods k (length arguments) (surely_from sure (λ s. s.calls i k d arguments at is));
}

-- ---- a format of a method that the top reaches

pub reached_on : (methods : List Method) (top i j : ℕ) → IsReached methods top i → Uses methods i j → IsReached methods top j
reached_on methods top i j (inl same) uses = inr (by_call (subst (λ n. Uses methods n j) same uses))
reached_on methods top i j (inr way) uses = inr (further way uses)

sound_reached : (methods kept : List Method) (top k n : ℕ) (m : Method) (f : Format) → AreReached methods top kept → IsReached methods top k → slice_get methods k ≡ Some m → slice_get m.formats n ≡ Some f
    → FormatIsSound methods (length m.parameters) f → FormatIsSound kept (length m.parameters) f
sound_reached methods kept top k n m f are way at here sound = record {
  listed = sound.listed;
  once = sound.once;
  encoded = sound.encoded;
  initials = sound.initials;
  referring = sound.referring;
  bracketed = sound.bracketed;
  expressions = sound.expressions;
  conditions = sound.conditions;
  crcs = sound.crcs;
  calls = λ i j d arguments field_at is.
      let uses : Uses methods k j = record {
        method = m;
        at = at;
        calls = record { format = f; format_place = n; format_at = here; field = d; field_place = i; field_at = field_at; arguments = arguments; is_call = is };
      } in
      let callee = sound.calls i j d arguments field_at is in
      (callee.0, are.reached j callee.0 callee.1 (reached_on methods top k j way uses), callee.2);
}

element_at : (methods : List Method) (k : ℕ) → k < length methods → (m : Method) × (slice_get methods k ≡ Some m)
element_at [] k lt = absurd (omega arith)
element_at (m ∷ ms) zero lt = (m, refl)
element_at (m ∷ ms) (suc k) lt = element_at ms k (omega arith)

no_format : (m : Method) (n : ℕ) (f : Format) → slice_get (without_formats m).formats n ≡ Some f → ⊥
no_format m n f at = let wrong : None ≡ Some f = at in absurd cc

-- a kept method that has a format is one that the top reaches, as it was
pub with_format : (methods kept : List Method) (top k n : ℕ) (m : Method) (f : Format) → AreReached methods top kept → slice_get kept k ≡ Some m → slice_get m.formats n ≡ Some f
    → Surely (IsReached methods top k × (slice_get methods k ≡ Some m))
with_format methods kept top k n m f are at here none =
    let old = element_at methods k (omega (arith, slice_get_within kept k m at, are.each)) in
    let unreached : IsReached methods top k → ⊥ = λ way. none (way, old.1 ∙ ap Some (some_is (sym (are.reached k old.0 old.1 way) ∙ at))) in
    let bare : without_formats old.0 ≡ m = some_is (sym (are.unreached k old.0 old.1 unreached) ∙ at) in
    no_format old.0 n f (subst (λ (c : Method). slice_get c.formats n ≡ Some f) (sym bare) here)

pub kept_well_formed : KeptIsWellFormed
kept_well_formed methods kept top formed are = record {
  formats = λ k n m f at here.
      surely_sound kept (length m.parameters) f
      (surely_from (with_format methods kept top k n m f are at here) (λ there. sound_reached methods kept top k n m f are there.0 there.1 here (formed.formats k n m f there.1 here)));
}
