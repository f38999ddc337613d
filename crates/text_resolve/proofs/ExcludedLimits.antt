-- A file with a normal form passes no limit and has no fault of bounds.
use Rattle.std.proofs.Common.{◌≡◌, ◌∙◌, ap, ℕ, suc, zero, ◌<◌, ◌⊎◌, inl, inr, List, [], ◌∷◌, Some, None, length, map, refl, sym, subst, arith}
use Rattle.std.specs.Prelude.{slice_get}
use Rattle.std.proofs.lemmas.Bool.{cases_order}
use Rattle.std.proofs.lemmas.Option.{slice_get_within}
use Rattle.text_source.specs.declared.span.Span.{Span}
use Rattle.text_tree.specs.declared.tree.Part.{Part}
use Rattle.text_resolve.specs.Parts.{method_places}
use Rattle.sem_profile.specs.declared.fault.ProfileFault.{ProfileFault}
use Rattle.sem_profile.specs.declared.profile.Method.{Method}
use Rattle.sem_graph.proofs.OrderPushing.{some_is}
use Rattle.sem_graph.specs.Calls.{Reaches, by_call, further}
use Rattle.sem_graph.specs.Measures.{AreWeights}
use Rattle.sem_profile.proofs.FieldsRuling.{there}
use Rattle.sem_profile.specs.Limits.{Chain, depth_limit, IsWithinLimits}
use Rattle.sem_profile.specs.Resolved.{Resolved}
use Rattle.sem_profile.specs.Rooted.{IsPlain}
use Rattle.sem_profile.specs.Uses.{Uses, IsReached, without_formats, AreReached}
use Rattle.sem_profile.specs.WellFormed.{AreWellFormed}
use Rattle.text_resolve.specs.Excluded.{NoCauseOfLimits, NoCauseOfBounds}
use Rattle.text_resolve.specs.ProfileLimits.{IsTooLarge, calls_too_deep, format_too_long, fields_too_many, stands_long, weighs_more}
use Rattle.text_resolve.specs.CallDepth.{stands_deep}
use Rattle.text_resolve.specs.Methods.{HaveForm}
use Rattle.text_resolve.specs.Plain.{plain_field, PlainFormat, plain_format, PlainMethod, plain_method}
use Rattle.text_resolve.specs.Resolved.{top_of, IsNormalForm}
use Rattle.text_resolve.proofs.PlainHaveRanges.{IsCalled}
use Rattle.text_resolve.proofs.NamedMethods.{is_plain}
use Rattle.text_resolve.proofs.OneMethods.{twin, as_many, calls_as, same_uses, same_graph, AreCalled, no_table_fault}
use Rattle.text_resolve.proofs.PlainForms.{one_form}
use Rattle.text_resolve.proofs.WellFormedSoundKept.{kept_well_formed}
use Rattle.text_resolve.proofs.SoundMethods.{well_formed}
use Rattle.text_resolve.proofs.CallsUsing.{reaches_as}

-- ---- limits

not_too_large : (names : List Span) (ms ns : List Method) (top : ℕ) → map plain_method ms ≡ map plain_method ns → IsWithinLimits ms top → (f : ProfileFault) → IsTooLarge names ns top f → ⊥
not_too_large names ms ns top e limits f (calls_too_deep (stands_deep k m at chain none)) =
    let own = limits.shallow k (suc depth_limit) (subst (λ g. Chain g top (suc depth_limit) k) (sym (same_graph ms ns e)) chain) in
    absurd (omega (arith, own))
not_too_large names ms ns top e limits f (format_too_long (stands_long i k n g at at_g more)) =
    let m = twin plain_method ms ns e i n at in
    let own = twin plain_format m.0.formats n.formats (ap (λ (p : PlainMethod). p.formats) m.2) k g at_g in
    let short = limits.short i k m.0 own.0 m.1 own.1 in
    absurd (omega (arith, short, more, as_many plain_field own.0.fields g.fields (ap (λ (p : PlainFormat). p.fields) own.2)))
not_too_large names ms ns top e limits f (fields_too_many (weighs_more m weights at are more)) =
    let light = limits.light weights (subst (λ u. AreWeights u weights) (sym (same_uses ms ns e)) are) in
    absurd (omega (arith, light, more))

-- the normal forms by which a file is a profile, and others
others_as : (text : List ℕ) (parts : List Part) (name : List ℕ) (p : Resolved) (form : IsNormalForm text parts name p) (all : List Method) (top : ℕ) → top_of text parts name ≡ Some top
    → HaveForm text parts (Some top) all → (p.top ≡ top) × (map plain_method form.all ≡ map plain_method all)
others_as text parts name p form all top place have =
    let same : p.top ≡ top = some_is (sym form.top_is ∙ place) in
    (same, one_form text parts (Some top) form.all all (subst (λ t. HaveForm text parts (Some t) form.all) same form.forms) have)

pub no_cause_of_limits : NoCauseOfLimits
no_cause_of_limits text parts name p form all top place have f cause =
    let others = others_as text parts name p form all top place have in
    not_too_large (method_places parts) form.all all top others.1 (subst (IsWithinLimits form.all) others.0 form.profile.limits) f cause

-- ---- which methods the top reaches

abbrev Decided : List Method → ℕ → ℕ → Type 0
Decided methods top n = (k : ℕ) → k < n → IsReached methods top k ⊎ (IsReached methods top k → ⊥)

decided_next : (methods : List Method) (top n : ℕ) → Decided methods top n → IsReached methods top n ⊎ (IsReached methods top n → ⊥) → Decided methods top (suc n)
decided_next methods top n decided next k lt = elim (cases_order k n) as (λ _. IsReached methods top k ⊎ (IsReached methods top k → ⊥)) [
  | inl same ↦ subst (λ j. IsReached methods top j ⊎ (IsReached methods top j → ⊥)) (sym same) next
  | inr apart ↦ elim apart as (λ _. IsReached methods top k ⊎ (IsReached methods top k → ⊥)) [ inl less ↦ decided k less | inr more ↦ absurd (omega (arith, lt, more)) ]
]

-- it is not refuted that each is reached or is not
surely_decided : (methods : List Method) (top n : ℕ) → (Decided methods top n → ⊥) → ⊥
surely_decided methods top zero none = none (λ k lt. absurd (omega (arith, lt)))
surely_decided methods top (suc n) none =
    surely_decided methods top n (λ decided.
    let either = λ (o : IsReached methods top n ⊎ (IsReached methods top n → ⊥)). none (decided_next methods top n decided o) in
    either (inr (λ way. either (inl way))))

uses_as : (ms ns : List Method) → map plain_method ms ≡ map plain_method ns → (i j : ℕ) → Uses ns i j → Uses ms i j
uses_as ms ns e i j uses =
    let m = twin plain_method ms ns e i uses.method uses.at in
    record { method = m.0; at = m.1; calls = calls_as m.0 uses.method j m.2 uses.calls }

reached_as : (ms ns : List Method) → map plain_method ms ≡ map plain_method ns → (top k : ℕ) → IsReached ns top k → IsReached ms top k
reached_as ms ns e top k (inl same) = inl same
reached_as ms ns e top k (inr way) = inr (reaches_as (uses_as ms ns e) way)

same_elements : {X P : Type 0} (f : X → P) (xs ys : List X) → length xs ≡ length ys → ((k : ℕ) (x y : X) → slice_get xs k ≡ Some x → slice_get ys k ≡ Some y → f x ≡ f y) → map f xs ≡ map f ys
same_elements f [] [] count same = refl
same_elements f [] (y ∷ ys) count same = absurd (omega (arith, count))
same_elements f (x ∷ xs) [] count same = absurd (omega (arith, count))
same_elements f (x ∷ xs) (y ∷ ys) count same =
    let here = same 0 x y refl refl in
    let rest = same_elements f xs ys (omega (arith, count)) (λ k a b at_a at_b. same (suc k) a b at_a at_b) in
    λ i. here i ∷ rest i

abbrev emptied : PlainMethod → PlainMethod
emptied p = record { name = p.name; place = p.place; parameters = p.parameters; formats = [] }

-- what is kept of the ones is kept of the others
kept_as : (ms ns kept others : List Method) (top : ℕ) → map plain_method ms ≡ map plain_method ns → AreReached ms top kept → AreReached ns top others → Decided ms top (length ms)
    → map plain_method kept ≡ map plain_method others
kept_as ms ns kept others top e are were decided =
    let count = as_many plain_method ms ns e in
    same_elements plain_method kept others (omega (arith, are.each, were.each, count)) (λ k x y at_x at_y.
    let lt : k < length ms = omega (arith, slice_get_within kept k x at_x, are.each) in
    let m = there ms k lt in
    let n = twin plain_method ns ms (sym e) k m.0 m.1 in
    elim (decided k lt) as (λ _. plain_method x ≡ plain_method y) [
      | inl way ↦
          let first : m.0 ≡ x = some_is (sym (are.reached k m.0 m.1 way) ∙ at_x) in
          let second : n.0 ≡ y = some_is (sym (were.reached k n.0 n.1 (reached_as ns ms (sym e) top k way)) ∙ at_y) in
          ap plain_method (sym first) ∙ (sym n.2 ∙ ap plain_method second)
      | inr none ↦
          let first : without_formats m.0 ≡ x = some_is (sym (are.unreached k m.0 m.1 none) ∙ at_x) in
          let second : without_formats n.0 ≡ y = some_is (sym (were.unreached k n.0 n.1 (λ way. none (reached_as ms ns e top k way))) ∙ at_y) in
          ap plain_method (sym first) ∙ (ap emptied (sym n.2) ∙ ap plain_method second)
    ])

-- ---- a method that is kept with a format is the top or is called

last_call : (ms : List Method) (top k : ℕ) → Reaches (Uses ms) top k → (c : ℕ) × IsReached ms top c × Uses ms c k
last_call ms top k (by_call uses) = (top, inl refl, uses)
last_call ms top k (further {j = c} way uses) = (c, inr way, uses)

called_kept : (ms kept : List Method) (top : ℕ) → AreReached ms top kept → AreWellFormed ms → IsPlain ms top → Decided ms top (length ms) → AreCalled kept
called_kept ms kept top are formed plain decided k n m f here at_f =
    let lt : k < length ms = omega (arith, slice_get_within kept k m here, are.each) in
    let old = there ms k lt in
    elim (decided k lt) as (λ _. (m.parameters ≡ []) ⊎ IsCalled kept k (length m.parameters)) [
      | inl way ↦ elim way as (λ _. (m.parameters ≡ []) ⊎ IsCalled kept k (length m.parameters)) [
        | inl same ↦
            let own : old.0 ≡ m = some_is (sym (are.reached k old.0 old.1 (inl same)) ∙ here) in
            inl (plain m (subst (λ j. slice_get ms j ≡ Some m) same (old.1 ∙ ap Some own)))
        | inr chain ↦
            let caller = last_call ms top k chain in
            let c = caller.2.calls in
            let at_caller = are.reached caller.0 caller.2.method caller.2.at caller.1 in
            let sound = (kept_well_formed ms kept top formed are).formats caller.0 c.format_place caller.2.method c.format at_caller c.format_at in
            let callee = sound.calls c.field_place k c.field c.arguments c.field_at c.is_call in
            let same : callee.0 ≡ m = some_is (sym callee.1 ∙ here) in
            inr (record { place = caller.0; caller = caller.2.method; at = at_caller; calling = c; arguments = callee.2 ∙ ap (λ (z : Method). length z.parameters) same })
      ]
      | inr none ↦
          let bare : without_formats old.0 ≡ m = some_is (sym (are.unreached k old.0 old.1 none) ∙ here) in
          let wrong : None ≡ Some f = ap (λ (z : Method). slice_get z.formats n) bare ∙ at_f in
          absurd cc
    ]

pub no_cause_of_bounds : NoCauseOfBounds
no_cause_of_bounds text parts name p form all kept top order place have are ordered table stand sized ranged x f faulty =
    let others = others_as text parts name p form all top place have in
    let own = subst (λ t. AreReached form.all t p.methods) others.0 form.profile.reached in
    let formed = well_formed text parts (Some p.top) form.all form.forms in
    let plain = subst (IsPlain form.all) others.0 (is_plain text parts name p.top form.all form.top_is form.forms) in
    surely_decided form.all top (length form.all) (λ decided.
    no_table_fault p.methods kept order stand p.sizes table (record {
      plain = kept_as form.all all p.methods kept top others.1 own are decided;
      called = called_kept form.all p.methods top own formed plain decided;
      sizes = form.profile.sized;
      ordered = ordered;
      sized = sized;
      ranged = ranged;
    }) x f faulty)
