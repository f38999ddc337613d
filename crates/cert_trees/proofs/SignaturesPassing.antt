-- What is told of the formats decides which of them pass a test.
use Rattle.std.proofs.Common.{◌≡◌, ◌∙◌, refl, sym, ap, subst, ℕ, zero, suc, ◌+◌, ◌<◌, ◌≤◌, Bool, not, List, [], ◌∷◌, ◌++◌, length, drop, get_or, append_assoc, arith}
use Rattle.std.specs.Prelude.{◌&&◌, slice_get, Some, None}
use Rattle.std.specs.List.{list_any}
use Rattle.std.proofs.lemmas.List.{drop_more, drop_all, length_push, append-nil}
use Rattle.std.proofs.lemmas.Option.{slice_get_within}
use Rattle.sem_profile.specs.declared.profile.FormatSizes.{FormatSizes}
use Rattle.sem_profile.specs.declared.profile.Format.{Format}
use Rattle.cert_rules.specs.Trees.{is_bit, Reach}
use Rattle.cert_trees.specs.declared.signatures.Signature.{Signature}
use Rattle.cert_trees.specs.declared.signatures.Test.{Test}
use Rattle.cert_trees.specs.declared.signatures.Test.TheVariants.{Lacks, MayBe, MayDiffer, MayHold, MayLack}
use Rattle.cert_trees.specs.Equations.{excludes, fixes}
use Rattle.cert_trees.specs.Signature.{IsSignature, AreSignatures, IsTest, survives, passes, kept}
use Rattle.cert_trees.specs.Judged.{reaching}
use Rattle.cert_trees.proofs.EquationsComparing.{all_excluded, all_fixed, all_never, all_only}

-- the first so many formats are told
pub record ToldTo (tolds : List Signature) (formats : List Format) (sizes : List FormatSizes) (place : ℕ) : Type 0 where
  pub count : length tolds ≡ place
  pub within : place ≤ length sizes
  pub each : (n : ℕ) (told : Signature) (format : Format) (z : FormatSizes) → slice_get tolds n ≡ Some told → slice_get formats n ≡ Some format → slice_get sizes n ≡ Some z → IsSignature told format z

at_push : {A : Type 0} (xs : List A) (y t : A) (n : ℕ) (P : Type 0) → slice_get (xs ++ y ∷ []) n ≡ Some t → (slice_get xs n ≡ Some t → P) → (n ≡ length xs → y ≡ t → P) → P
at_push [] y t zero P e old new = new refl (let same : y ≡ t = cc in same)
at_push [] y t (suc n) P e old new = absurd (cc)
at_push (x ∷ xs) y t zero P e old new = old e
at_push (x ∷ xs) y t (suc n) P e old new = at_push xs y t n P e old (λ l. new (ap suc l))

pub none_told : (tolds : List Signature) (formats : List Format) (sizes : List FormatSizes) → tolds ≡ [] → ToldTo tolds formats sizes 0
none_told tolds formats sizes none = record {
  count = ap length none;
  within = omega arith;
  each = λ n told f z at f_at z_at. let wrong : None ≡ Some told = ap (λ xs. slice_get xs n) (sym none) ∙ at in absurd (cc);
}

pub told_more : (tolds newer : List Signature) (told : Signature) (formats : List Format) (sizes : List FormatSizes) (place : ℕ) (f : Format) (z : FormatSizes) → ToldTo tolds formats sizes place →
    newer ≡ tolds ++ told ∷ [] → slice_get formats place ≡ Some f → slice_get sizes place ≡ Some z → IsSignature told f z → ToldTo newer formats sizes (place + 1)
told_more tolds newer told formats sizes place f z so pushed f_at z_at is = record {
  count = ap length pushed ∙ (length_push tolds told ∙ ap (λ n. n + 1) so.count);
  within = omega (arith, slice_get_within sizes place z z_at);
  each = λ n t g y at g_at y_at. at_push tolds told t n (IsSignature t g y) (ap (λ xs. slice_get xs n) (sym pushed) ∙ at)
      (λ old. so.each n t g y old g_at y_at)
      (λ last same.
      let here : n ≡ place = last ∙ so.count in
      let one : Some f ≡ Some g = sym f_at ∙ (ap (slice_get formats) (sym here) ∙ g_at) in
      let two : Some z ≡ Some y = sym z_at ∙ (ap (slice_get sizes) (sym here) ∙ y_at) in
      let f_is : f ≡ g = cc in
      let z_is : z ≡ y = cc in
      subst (λ q. IsSignature q g y) same (subst (λ q. IsSignature told q y) f_is (subst (λ q. IsSignature told f q) z_is is)));
}

pub passes_is : (told : Signature) (format : Format) (z : FormatSizes) (test : Test) → IsSignature told format z → IsTest test → passes test told ≡ survives test format z
passes_is told format z (Lacks o b) is small = ap (λ t. not (is_bit b t)) (is.bits o small)
passes_is told format z (MayBe p c) is tt = ap not (ap (list_any (excludes p c)) is.equations ∙ all_excluded p c format.constraints)
passes_is told format z (MayDiffer p c) is tt = ap not (ap (list_any (fixes p c)) is.equations ∙ all_fixed p c format.constraints)
passes_is told format z (MayHold i c) is tt = ap not (ap (list_any (excludes i c)) is.references ∙ all_never format.fields i c format.constraints)
passes_is told format z (MayLack i c) is tt = ap not (ap (list_any (fixes i c)) is.references ∙ all_only format.fields i c format.constraints)

kept_empty : (test : Test) (tolds : List Signature) → kept test tolds [] ≡ []
kept_empty test [] = refl
kept_empty test (t ∷ tolds) = refl

pub kept_past : (test : Test) (tolds : List Signature) (set left whole : List Bool) (place : ℕ) → length set ≤ place → left ++ kept test (drop place tolds) (drop place set) ≡ whole → left ≡ whole
kept_past test tolds set left whole place past so =
    sym (append-nil left) ∙ (ap (λ xs. left ++ xs) (sym (kept_empty test (drop place tolds)) ∙ ap (kept test (drop place tolds)) (sym (drop_all place set past))) ∙ so)

pub kept_more : (test : Test) (tolds : List Signature) (set left newer whole : List Bool) (place : ℕ) (told : Signature) (d b : Bool) → place < length tolds → place < length set → told ≡ get_or tolds place told →
    b ≡ (get_or set place d && passes test told) → newer ≡ left ++ b ∷ [] → left ++ kept test (drop place tolds) (drop place set) ≡ whole →
    newer ++ kept test (drop (place + 1) tolds) (drop (place + 1) set) ≡ whole
kept_more test tolds set left newer whole place told d b in_tolds in_set is mark pushed so =
    let front : drop place tolds ≡ told ∷ drop (place + 1) tolds = drop_more tolds place told in_tolds ∙ ap (λ t. t ∷ drop (place + 1) tolds) (sym is) in
    let rest = kept test (drop (place + 1) tolds) (drop (place + 1) set) in
    ap (λ xs. xs ++ rest) pushed ∙ (append_assoc left (b ∷ []) rest ∙ (ap (λ x. left ++ (x ∷ rest)) mark ∙ (ap (λ xs. left ++ xs) (λ i. kept test (sym front i) (sym (drop_more set place d in_set) i)) ∙ so)))

-- those that pass are those that reach on
pub kept_is : (test : Test) (reach : Reach) (tolds : List Signature) (formats : List Format) (sizes : List FormatSizes) → IsTest test → AreSignatures tolds formats sizes →
    kept test tolds (reaching reach formats sizes) ≡ reaching (λ f z. reach f z && survives test f z) formats sizes
kept_is test reach [] [] sizes is told = refl
kept_is test reach [] (f ∷ formats) [] is told = refl
kept_is test reach [] (f ∷ formats) (z ∷ sizes) is told = absurd (omega (arith, told.count))
kept_is test reach (t ∷ tolds) [] sizes is told = absurd (omega (arith, told.count))
kept_is test reach (t ∷ tolds) (f ∷ formats) [] is told = absurd (omega (arith, told.count))
kept_is test reach (t ∷ tolds) (f ∷ formats) (z ∷ sizes) is told =
    let rest : AreSignatures tolds formats sizes = record { count = omega (arith, told.count); each = λ n. told.each (suc n) } in
    λ i. (reach f z && passes_is t f z test (told.each zero t f z refl refl refl) is i) ∷ kept_is test reach tolds formats sizes is rest i
