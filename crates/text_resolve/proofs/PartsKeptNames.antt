-- Names, and what the top reaches, hold on when the methods that it doesn't reach lose their formats.
use Rattle.std.proofs.Common.{◌≡◌, ◌∙◌, ap, ℕ, inl, inr, List, refl, sym, arith}
use Rattle.std.specs.Prelude.{Some, slice_get}
use Rattle.std.proofs.lemmas.Option.{slice_get_within}
use Rattle.sem_profile.specs.declared.profile.Method.{Method}
use Rattle.sem_graph.specs.Calls.{Reaches, by_call, further}
use Rattle.sem_graph.proofs.OrderPushing.{some_is}
use Rattle.sem_profile.specs.Named.{MethodIsNamed, AreNamed}
use Rattle.sem_profile.specs.Rooted.{IsPlain, HaveFormats, IsRooted}
use Rattle.sem_profile.specs.Uses.{Uses, IsReached, without_formats, AreReached}
use Rattle.text_resolve.proofs.ProfileLimitsKept.{uses_before}
use Rattle.text_resolve.proofs.WellFormedSoundKept.{Surely, surely_from, surely_same, reached_on, with_format}
use Rattle.text_resolve.proofs.CallsUsing.{element_at}

-- ---- names

-- the method that a kept one was, of which only formats can be gone
record Was (methods : List Method) (k : ℕ) (m : Method) : Type 0 where
  method : Method
  at : slice_get methods k ≡ Some method
  name : method.name ≡ m.name
  parameters : method.parameters ≡ m.parameters

was : (methods kept : List Method) (top k : ℕ) (m : Method) → AreReached methods top kept → slice_get kept k ≡ Some m → Surely (Was methods k m)
was methods kept top k m are at none =
    let old = element_at methods k (omega (arith, slice_get_within kept k m at, are.each)) in
    let unreached : IsReached methods top k → ⊥ = λ way.
    let same : old.0 ≡ m = some_is (sym (are.reached k old.0 old.1 way) ∙ at) in
    none (record { method = old.0; at = old.1; name = ap (λ (z : Method). z.name) same; parameters = ap (λ (z : Method). z.parameters) same }) in
    let bare : without_formats old.0 ≡ m = some_is (sym (are.unreached k old.0 old.1 unreached) ∙ at) in
    none (record { method = old.0; at = old.1; name = ap (λ (z : Method). z.name) bare; parameters = ap (λ (z : Method). z.parameters) bare })

kept_method_named : (methods kept : List Method) (top k : ℕ) (m : Method) → AreNamed methods → AreReached methods top kept → slice_get kept k ≡ Some m → MethodIsNamed m
kept_method_named methods kept top k m named are at = record {
  parameters = λ i j name at_i at_j. surely_same i j (surely_from (was methods kept top k m are at) (λ w.
      (named.each k w.method w.at).parameters i j name (ap (λ ns. slice_get ns i) w.parameters ∙ at_i) (ap (λ ns. slice_get ns j) w.parameters ∙ at_j)));
  formats = λ i j f g at_i at_j same. surely_same i j (surely_from (with_format methods kept top k i m f are at at_i) (λ there. (named.each k m there.1).formats i j f g at_i at_j same));
  alone = λ i j f g at_i is at_j. surely_same i j (surely_from (with_format methods kept top k i m f are at at_i) (λ there. (named.each k m there.1).alone i j f g at_i is at_j));
  fields = λ n f here i j d e at_i at_j same. surely_same i j (surely_from (with_format methods kept top k n m f are at here) (λ there. (named.each k m there.1).fields n f here i j d e at_i at_j same));
}

pub kept_named : (methods kept : List Method) (top : ℕ) → AreNamed methods → AreReached methods top kept → AreNamed kept
kept_named methods kept top named are = record {
  once = λ i j m n at_i at_j same. surely_same i j (λ none. was methods kept top i m are at_i (λ v. was methods kept top j n are at_j (λ w.
      none (named.once i j v.method w.method v.at w.at (v.name ∙ (same ∙ sym w.name))))));
  each = λ k m at. kept_method_named methods kept top k m named are at;
}

-- ---- what the top reaches

-- by the calls of the kept methods the top reaches what it reached before
reached_before : (methods kept : List Method) (top k : ℕ) → AreReached methods top kept → Reaches (Uses kept) top k → IsReached methods top k
reached_before methods kept top k are (by_call uses) = reached_on methods top top k (inl refl) (uses_before methods kept top top k are (inl refl) uses)
reached_before methods kept top k are (further {j = j} way uses) =
    let before = reached_before methods kept top j are way in
    reached_on methods top j k before (uses_before methods kept top j k are before uses)

uses_after : (methods kept : List Method) (top i j : ℕ) → AreReached methods top kept → IsReached methods top i → Uses methods i j → Uses kept i j
uses_after methods kept top i j are way uses = record { method = uses.method; at = are.reached i uses.method uses.at way; calls = uses.calls }

reached_after : (methods kept : List Method) (top k : ℕ) → AreReached methods top kept → Reaches (Uses methods) top k → Reaches (Uses kept) top k
reached_after methods kept top k are (by_call uses) = by_call (uses_after methods kept top top k are (inl refl) uses)
reached_after methods kept top k are (further {j = j} way uses) = further (reached_after methods kept top j are way) (uses_after methods kept top j k are (inr way) uses)

before : (methods kept : List Method) (top k : ℕ) → AreReached methods top kept → IsReached kept top k → IsReached methods top k
before methods kept top k are (inl same) = inl same
before methods kept top k are (inr way) = reached_before methods kept top k are way

after : (methods kept : List Method) (top k : ℕ) → AreReached methods top kept → IsReached methods top k → IsReached kept top k
after methods kept top k are (inl same) = inl same
after methods kept top k are (inr way) = inr (reached_after methods kept top k are way)

pub kept_rooted : (methods kept : List Method) (top : ℕ) → IsPlain methods top → HaveFormats methods → AreReached methods top kept → IsRooted kept top
kept_rooted methods kept top plain formats are = record {
  plain = λ m at.
      let old = element_at methods top (omega (arith, slice_get_within kept top m at, are.each)) in
      let same : old.0 ≡ m = some_is (sym (are.reached top old.0 old.1 (inl refl)) ∙ at) in
      plain m (old.1 ∙ ap Some same);
  reached = λ k m at way.
      let old = element_at methods k (omega (arith, slice_get_within kept k m at, are.each)) in
      let same : old.0 ≡ m = some_is (sym (are.reached k old.0 old.1 (before methods kept top k are way)) ∙ at) in
      formats k m (old.1 ∙ ap Some same);
  unreached = λ k m at none.
      let old = element_at methods k (omega (arith, slice_get_within kept k m at, are.each)) in
      let bare : without_formats old.0 ≡ m = some_is (sym (are.unreached k old.0 old.1 (λ way. none (after methods kept top k are way))) ∙ at) in
      ap (λ (z : Method). z.formats) (sym bare);
}
