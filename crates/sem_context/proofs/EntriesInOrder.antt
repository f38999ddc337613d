-- Bits that are put in the entries of a context in their order are put at their paths.
use Rattle.std.proofs.Common.{◌≡◌, ℕ, zero, suc, ◌+◌, ◌<◌, ◌≤◌, Bool, false, cond, List, [], ◌∷◌, ◌++◌, map, length, drop, get_or, Some, refl, sym, ap, ◌∙◌, subst, arith}
use Rattle.std.specs.Prelude.{slice_get}
use Rattle.std.specs.List.{IsDistinct, AllByRecursion}
use Rattle.std.specs.Map.{keys_of}
use Rattle.std.specs.Str.{bytes_eq}
use Rattle.std.proofs.lemmas.List.{drop_all, length-map, get_or-drop, get_or_default}
use Rattle.std.proofs.lemmas.Slice.Eq.{bytes_eq-Decides}
use Rattle.sem_context.specs.Entries.{Entries, AreDistinct, IsFront, with_bits_at, with_entry, overridden}
use Rattle.sem_context.proofs.EntriesOverrides.{bytes_eq-sym}

pub keys-set : (es : Entries) (i : ℕ) (bits : List Bool) → keys_of (with_bits_at es i bits) ≡ keys_of es
keys-set [] i bits = refl
keys-set (e ∷ es) zero bits = refl
keys-set (e ∷ es) (suc i) bits = ap (λ ks. e.0 ∷ ks) (keys-set es i bits)

-- bits at the place of a path are put at that path
pub put_at_path : (es : Entries) (i : ℕ) (path : List ℕ) (bits : List Bool) → AreDistinct es → slice_get (keys_of es) i ≡ Some path → with_bits_at es i bits ≡ with_entry es path bits
unfolding IsDistinct
put_at_path [] i path bits distinct there = absurd (cc)
put_at_path (e ∷ es) zero path bits distinct there =
    let same : e.0 ≡ path = cc in
    ap (λ b. cond b ((e.0, bits) ∷ es) (e ∷ with_entry es path bits)) (sym ((bytes_eq-Decides path e.0).1 (sym same)))
put_at_path (e ∷ es) (suc i) path bits distinct there =
    ap (λ l. e ∷ l) (put_at_path es i path bits distinct.1 there)
    ∙ ap (λ b. cond b ((e.0, bits) ∷ es) (e ∷ with_entry es path bits)) (sym (bytes_eq-sym path e.0 ∙ apart (keys_of es) i distinct.0 there))
  where
    apart : (ks : List (List ℕ)) (j : ℕ) → AllByRecursion (λ y. bytes_eq e.0 y ≡ false) ks → slice_get ks j ≡ Some path → bytes_eq e.0 path ≡ false
    apart [] j h at = absurd (cc)
    apart (k ∷ ks) zero h at = let same : k ≡ path = cc in subst (λ z. bytes_eq e.0 z ≡ false) same h.0
    apart (k ∷ ks) (suc j) h at = apart ks j h.1 at

-- the entry at a place, whose path is the one at that place
at_place : (es : Entries) (more : List (List ℕ)) (i : ℕ) → i < length es
    → (e : List ℕ × List Bool) × (slice_get (keys_of es ++ more) i ≡ Some e.0) × (get_or (map (λ x. x.1) es) i [] ≡ e.1) × (drop i es ≡ e ∷ drop (suc i) es)
at_place [] more i l = absurd (omega arith)
at_place (e ∷ es) more zero l = (e, refl, refl, refl)
at_place (e ∷ es) more (suc i) l = at_place es more i (omega arith)

-- After so many of the values were put, the entries that are left lead to the same.
pub record IsPending (old : Entries) (values : List (List Bool)) (i : ℕ) (now : Entries) : Type 0 where
  pub same : keys_of now ≡ keys_of old
  pub rest : (es : Entries) → IsFront (keys_of old) values es → overridden now (drop i es) ≡ overridden old es

pub nothing_put : (old now : Entries) (values : List (List Bool)) → now ≡ old → IsPending old values 0 now
nothing_put old now values e = record { same = ap keys_of e; rest = λ es f. ap (λ z. overridden z es) e }

pub one_put : (old now after : Entries) (values : List (List Bool)) (i : ℕ) → AreDistinct old → i < length values → after ≡ with_bits_at now i (get_or values i []) → IsPending old values i now → IsPending old values (suc i) after
one_put old now after values i distinct l is p = record {
  same = ap keys_of is ∙ keys-set now i (get_or values i []) ∙ p.same;
  rest = λ es f.
      let count : length values ≡ length es = ap length f.values_are ∙ length-map es (λ (x : List ℕ × List Bool). x.1) in
      let at = at_place es f.rest i (omega (arith, count, l)) in
      let path : slice_get (keys_of now) i ≡ Some at.0.0 = ap (λ ks. slice_get ks i) (p.same ∙ f.paths_are) ∙ at.1 in
      let bits : get_or values i [] ≡ at.0.1 = ap (λ vs. get_or vs i []) f.values_are ∙ at.2 in
      let put : after ≡ with_entry now at.0.0 at.0.1 =
      is ∙ ap (with_bits_at now i) bits ∙ put_at_path now i at.0.0 at.0.1 (subst (IsDistinct bytes_eq) (sym p.same) distinct) path in
      ap (λ z. overridden z (drop (suc i) es)) put ∙ ap (overridden now) (sym at.3) ∙ p.rest es f;
}

-- bits that two lists with the same rest have next
at_drop : (xs ys : List (List Bool)) (i : ℕ) (d : List Bool) → drop i xs ≡ drop i ys → get_or xs i d ≡ get_or ys i d
at_drop xs ys i d e =
    let z : i + 0 ≡ i = omega arith in
    sym (get_or-drop i xs 0 d ∙ ap (λ j. get_or xs j d) z) ∙ ap (λ l. get_or l 0 d) e ∙ get_or-drop i ys 0 d ∙ ap (λ j. get_or ys j d) z

pub one_more_put : (old now after : Entries) (first values : List (List Bool)) (i : ℕ) (bits : List Bool) → AreDistinct old → i < length first → bits ≡ get_or values i bits → drop i values ≡ drop i first → after ≡ with_bits_at now i bits
    → IsPending old first i now → IsPending old first (i + 1) after
one_more_put old now after first values i bits distinct l read left is p =
    let same : bits ≡ get_or first i [] = read ∙ at_drop values first i bits left ∙ get_or_default first i bits [] l in
    let n : suc i ≡ i + 1 = omega arith in
    subst (λ k. IsPending old first k after) n (one_put old now after first i distinct l (is ∙ ap (with_bits_at now i) same) p)

pub all_put : (old now : Entries) (values : List (List Bool)) (i : ℕ) → length values ≤ i → IsPending old values i now → (es : Entries) → IsFront (keys_of old) values es → now ≡ overridden old es
all_put old now values i l p es f =
    let count : length values ≡ length es = ap length f.values_are ∙ length-map es (λ (x : List ℕ × List Bool). x.1) in
    sym (ap (overridden now) (drop_all i es (omega (arith, count, l)))) ∙ p.rest es f

-- past the last entry nothing changes
pub past_last : (es : Entries) (i : ℕ) (v : List Bool) → (i < length es → ⊥) → with_bits_at es i v ≡ es
past_last [] i v past = refl
past_last (e ∷ es) zero v past = absurd (past (omega arith))
past_last (e ∷ es) (suc i) v past = ap (λ r. e ∷ r) (past_last es i v (λ h. past (omega (arith, h))))
