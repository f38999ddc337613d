-- What is wrong with a line by its words alone, as the table of lines says it.
use Rattle.std.proofs.Common.{◌≡◌, ◌∙◌, sym, ap, subst, refl, cond, not, ℕ, suc, ◌<◌, ◌^◌, ◌==◌, ◌&&◌, ◌||◌, Bool, true, false, ◌⊎◌, inl, inr, List, [], ◌∷◌, length, arith}
use Rattle.std.specs.Prelude.{ℤ, pos, negsuc, Option, Some, None, codes, decimal}
use Rattle.std.specs.List.{AllZip, list_all}
use Rattle.std.specs.Str.{bytes_eq}
use Rattle.std.specs.Char.{is_ascii_digit}
use Rattle.std.proofs.lemmas.Bool.{false≢true}
use Rattle.std.proofs.lemmas.Bool.Decides.{Decides-eqb}
use Rattle.std.proofs.lemmas.Slice.Eq.{bytes_eq-Decides}
use Rattle.cert_types.specs.declared.certificate.Version.{Version}
use Rattle.cert_types.specs.declared.certificate.Version.TheVariants.{One, Two}
use Rattle.cert_text.specs.declared.faults.Fault.{Fault}
use Rattle.cert_text.specs.declared.faults.Fault.TheVariants.{BadWord, AboveLimits}
use Rattle.cert_text.specs.Drafts.{number_below, constant_of}
use Rattle.cert_types.specs.Kept.{offset_limit}
use Rattle.cert_text.specs.Shapes.{line_fault, number_fault, referring_fault, reference_fault}
use Rattle.cert_text.specs.Table.{Kind, exactly, either, an_offset, a_constant, a_constraint, a_method, a_format, a_parameter, a_reference, a_field, Row, first_row, method_row, bit_row, param_row, ref_row, leaf_row, none_row, format_row, read_row, write_row, take_row, call_row, library_row, length_row, length_by_row, solve_row, choose_row, ask_row, end_row, kinds, has_leading_zero, is_number, is_signed, LooksLike, IsBelow, IsConstant, IsInRange, HasShape}
use Rattle.cert_text.proofs.DraftsNumerals.{both_true, below_some, below_means, constant_some, constant_means}

-- ---- words by their kinds

pub of_one : (R : Kind → List ℕ → Type 0) (x : Kind) (ws : List (List ℕ)) → AllZip R (x ∷ []) ws → (a : List ℕ) × (ws ≡ a ∷ []) × R x a
of_one R x [] h = absurd h
of_one R x (a ∷ []) h = (a, refl, h.0)
of_one R x (a ∷ b ∷ ws) h = absurd h.1

pub of_two : (R : Kind → List ℕ → Type 0) (x y : Kind) (ws : List (List ℕ)) → AllZip R (x ∷ y ∷ []) ws → (a : List ℕ) × (b : List ℕ) × (ws ≡ a ∷ b ∷ []) × R x a × R y b
of_two R x y [] h = absurd h
of_two R x y (a ∷ []) h = absurd h.1
of_two R x y (a ∷ b ∷ []) h = (a, b, refl, h.0, h.1.0)
of_two R x y (a ∷ b ∷ c ∷ ws) h = absurd h.1.1

pub of_three : (R : Kind → List ℕ → Type 0) (x y z : Kind) (ws : List (List ℕ)) → AllZip R (x ∷ y ∷ z ∷ []) ws → (a : List ℕ) × (b : List ℕ) × (c : List ℕ) × (ws ≡ a ∷ b ∷ c ∷ []) × R x a × R y b × R z c
of_three R x y z [] h = absurd h
of_three R x y z (a ∷ []) h = absurd h.1
of_three R x y z (a ∷ b ∷ []) h = absurd h.1.1
of_three R x y z (a ∷ b ∷ c ∷ []) h = (a, b, c, refl, h.0, h.1.0, h.1.1.0)
of_three R x y z (a ∷ b ∷ c ∷ d ∷ ws) h = absurd h.1.1.1

pub of_four : (R : Kind → List ℕ → Type 0) (x y z u : Kind) (ws : List (List ℕ)) → AllZip R (x ∷ y ∷ z ∷ u ∷ []) ws → (a : List ℕ) × (b : List ℕ) × (c : List ℕ) × (d : List ℕ) × (ws ≡ a ∷ b ∷ c ∷ d ∷ []) × R x a × R y b × R z c × R u d
of_four R x y z u [] h = absurd h
of_four R x y z u (a ∷ []) h = absurd h.1
of_four R x y z u (a ∷ b ∷ []) h = absurd h.1.1
of_four R x y z u (a ∷ b ∷ c ∷ []) h = absurd h.1.1.1
of_four R x y z u (a ∷ b ∷ c ∷ d ∷ []) h = (a, b, c, d, refl, h.0, h.1.0, h.1.1.0, h.1.1.1.0)
of_four R x y z u (a ∷ b ∷ c ∷ d ∷ f ∷ ws) h = absurd h.1.1.1.1

-- ---- single words

pub decide : (w x : List ℕ) → (w ≡ x) ⊎ (bytes_eq w x ≡ false)
decide w x = by (bytes_eq w x) refl
  where
    by : (b : Bool) → bytes_eq w x ≡ b → (w ≡ x) ⊎ (bytes_eq w x ≡ false)
    by true e = inl ((bytes_eq-Decides w x).0 e)
    by false e = inr e

pub name_here : {A : Type 0} (w : List A) → 0 < length w → (length w == 0) ≡ false
name_here w h = by (length w == 0) refl
  where
    by : (b : Bool) → (length w == 0) ≡ b → (length w == 0) ≡ false
    by true e = let n : length w ≡ 0 = (Decides-eqb (length w) 0).0 e in absurd (omega (arith, h, n))
    by false e = e

pub some_name : {A : Type 0} (w : List A) → (length w == 0) ≡ false → 0 < length w
some_name [] e = let wrong : true ≡ false = e in absurd (false≢true (sym wrong))
some_name (x ∷ w) e = omega arith

pub either_way : (b : Bool) → (b ≡ true) ⊎ (b ≡ false)
either_way true = inl refl
either_way false = inr refl

pub no_method_word : (w : List ℕ) → is_number w ≡ true → bytes_eq w (codes "method") ≡ false
no_method_word w h = by (decide w (codes "method"))
  where
    by : (w ≡ codes "method") ⊎ (bytes_eq w (codes "method") ≡ false) → bytes_eq w (codes "method") ≡ false
    by (inl e) = absurd (false≢true (sym (ap is_number e) ∙ h))
    by (inr e) = e

-- ---- numbers

-- a fault by the range of a number, where the word is one
abbrev Ranges : Option Fault → Type 0 → Type 0
Ranges f P = ((f ≡ None) × P) ⊎ ((f ≡ Some AboveLimits) × (P → ⊥))

ranges_as : {P Q : Type 0} (f g : Option Fault) → f ≡ g → (P → Q) → (Q → P) → Ranges g P → Ranges f Q
ranges_as f g e up down (inl h) = inl (e ∙ h.0, up h.1)
ranges_as f g e up down (inr h) = inr (e ∙ h.0, λ q. h.1 (down q))

offset_ranges : (w : List ℕ) → is_number w ≡ true → Ranges (number_fault (is_number w) (number_below offset_limit w)) (IsBelow offset_limit w)
offset_ranges w num = by (number_below offset_limit w) refl
  where
    by : (o : Option ℕ) → number_below offset_limit w ≡ o → Ranges (number_fault (is_number w) (number_below offset_limit w)) (IsBelow offset_limit w)
    by None e = inr ((λ i. number_fault (num i) (e i)), λ h. let wrong : None ≡ Some h.number = sym e ∙ below_some offset_limit h.number w (omega (arith, h.below)) h.below (sym h.spelled) in absurd cc)
    by (Some n) e = let m = below_means offset_limit n w e in inl ((λ i. number_fault (num i) (e i)), record { number = n; below = m.1; spelled = m.0 })

constant_ranges : (w : List ℕ) → is_signed w ≡ true → Ranges (number_fault (is_signed w) (constant_of w)) (IsConstant w)
constant_ranges w num = by (constant_of w) refl
  where
    by : (o : Option ℤ) → constant_of w ≡ o → Ranges (number_fault (is_signed w) (constant_of w)) (IsConstant w)
    by None e = inr ((λ i. number_fault (num i) (e i)), λ h. let wrong : None ≡ Some h.number = sym e ∙ ap constant_of h.spelled ∙ constant_some h.number h.wide in absurd cc)
    by (Some z) e = let m = constant_means z w e in inl ((λ i. number_fault (num i) (e i)), record { number = z; wide = m.1; spelled = m.0 })

-- digits alone spell no negative number
no_sign : (ds : List ℕ) → is_number (45 ∷ ds) ≡ true → ⊥
no_sign ds h =
    let whole = 45 ∷ ds in
    let b = both_true (not (length whole == 0)) (list_all is_ascii_digit whole && not (has_leading_zero whole)) h in
    let c = both_true (list_all is_ascii_digit whole) (not (has_leading_zero whole)) b.1 in
    false≢true c.0

constraint_ranges : (w : List ℕ) → is_number w ≡ true → Ranges (number_fault (is_number w) (constant_of w)) (IsBelow (2 ^ 127) w)
constraint_ranges w num = by (constant_of w) refl
  where
    by : (o : Option ℤ) → constant_of w ≡ o → Ranges (number_fault (is_number w) (constant_of w)) (IsBelow (2 ^ 127) w)
    by None e = inr ((λ i. number_fault (num i) (e i)), λ h. let wrong : None ≡ Some (pos h.number) = sym e ∙ ap constant_of h.spelled ∙ constant_some (pos h.number) h.below in absurd cc)
    by (Some (pos n)) e = let m = constant_means (pos n) w e in inl ((λ i. number_fault (num i) (e i)), record { number = n; below = m.1; spelled = m.0 })
    by (Some (negsuc n)) e = let m = constant_means (negsuc n) w e in absurd (no_sign (decimal (suc n)) (ap is_number (sym m.0) ∙ num))

-- ---- words that look like a line

abbrev pub Judged : Version → Row → List (List ℕ) → Type 0
Judged v row ws = Ranges (line_fault v ws) (AllZip IsInRange (kinds row) ws)

pub as_one : (P : List (List ℕ) → Type 0) (word a : List ℕ) (ws : List (List ℕ)) → ws ≡ a ∷ [] → a ≡ word → P (word ∷ []) → P ws
as_one P word a ws is p h = subst P (sym (is ∙ ap (λ w. w ∷ []) p)) h

pub as_two : (P : List (List ℕ) → Type 0) (word a b : List ℕ) (ws : List (List ℕ)) → ws ≡ a ∷ b ∷ [] → a ≡ word → P (word ∷ b ∷ []) → P ws
as_two P word a b ws is p h = subst P (sym (is ∙ ap (λ w. w ∷ b ∷ []) p)) h

pub as_three : (P : List (List ℕ) → Type 0) (word a b c : List ℕ) (ws : List (List ℕ)) → ws ≡ a ∷ b ∷ c ∷ [] → a ≡ word → P (word ∷ b ∷ c ∷ []) → P ws
as_three P word a b c ws is p h = subst P (sym (is ∙ ap (λ w. w ∷ b ∷ c ∷ []) p)) h

pub as_four : (P : List (List ℕ) → Type 0) (word a b c d : List ℕ) (ws : List (List ℕ)) → ws ≡ a ∷ b ∷ c ∷ d ∷ [] → a ≡ word → P (word ∷ b ∷ c ∷ d ∷ []) → P ws
as_four P word a b c d ws is p h = subst P (sym (is ∙ ap (λ w. w ∷ b ∷ c ∷ d ∷ []) p)) h

-- a name, and what comes after it
past_name : (b : List ℕ) (f : Option Fault) → 0 < length b → cond (length b == 0) (Some BadWord) f ≡ f
past_name b f h = ap (λ t. cond t (Some BadWord) f) (name_here b h)

past_side : (b c d : List ℕ) → 0 < length b → (c ≡ codes "U") ⊎ (c ≡ codes "C") → line_fault One (codes "length" ∷ b ∷ c ∷ d ∷ []) ≡ cond (bytes_eq d (codes "method")) None (number_fault (is_number d) (constant_of d))
past_side b c d h (inl e) = ap (λ x. line_fault One (codes "length" ∷ b ∷ x ∷ d ∷ [])) e ∙ ap (λ t. cond (t || false) (Some BadWord) (cond (bytes_eq d (codes "method")) None (number_fault (is_number d) (constant_of d)))) (name_here b h)
past_side b c d h (inr e) = ap (λ x. line_fault One (codes "length" ∷ b ∷ x ∷ d ∷ [])) e ∙ ap (λ t. cond (t || false) (Some BadWord) (cond (bytes_eq d (codes "method")) None (number_fault (is_number d) (constant_of d)))) (name_here b h)

pub fits : (v : Version) (row : Row) (ws : List (List ℕ)) → HasShape v row ws → Judged v row ws
fits v first_row ws h = let (a, b, is, p, q) = of_two LooksLike (exactly (codes "rohcfn-certificate")) (either (codes "1") (codes "2")) ws h.alike in as_two (Judged v first_row) (codes "rohcfn-certificate") a b ws is p (by b q)
  where
    by : (b : List ℕ) → (b ≡ codes "1") ⊎ (b ≡ codes "2") → Judged v first_row (codes "rohcfn-certificate" ∷ b ∷ [])
    by b (inl e) = inl (ap (λ x. line_fault v (codes "rohcfn-certificate" ∷ x ∷ [])) e, (tt, (tt, tt)))
    by b (inr e) = inl (ap (λ x. line_fault v (codes "rohcfn-certificate" ∷ x ∷ [])) e, (tt, (tt, tt)))
fits v method_row ws h = let (a, b, is, p, q) = of_two LooksLike (exactly (codes "method")) a_method ws h.alike in as_two (Judged v method_row) (codes "method") a b ws is p (inl (past_name b None q, (tt, (tt, tt))))
fits v bit_row ws h = let (a, b, is, p, q) = of_two LooksLike (exactly (codes "bit")) an_offset ws h.alike in as_two (Judged v bit_row) (codes "bit") a b ws is p (ranges_as _ _ refl (λ x. (tt, (x, tt))) (λ x. x.1.0) (offset_ranges b q))
fits v param_row ws h = let (a, b, c, is, p, q, r) = of_three LooksLike (exactly (codes "param")) a_parameter a_constant ws h.alike in as_three (Judged v param_row) (codes "param") a b c ws is p (ranges_as _ _ (past_name b _ q) (λ x. (tt, (tt, (x, tt)))) (λ x. x.1.1.0) (constant_ranges c r))
fits v ref_row ws h =
    let (a, b, c, is, p, q, r) = of_three LooksLike (exactly (codes "ref")) a_reference a_constant ws h.alike in
    as_three (Judged v ref_row) (codes "ref") a b c ws is p
    (subst (λ x. Judged x ref_row (codes "ref" ∷ b ∷ c ∷ [])) (sym h.in_version) (ranges_as _ _ (past_name b _ q) (λ x. (tt, (tt, (x, tt)))) (λ x. x.1.1.0) (constant_ranges c r)))
fits v leaf_row ws h = let (a, b, is, p, q) = of_two LooksLike (exactly (codes "leaf")) a_format ws h.alike in as_two (Judged v leaf_row) (codes "leaf") a b ws is p (inl (past_name b None q, (tt, (tt, tt))))
fits v none_row ws h = let (a, is, p) = of_one LooksLike (exactly (codes "none")) ws h.alike in as_one (Judged v none_row) (codes "none") a ws is p (inl (refl, (tt, tt)))
fits v format_row ws h = let (a, b, is, p, q) = of_two LooksLike (exactly (codes "format")) a_format ws h.alike in as_two (Judged v format_row) (codes "format") a b ws is p (inl (past_name b None q, (tt, (tt, tt))))
fits v read_row ws h = let (a, is, p) = of_one LooksLike (exactly (codes "read")) ws h.alike in as_one (Judged v read_row) (codes "read") a ws is p (inl (refl, (tt, tt)))
fits v write_row ws h = let (a, is, p) = of_one LooksLike (exactly (codes "write")) ws h.alike in as_one (Judged v write_row) (codes "write") a ws is p (inl (refl, (tt, tt)))
fits v take_row ws h = let (a, b, is, p, q) = of_two LooksLike (exactly (codes "take")) a_field ws h.alike in as_two (Judged v take_row) (codes "take") a b ws is p (inl (past_name b None q, (tt, (tt, tt))))
fits v call_row ws h = let (a, b, is, p, q) = of_two LooksLike (exactly (codes "call")) a_field ws h.alike in as_two (Judged v call_row) (codes "call") a b ws is p (inl (past_name b None q, (tt, (tt, tt))))
fits v library_row ws h = let (a, b, c, is, p, q, r) = of_three LooksLike (exactly (codes "library")) a_field (either (codes "up") (codes "down")) ws h.alike in as_three (Judged v library_row) (codes "library") a b c ws is p (by b c q r)
  where
    by : (b c : List ℕ) → 0 < length b → (c ≡ codes "up") ⊎ (c ≡ codes "down") → Judged v library_row (codes "library" ∷ b ∷ c ∷ [])
    by b c q (inl e) = inl (ap (λ x. line_fault v (codes "library" ∷ b ∷ x ∷ [])) e ∙ past_name b None q, (tt, (tt, (tt, tt))))
    by b c q (inr e) = inl (ap (λ x. line_fault v (codes "library" ∷ b ∷ x ∷ [])) e ∙ past_name b None q, (tt, (tt, (tt, tt))))
fits v length_row ws h =
    let (a, b, c, d, is, p, q, r, s) = of_four LooksLike (exactly (codes "length")) a_field (either (codes "U") (codes "C")) (exactly (codes "method")) ws h.alike in
    as_four (Judged v length_row) (codes "length") a b c d ws is p (inl (past_side b c d q r ∙ ap (λ x. cond (bytes_eq x (codes "method")) None (number_fault (is_number x) (constant_of x))) s, (tt, (tt, (tt, (tt, tt))))))
fits v length_by_row ws h =
    let (a, b, c, d, is, p, q, r, s) = of_four LooksLike (exactly (codes "length")) a_field (either (codes "U") (codes "C")) a_constraint ws h.alike in
    as_four (Judged v length_by_row) (codes "length") a b c d ws is p
    (ranges_as _ _ (past_side b c d q r ∙ ap (λ t. cond t None (number_fault (is_number d) (constant_of d))) (no_method_word d s)) (λ x. (tt, (tt, (tt, (x, tt))))) (λ x. x.1.1.1.0) (constraint_ranges d s))
fits v solve_row ws h = let (a, b, c, is, p, q, r) = of_three LooksLike (exactly (codes "solve")) a_field a_constraint ws h.alike in as_three (Judged v solve_row) (codes "solve") a b c ws is p (ranges_as _ _ (past_name b _ q) (λ x. (tt, (tt, (x, tt)))) (λ x. x.1.1.0) (constraint_ranges c r))
fits v choose_row ws h = let (a, b, is, p, q) = of_two LooksLike (exactly (codes "choose")) a_field ws h.alike in as_two (Judged v choose_row) (codes "choose") a b ws is p (inl (past_name b None q, (tt, (tt, tt))))
fits v ask_row ws h = let (a, b, is, p, q) = of_two LooksLike (exactly (codes "ask")) a_field ws h.alike in as_two (Judged v ask_row) (codes "ask") a b ws is p (inl (past_name b None q, (tt, (tt, tt))))
fits v end_row ws h = let (a, is, p) = of_one LooksLike (exactly (codes "end")) ws h.alike in as_one (Judged v end_row) (codes "end") a ws is p (inl (refl, (tt, tt)))

-- ---- words that look like a line, or are bad

abbrev pub LooksRight : Version → List (List ℕ) → Type 0
LooksRight v ws = (line_fault v ws ≡ Some BadWord) ⊎ ((row : Row) × HasShape v row ws)

right_as : (v : Version) (row : Row) (ws : List (List ℕ)) → HasShape v row ws → LooksRight v ws
right_as v row ws h = inr (row, h)

looks_one : (v : Version) (w : List ℕ) → LooksRight v (w ∷ [])
looks_one v w = by (decide w (codes "none")) (decide w (codes "read")) (decide w (codes "write")) (decide w (codes "end"))
  where
    by : (w ≡ codes "none") ⊎ (bytes_eq w (codes "none") ≡ false) → (w ≡ codes "read") ⊎ (bytes_eq w (codes "read") ≡ false) → (w ≡ codes "write") ⊎ (bytes_eq w (codes "write") ≡ false) → (w ≡ codes "end") ⊎ (bytes_eq w (codes "end") ≡ false) → LooksRight v (w ∷ [])
    by (inl e) p q r = right_as v none_row (w ∷ []) (record { in_version = tt; alike = (e, tt) })
    by (inr a) (inl e) q r = right_as v read_row (w ∷ []) (record { in_version = tt; alike = (e, tt) })
    by (inr a) (inr b) (inl e) r = right_as v write_row (w ∷ []) (record { in_version = tt; alike = (e, tt) })
    by (inr a) (inr b) (inr c) (inl e) = right_as v end_row (w ∷ []) (record { in_version = tt; alike = (e, tt) })
    by (inr a) (inr b) (inr c) (inr d) = inl (λ i. cond (a i || (b i || (c i || d i))) None (Some BadWord))

-- a first line
abbrev begins : List ℕ → List ℕ → Bool
begins w a = bytes_eq w (codes "rohcfn-certificate") && (bytes_eq a (codes "1") || bytes_eq a (codes "2"))

begins_or_not : (w a : List ℕ) → ((w ≡ codes "rohcfn-certificate") × ((a ≡ codes "1") ⊎ (a ≡ codes "2"))) ⊎ (begins w a ≡ false)
begins_or_not w a = by (decide w (codes "rohcfn-certificate")) (decide a (codes "1")) (decide a (codes "2"))
  where
    by : (w ≡ codes "rohcfn-certificate") ⊎ (bytes_eq w (codes "rohcfn-certificate") ≡ false) → (a ≡ codes "1") ⊎ (bytes_eq a (codes "1") ≡ false) → (a ≡ codes "2") ⊎ (bytes_eq a (codes "2") ≡ false)
        → ((w ≡ codes "rohcfn-certificate") × ((a ≡ codes "1") ⊎ (a ≡ codes "2"))) ⊎ (begins w a ≡ false)
    by (inl e) (inl f) q = inl (e, inl f)
    by (inl e) (inr m) (inl f) = inl (e, inr f)
    by (inl e) (inr m) (inr n) = inr (ap (λ x. begins x a) e ∙ (λ i. m i || n i))
    by (inr m) p q = inr (ap (λ t. t && (bytes_eq a (codes "1") || bytes_eq a (codes "2"))) m)

-- a word before a name
abbrev heads : List ℕ → Bool
heads w = bytes_eq w (codes "method") || (bytes_eq w (codes "format") || (bytes_eq w (codes "leaf") || (bytes_eq w (codes "take") || (bytes_eq w (codes "call") || (bytes_eq w (codes "choose") || bytes_eq w (codes "ask"))))))

heads_or_not : (v : Version) (w a : List ℕ) → 0 < length a → ((row : Row) × HasShape v row (w ∷ a ∷ [])) ⊎ (heads w ≡ false)
heads_or_not v w a h = by (decide w (codes "method")) (decide w (codes "format")) (decide w (codes "leaf")) (decide w (codes "take")) (decide w (codes "call")) (decide w (codes "choose")) (decide w (codes "ask"))
  where
    by : (w ≡ codes "method") ⊎ (bytes_eq w (codes "method") ≡ false) → (w ≡ codes "format") ⊎ (bytes_eq w (codes "format") ≡ false) → (w ≡ codes "leaf") ⊎ (bytes_eq w (codes "leaf") ≡ false) → (w ≡ codes "take") ⊎ (bytes_eq w (codes "take") ≡ false)
        → (w ≡ codes "call") ⊎ (bytes_eq w (codes "call") ≡ false) → (w ≡ codes "choose") ⊎ (bytes_eq w (codes "choose") ≡ false) → (w ≡ codes "ask") ⊎ (bytes_eq w (codes "ask") ≡ false) → ((row : Row) × HasShape v row (w ∷ a ∷ [])) ⊎ (heads w ≡ false)
    by (inl e) p2 p3 p4 p5 p6 p7 = inl (method_row, record { in_version = tt; alike = (e, (h, tt)) })
    by (inr n1) (inl e) p3 p4 p5 p6 p7 = inl (format_row, record { in_version = tt; alike = (e, (h, tt)) })
    by (inr n1) (inr n2) (inl e) p4 p5 p6 p7 = inl (leaf_row, record { in_version = tt; alike = (e, (h, tt)) })
    by (inr n1) (inr n2) (inr n3) (inl e) p5 p6 p7 = inl (take_row, record { in_version = tt; alike = (e, (h, tt)) })
    by (inr n1) (inr n2) (inr n3) (inr n4) (inl e) p6 p7 = inl (call_row, record { in_version = tt; alike = (e, (h, tt)) })
    by (inr n1) (inr n2) (inr n3) (inr n4) (inr n5) (inl e) p7 = inl (choose_row, record { in_version = tt; alike = (e, (h, tt)) })
    by (inr n1) (inr n2) (inr n3) (inr n4) (inr n5) (inr n6) (inl e) = inl (ask_row, record { in_version = tt; alike = (e, (h, tt)) })
    by (inr n1) (inr n2) (inr n3) (inr n4) (inr n5) (inr n6) (inr n7) = inr (λ i. n1 i || (n2 i || (n3 i || (n4 i || (n5 i || (n6 i || n7 i))))))

looks_two : (v : Version) (w a : List ℕ) → LooksRight v (w ∷ a ∷ [])
looks_two v w a = by (decide w (codes "bit")) (begins_or_not w a) (either_way (length a == 0))
  where
    bit : w ≡ codes "bit" → (is_number a ≡ true) ⊎ (is_number a ≡ false) → LooksRight v (w ∷ a ∷ [])
    bit e (inl num) = right_as v bit_row (w ∷ a ∷ []) (record { in_version = tt; alike = (e, (num, tt)) })
    bit e (inr num) = inl (ap (λ x. line_fault v (x ∷ a ∷ [])) e ∙ ap (λ t. number_fault t (number_below offset_limit a)) num)

    named : bytes_eq w (codes "bit") ≡ false → begins w a ≡ false → (length a == 0) ≡ false → ((row : Row) × HasShape v row (w ∷ a ∷ [])) ⊎ (heads w ≡ false) → LooksRight v (w ∷ a ∷ [])
    named n m z (inl s) = inr s
    named n m z (inr t) = inl (λ i. cond (n i) (number_fault (is_number a) (number_below offset_limit a)) (cond (m i) None (cond (z i) (Some BadWord) (cond (t i) None (Some BadWord)))))

    by : (w ≡ codes "bit") ⊎ (bytes_eq w (codes "bit") ≡ false) → ((w ≡ codes "rohcfn-certificate") × ((a ≡ codes "1") ⊎ (a ≡ codes "2"))) ⊎ (begins w a ≡ false) → ((length a == 0) ≡ true) ⊎ ((length a == 0) ≡ false) → LooksRight v (w ∷ a ∷ [])
    by (inl e) p q = bit e (either_way (is_number a))
    by (inr n) (inl e) q = right_as v first_row (w ∷ a ∷ []) (record { in_version = tt; alike = (e.0, (e.1, tt)) })
    by (inr n) (inr m) (inl z) = inl (λ i. cond (n i) (number_fault (is_number a) (number_below offset_limit a)) (cond (m i) None (cond (z i) (Some BadWord) (cond (heads w) None (Some BadWord)))))
    by (inr n) (inr m) (inr z) = named n m z (heads_or_not v w a (some_name a z))

-- the rest of three words, where the first is neither of these
looks_ref : (v : Version) (w a b : List ℕ) → 0 < length a → (referring_fault v w b ≡ Some BadWord) ⊎ ((row : Row) × HasShape v row (w ∷ a ∷ b ∷ []))
looks_ref One w a b h = inl refl
looks_ref Two w a b h = by (decide w (codes "ref")) (either_way (is_signed b))
  where
    by : (w ≡ codes "ref") ⊎ (bytes_eq w (codes "ref") ≡ false) → (is_signed b ≡ true) ⊎ (is_signed b ≡ false) → (reference_fault w b ≡ Some BadWord) ⊎ ((row : Row) × HasShape Two row (w ∷ a ∷ b ∷ []))
    by (inl e) (inl num) = inr (ref_row, record { in_version = refl; alike = (e, (h, (num, tt))) })
    by (inl e) (inr num) = inl (ap (λ x. reference_fault x b) e ∙ ap (λ t. number_fault t (constant_of b)) num)
    by (inr n) q = inl (ap (λ t. cond t (number_fault (is_signed b) (constant_of b)) (Some BadWord)) n)

-- a step by the library
abbrev turns : List ℕ → List ℕ → Bool
turns w b = bytes_eq w (codes "library") && (bytes_eq b (codes "up") || bytes_eq b (codes "down"))

turns_or_not : (w b : List ℕ) → ((w ≡ codes "library") × ((b ≡ codes "up") ⊎ (b ≡ codes "down"))) ⊎ (turns w b ≡ false)
turns_or_not w b = by (decide w (codes "library")) (decide b (codes "up")) (decide b (codes "down"))
  where
    by : (w ≡ codes "library") ⊎ (bytes_eq w (codes "library") ≡ false) → (b ≡ codes "up") ⊎ (bytes_eq b (codes "up") ≡ false) → (b ≡ codes "down") ⊎ (bytes_eq b (codes "down") ≡ false)
        → ((w ≡ codes "library") × ((b ≡ codes "up") ⊎ (b ≡ codes "down"))) ⊎ (turns w b ≡ false)
    by (inl e) (inl f) q = inl (e, inl f)
    by (inl e) (inr m) (inl f) = inl (e, inr f)
    by (inl e) (inr m) (inr n) = inr (ap (λ x. turns x b) e ∙ (λ i. m i || n i))
    by (inr m) p q = inr (ap (λ t. t && (bytes_eq b (codes "up") || bytes_eq b (codes "down"))) m)

looks_three : (v : Version) (w a b : List ℕ) → LooksRight v (w ∷ a ∷ b ∷ [])
looks_three v w a b = by (either_way (length a == 0))
  where
    P : Option Fault
    P = number_fault (is_signed b) (constant_of b)

    S : Option Fault
    S = number_fault (is_number b) (constant_of b)

    param : 0 < length a → w ≡ codes "param" → (is_signed b ≡ true) ⊎ (is_signed b ≡ false) → LooksRight v (w ∷ a ∷ b ∷ [])
    param h e (inl num) = right_as v param_row (w ∷ a ∷ b ∷ []) (record { in_version = tt; alike = (e, (h, (num, tt))) })
    param h e (inr num) = inl (ap (λ x. line_fault v (x ∷ a ∷ b ∷ [])) e ∙ past_name a (number_fault (is_signed b) (constant_of b)) h ∙ ap (λ t. number_fault t (constant_of b)) num)

    solve : 0 < length a → w ≡ codes "solve" → (is_number b ≡ true) ⊎ (is_number b ≡ false) → LooksRight v (w ∷ a ∷ b ∷ [])
    solve h e (inl num) = right_as v solve_row (w ∷ a ∷ b ∷ []) (record { in_version = tt; alike = (e, (h, (num, tt))) })
    solve h e (inr num) = inl (ap (λ x. line_fault v (x ∷ a ∷ b ∷ [])) e ∙ past_name a (number_fault (is_number b) (constant_of b)) h ∙ ap (λ t. number_fault t (constant_of b)) num)

    last : (length a == 0) ≡ false → bytes_eq w (codes "param") ≡ false → bytes_eq w (codes "solve") ≡ false → turns w b ≡ false → (referring_fault v w b ≡ Some BadWord) ⊎ ((row : Row) × HasShape v row (w ∷ a ∷ b ∷ [])) → LooksRight v (w ∷ a ∷ b ∷ [])
    last z n m t (inl f) = inl ((λ i. cond (z i) (Some BadWord) (cond (n i) (number_fault (is_signed b) (constant_of b)) (cond (m i) (number_fault (is_number b) (constant_of b)) (cond (t i) None (referring_fault v w b))))) ∙ f)
    last z n m t (inr s) = inr s

    rest : (length a == 0) ≡ false → (w ≡ codes "param") ⊎ (bytes_eq w (codes "param") ≡ false) → (w ≡ codes "solve") ⊎ (bytes_eq w (codes "solve") ≡ false) → ((w ≡ codes "library") × ((b ≡ codes "up") ⊎ (b ≡ codes "down"))) ⊎ (turns w b ≡ false) → LooksRight v (w ∷ a ∷ b ∷ [])
    rest z (inl e) q r = param (some_name a z) e (either_way (is_signed b))
    rest z (inr n) (inl e) r = solve (some_name a z) e (either_way (is_number b))
    rest z (inr n) (inr m) (inl e) = right_as v library_row (w ∷ a ∷ b ∷ []) (record { in_version = tt; alike = (e.0, (some_name a z, (e.1, tt))) })
    rest z (inr n) (inr m) (inr t) = last z n m t (looks_ref v w a b (some_name a z))

    by : ((length a == 0) ≡ true) ⊎ ((length a == 0) ≡ false) → LooksRight v (w ∷ a ∷ b ∷ [])
    by (inl z) = inl (ap (λ t. cond t (Some BadWord) (cond (bytes_eq w (codes "param")) (number_fault (is_signed b) (constant_of b)) (cond (bytes_eq w (codes "solve")) (number_fault (is_number b) (constant_of b)) (cond (turns w b) None (referring_fault v w b))))) z)
    by (inr z) = rest z (decide w (codes "param")) (decide w (codes "solve")) (turns_or_not w b)

looks_four : (v : Version) (w a c d : List ℕ) → LooksRight v (w ∷ a ∷ c ∷ d ∷ [])
looks_four v w a c d = by (decide w (codes "length")) (either_way (length a == 0)) (decide c (codes "U")) (decide c (codes "C"))
  where
    R : Option Fault
    R = cond (bytes_eq d (codes "method")) None (number_fault (is_number d) (constant_of d))

    last : w ≡ codes "length" → 0 < length a → (c ≡ codes "U") ⊎ (c ≡ codes "C") → (d ≡ codes "method") ⊎ (bytes_eq d (codes "method") ≡ false) → (is_number d ≡ true) ⊎ (is_number d ≡ false) → LooksRight v (w ∷ a ∷ c ∷ d ∷ [])
    last e h s (inl m) q = right_as v length_row (w ∷ a ∷ c ∷ d ∷ []) (record { in_version = tt; alike = (e, (h, (s, (m, tt)))) })
    last e h s (inr m) (inl num) = right_as v length_by_row (w ∷ a ∷ c ∷ d ∷ []) (record { in_version = tt; alike = (e, (h, (s, (num, tt)))) })
    last e h s (inr m) (inr num) = inl (ap (λ x. line_fault v (x ∷ a ∷ c ∷ d ∷ [])) e ∙ past_side a c d h s ∙ (λ i. cond (m i) None (number_fault (num i) (constant_of d))))

    by : (w ≡ codes "length") ⊎ (bytes_eq w (codes "length") ≡ false) → ((length a == 0) ≡ true) ⊎ ((length a == 0) ≡ false) → (c ≡ codes "U") ⊎ (bytes_eq c (codes "U") ≡ false) → (c ≡ codes "C") ⊎ (bytes_eq c (codes "C") ≡ false) → LooksRight v (w ∷ a ∷ c ∷ d ∷ [])
    by (inr n) p q r = inl (ap (λ t. cond (not t || ((length a == 0) || not (bytes_eq c (codes "U") || bytes_eq c (codes "C")))) (Some BadWord) (cond (bytes_eq d (codes "method")) None (number_fault (is_number d) (constant_of d)))) n)
    by (inl e) (inl z) q r = inl (ap (λ x. line_fault v (x ∷ a ∷ c ∷ d ∷ [])) e ∙ ap (λ t. cond (t || not (bytes_eq c (codes "U") || bytes_eq c (codes "C"))) (Some BadWord) (cond (bytes_eq d (codes "method")) None (number_fault (is_number d) (constant_of d)))) z)
    by (inl e) (inr z) (inl s) r = last e (some_name a z) (inl s) (decide d (codes "method")) (either_way (is_number d))
    by (inl e) (inr z) (inr n) (inl s) = last e (some_name a z) (inr s) (decide d (codes "method")) (either_way (is_number d))
    by (inl e) (inr z) (inr n) (inr m) = inl (ap (λ x. line_fault v (x ∷ a ∷ c ∷ d ∷ [])) e ∙ (λ i. cond (z i || not (n i || m i)) (Some BadWord) (cond (bytes_eq d (codes "method")) None (number_fault (is_number d) (constant_of d)))))

pub looks_right : (v : Version) (ws : List (List ℕ)) → LooksRight v ws
looks_right v [] = inl refl
looks_right v (a ∷ []) = looks_one v a
looks_right v (a ∷ b ∷ []) = looks_two v a b
looks_right v (a ∷ b ∷ c ∷ []) = looks_three v a b c
looks_right v (a ∷ b ∷ c ∷ d ∷ []) = looks_four v a b c d
looks_right v (a ∷ b ∷ c ∷ d ∷ f ∷ more) = inl refl
