-- Cuts of a text, and the numbers that texts spell.
use Rattle.std.proofs.Common.{◌≡◌, ◌∙◌, sym, ap, subst, refl, ℕ, suc, ◌+◌, ◌<◌, ◌^◌, ◌&&◌, Bool, true, false, List, [], ◌∷◌, get_or, replicate, not, zero, add-one, ◌++◌, Some, None, Option, option_map, length, nat_lt, arith, rules, ◌==◌, if◌then◌else◌, Bor}
use Rattle.std.specs.Prelude.{decimal, ◌≢◌, MatchOption}
use Rattle.std.specs.Str.{bytes_eq}
use Rattle.std.specs.Str.Parse.{digits_value}
use Rattle.std.proofs.lemmas.Bool.{false≢true, ltb-true, lt-ltb, ne_eqb}
use Rattle.std.proofs.lemmas.Fmt.{decimal_is_IsNumeral_wide}
use Rattle.std.proofs.lemmas.Slice.Eq.{bytes_eq-Decides}
use Rattle.std.proofs.lemmas.Bool.{eqb-true}
use Rattle.std.proofs.lemmas.List.Sums.{prefix_len_stops, split_at_first}
use Rattle.std.specs.List.{position_or_len, before_first, after_first}
use Rattle.tool_json.specs.Messages.{after, cut, number_of, unindent, when}

pub both_true : (a b : Bool) → (a && b) ≡ true → (a ≡ true) × (b ≡ true)
both_true true b h = (refl, h)
both_true false b h = absurd (false≢true h)

pub when_true : {A : Type 0} (b : Bool) (x y : A) → when b x ≡ Some y → (b ≡ true) × (x ≡ y)
when_true true x y h = (refl, cc)
when_true false x y h = absurd cc

pub when_none : {A : Type 0} (b : Bool) (x : A) → (b ≡ true → ⊥) → when b x ≡ None
when_none true x h = absurd (h refl)
when_none false x h = refl

-- ---- numbers

number_at : (n v : ℕ) (word : List ℕ) → v ≡ n → n < 2 ^ 64 → decimal n ≡ word → when (bytes_eq (decimal v) word && nat_lt v (2 ^ 64)) v ≡ Some n
number_at n v word e small d =
    subst (λ w. when (bytes_eq (decimal w) word && nat_lt w (2 ^ 64)) w ≡ Some n) (sym e)
    (λ i. when ((bytes_eq-Decides (decimal n) word).1 d i && lt-ltb n (2 ^ 64) small i) n)

pub number_some : (n : ℕ) (word : List ℕ) → n < 2 ^ 64 → decimal n ≡ word → number_of word ≡ Some n
number_some n word small d = number_at n (digits_value 10 word) word (ap (digits_value 10) (sym d) ∙ (decimal_is_IsNumeral_wide n (omega arith)).1) small d

pub number_means : (n : ℕ) (word : List ℕ) → number_of word ≡ Some n → decimal n ≡ word
number_means n word h =
    let w = when_true _ _ _ h in
    ap decimal (sym w.1) ∙ (bytes_eq-Decides _ _).0 (both_true _ _ w.0).0

pub number_none : (word : List ℕ) → ((n : ℕ) → n < 2 ^ 64 → word ≡ decimal n → ⊥) → number_of word ≡ None
number_none word h = when_none _ _ (λ t.
    let b = both_true _ _ t in
    h (digits_value 10 word) (ltb-true _ _ b.1) (sym ((bytes_eq-Decides _ _).0 b.0)))

-- ---- a blank in front

other_front : (c d : ℕ) (ds : List ℕ) → (d ≡ c → ⊥) → None ≡ (if d == c then Some ds else None)
other_front c d ds h = ap (λ b. if b then Some ds else None) (sym (ne_eqb d c h))

pub after_is : (c : ℕ) (bs : List ℕ) (r : Option (Bor (List ℕ))) → MatchOption r ((rest : List ℕ) → bs ≢ c ∷ rest) (λ x. bs ≡ c ∷ x.now) → option_map (λ t. t.now) r ≡ after c bs
after_is c [] None h = refl
after_is c (d ∷ ds) None h = other_front c d ds (λ e. h ds (ap (λ x. x ∷ ds) e))
after_is c bs (Some x) h = sym (ap (after c) h ∙ search rules)

pub after_front : (c : ℕ) (bs rest : List ℕ) → after c bs ≡ Some rest → bs ≡ c ∷ rest
after_front c [] rest h = absurd cc
after_front c (d ∷ ds) rest h = by (d == c) refl h
  where
    by : (b : Bool) → (d == c) ≡ b → (if b then Some ds else None) ≡ Some rest → d ∷ ds ≡ c ∷ rest
    by true e f = search rules
    by false e f = absurd cc

-- ---- cuts

not_false : (b : Bool) → not b ≡ false → b ≡ true
not_false true h = refl
not_false false h = absurd (false≢true (sym h))

pub cut_joins : (c : ℕ) (text : List ℕ) (p : List ℕ × List ℕ) → cut c text ≡ Some p → p.0 ++ (c ∷ p.1) ≡ text
cut_joins c text p h =
    let w = when_true (nat_lt (position_or_len (λ b. b == c) text) (length text)) (before_first (λ b. b == c) text, after_first (λ b. b == c) text) p h in
    let within : position_or_len (λ b. b == c) text < length text = ltb-true _ _ w.0 in
    let found : get_or text (position_or_len (λ b. b == c) text) 0 ≡ c = eqb-true _ _ (not_false _ (prefix_len_stops (λ b. not (b == c)) text 0 within)) in
    ap (λ q. q.0 ++ (c ∷ q.1)) (sym w.1)
    ∙ ap (λ d. before_first (λ b. b == c) text ++ (d ∷ after_first (λ b. b == c) text)) (sym found)
    ∙ sym (split_at_first (λ b. b == c) text 0 within)

more_blanks : (n : ℕ) (cs : List ℕ) → replicate (suc n) 32 ++ cs ≡ replicate n 32 ++ (32 ∷ cs)
more_blanks zero cs = refl
more_blanks (suc n) cs = ap (λ xs. 32 ∷ xs) (more_blanks n cs)

pub unindent_joins : (n : ℕ) (text : List ℕ) → replicate (unindent n text).0 32 ++ (unindent n text).1 ≡ replicate n 32 ++ text
unindent_joins n [] = refl
unindent_joins n (c ∷ cs) = by (unindent_joins (n + 1) cs) (c == 32) refl
  where
    by : replicate (unindent (n + 1) cs).0 32 ++ (unindent (n + 1) cs).1 ≡ replicate (n + 1) 32 ++ cs → (b : Bool) → (c == 32) ≡ b
        → replicate (if b then unindent (n + 1) cs else (n, c ∷ cs)).0 32 ++ (if b then unindent (n + 1) cs else (n, c ∷ cs)).1 ≡ replicate n 32 ++ (c ∷ cs)
    by so true e = so ∙ ap (λ k. replicate k 32 ++ cs) (add-one n) ∙ more_blanks n cs ∙ ap (λ d. replicate n 32 ++ (d ∷ cs)) (sym (eqb-true c 32 e))
    by so false e = refl
