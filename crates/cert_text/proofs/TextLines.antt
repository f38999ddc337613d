-- Texts that grow by a line, or by several, at each turn of a loop.
use Rattle.std.proofs.Common.{◌≡◌, ◌∙◌, sym, ap, ℕ, ◌+◌, ◌<◌, ◌≤◌, List, [], ◌∷◌, ◌++◌, length, map, drop, get_or, append_assoc}
use Rattle.std.specs.Prelude.{flat_map, codes}
use Rattle.std.proofs.lemmas.Grind.{flat_map-append}
use Rattle.std.proofs.lemmas.List.{append-nil, drop_more, drop_all}
use Rattle.cert_text.specs.Text.{ended, spelled}

pub texts_joined : (a b c : List ℕ) → (a ++ b) ++ c ≡ a ++ (b ++ c)
texts_joined a b c = append_assoc a b c

-- the lines that an element adds
abbrev pub GoesBy : {A : Type 0} → (A → List (List ℕ)) → List A → ℕ → List ℕ → List ℕ → Type 0
GoesBy f xs i text whole = text ++ spelled (flat_map f (drop i xs)) ≡ whole

pub goes_on : {A : Type 0} (f : A → List (List ℕ)) (xs : List A) (i : ℕ) (d x : A) (text more next whole : List ℕ) → i < length xs → x ≡ get_or xs i d → GoesBy f xs i text whole → more ≡ spelled (f x) → next ≡ text ++ more → GoesBy f xs (i + 1) next whole
goes_on f xs i d x text more next whole h e so m n =
    let rest = flat_map f (drop (i + 1) xs) in
    let here : drop i xs ≡ x ∷ drop (i + 1) xs = drop_more xs i d h ∙ ap (λ y. y ∷ drop (i + 1) xs) (sym e) in
    let joined : more ++ spelled rest ≡ spelled (flat_map f (drop i xs)) = ap (λ t. t ++ spelled rest) m ∙ (sym (flat_map-append ended (f x) rest) ∙ ap (λ ys. spelled (flat_map f ys)) (sym here)) in
    ap (λ t. t ++ spelled rest) n ∙ (append_assoc text more (spelled rest) ∙ (ap (λ t. text ++ t) joined ∙ so))

pub goes_end : {A : Type 0} (f : A → List (List ℕ)) (xs : List A) (i : ℕ) (text whole : List ℕ) → length xs ≤ i → GoesBy f xs i text whole → text ≡ whole
goes_end f xs i text whole h so = sym (append-nil text) ∙ (ap (λ ys. text ++ spelled (flat_map f ys)) (sym (drop_all i xs h)) ∙ so)

-- the one line that it adds
abbrev pub GoesLine : {A : Type 0} → (A → List ℕ) → List A → ℕ → List ℕ → List ℕ → Type 0
GoesLine f xs i text whole = text ++ spelled (map f (drop i xs)) ≡ whole

pub line_on : {A : Type 0} (f : A → List ℕ) (xs : List A) (i : ℕ) (d x : A) (text more next whole : List ℕ) → i < length xs → x ≡ get_or xs i d → GoesLine f xs i text whole → more ≡ ended (f x) → next ≡ text ++ more → GoesLine f xs (i + 1) next whole
line_on f xs i d x text more next whole h e so m n =
    let rest = map f (drop (i + 1) xs) in
    let here : drop i xs ≡ x ∷ drop (i + 1) xs = drop_more xs i d h ∙ ap (λ y. y ∷ drop (i + 1) xs) (sym e) in
    let joined : more ++ spelled rest ≡ spelled (map f (drop i xs)) = ap (λ t. t ++ spelled rest) m ∙ ap (λ ys. spelled (map f ys)) (sym here) in
    ap (λ t. t ++ spelled rest) n ∙ (append_assoc text more (spelled rest) ∙ (ap (λ t. text ++ t) joined ∙ so))

pub lines_end : {A : Type 0} (f : A → List ℕ) (xs : List A) (i : ℕ) (text whole : List ℕ) → length xs ≤ i → GoesLine f xs i text whole → text ≡ whole
lines_end f xs i text whole h so = sym (append-nil text) ∙ (ap (λ ys. text ++ spelled (map f ys)) (sym (drop_all i xs h)) ∙ so)

-- ---- texts of several lines

pub plans_spelled : (name : List ℕ) (rs ws : List (List ℕ)) → spelled ((codes "format " ++ name) ∷ codes "read" ∷ rs ++ codes "write" ∷ ws) ≡ codes "format " ++ (name ++ (codes "\nread\n" ++ (spelled rs ++ (codes "write\n" ++ spelled ws))))
plans_spelled name rs ws =
    let after = spelled (rs ++ codes "write" ∷ ws) in
    append_assoc (codes "format " ++ name) (10 ∷ []) (codes "read\n" ++ after)
    ∙ (append_assoc (codes "format ") name (codes "\nread\n" ++ after) ∙ ap (λ z. codes "format " ++ (name ++ (codes "\nread\n" ++ z))) (flat_map-append ended rs (codes "write" ∷ ws)))

pub method_spelled : (name : List ℕ) (ns fs : List (List ℕ)) → spelled ((codes "method " ++ name) ∷ ns ++ fs) ≡ codes "method " ++ (name ++ (10 ∷ (spelled ns ++ spelled fs)))
method_spelled name ns fs =
    append_assoc (codes "method " ++ name) (10 ∷ []) (spelled (ns ++ fs))
    ∙ (append_assoc (codes "method ") name (10 ∷ spelled (ns ++ fs)) ∙ ap (λ z. codes "method " ++ (name ++ (10 ∷ z))) (flat_map-append ended ns fs))

pub whole_spelled : (version : List ℕ) (ms : List (List ℕ)) → spelled ((codes "rohcfn-certificate " ++ version) ∷ ms ++ codes "end" ∷ []) ≡ codes "rohcfn-certificate " ++ (version ++ (10 ∷ (spelled ms ++ codes "end\n")))
whole_spelled version ms =
    append_assoc (codes "rohcfn-certificate " ++ version) (10 ∷ []) (spelled (ms ++ codes "end" ∷ []))
    ∙ (append_assoc (codes "rohcfn-certificate ") version (10 ∷ spelled (ms ++ codes "end" ∷ [])) ∙ ap (λ z. codes "rohcfn-certificate " ++ (version ++ (10 ∷ z))) (flat_map-append ended ms (codes "end" ∷ [])))
