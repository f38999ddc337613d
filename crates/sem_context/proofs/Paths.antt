use Rattle.std.proofs.Common.{◌≡◌, ℕ, zero, suc, ◌<◌, ◌==◌, ◌&&◌, Bool, true, false, List, [], ◌∷◌, ◌++◌, length, get_or, IsTrue, ◌↔◌, refl, sym, ap, ◌∙◌, subst, arith}
use Rattle.std.specs.Char.{is_ascii_alphabetic}
use Rattle.std.specs.List.{All, AllByRecursion, list_all, join_with_byte, slice_split}
use Rattle.std.proofs.lemmas.Bool.{false≢true}
use Rattle.std.proofs.lemmas.Bool.Decides.{Decides-eqb}
use Rattle.std.proofs.lemmas.List.Splits.{slice_split_none, slice_split_at, length-slice_split, join_with_byte-slice_split}
use Rattle.sem_context.specs.Path.{IsPath}
use Rattle.text_source.specs.Names.{is_name, is_name_octet}

-- no octet of the text is that one
abbrev pub Lacks : ℕ → List ℕ → Type 0
Lacks d xs = AllByRecursion (λ x. (x == d) ≡ false) xs

pub Lacks-append : (d : ℕ) (xs ys : List ℕ) → Lacks d xs → Lacks d ys → Lacks d (xs ++ ys)
Lacks-append d [] ys h k = k
Lacks-append d (x ∷ xs) ys h k = (h.0, Lacks-append d xs ys h.1 k)

pub All-Lacks : (d : ℕ) (xs : List ℕ) → Lacks d xs → All (λ x. (x == d) ≡ false) xs
All-Lacks d [] h k e l = absurd (omega arith)
All-Lacks d (x ∷ xs) h zero e l = h.0
All-Lacks d (x ∷ xs) h (suc k) e l = All-Lacks d xs h.1 k e (omega arith)

-- an octet for which a test holds is none for which it fails
pub tells_apart : (p : ℕ → Bool) (d x : ℕ) → p d ≡ false → p x ≡ true → (x == d) ≡ false
tells_apart p d x never holds = by (x == d) refl
  where
    by : (b : Bool) → (x == d) ≡ b → (x == d) ≡ false
    by true is = absurd (false≢true (sym never ∙ ap p (sym ((Decides-eqb x d).0 is)) ∙ holds))
    by false is = is

and_parts : (a b : Bool) → (a && b) ≡ true → (a ≡ true) × (b ≡ true)
and_parts true b h = (refl, h)
and_parts false b h = absurd (false≢true h)

octets_lack : (d : ℕ) (xs : List ℕ) → is_name_octet d ≡ false → list_all is_name_octet xs ≡ true → Lacks d xs
octets_lack d [] never h = tt
octets_lack d (x ∷ xs) never h = let p = and_parts (is_name_octet x) (list_all is_name_octet xs) h in (tells_apart is_name_octet d x never p.0, octets_lack d xs never p.1)

pub name_lacks : (d : ℕ) (xs : List ℕ) → is_name_octet d ≡ false → is_ascii_alphabetic d ≡ false → is_name xs ≡ true → Lacks d xs
name_lacks d [] never first h = absurd (false≢true h)
name_lacks d (x ∷ xs) never first h =
    let p = and_parts (is_ascii_alphabetic x) (list_all is_name_octet xs) h in (tells_apart is_ascii_alphabetic d x first p.0, octets_lack d xs never p.1)

-- names joined by dots have no octet that neither has
joined_lacks : (d : ℕ) (names : List (List ℕ)) → is_name_octet d ≡ false → is_ascii_alphabetic d ≡ false → (46 == d) ≡ false → AllByRecursion (λ name. IsTrue (is_name name)) names → Lacks d (join_with_byte 46 names)
joined_lacks d [] never first dot h = tt
joined_lacks d (n ∷ []) never first dot h = name_lacks d n never first h.0
joined_lacks d (n ∷ m ∷ ms) never first dot h = Lacks-append d n (46 ∷ join_with_byte 46 (m ∷ ms)) (name_lacks d n never first h.0) (dot, joined_lacks d (m ∷ ms) never first dot h.1)

pub path_lacks : (d : ℕ) (path : List ℕ) → is_name_octet d ≡ false → is_ascii_alphabetic d ≡ false → (46 == d) ≡ false → IsPath path → Lacks d path
path_lacks d path never first dot p = subst (Lacks d) (sym p.joined) (joined_lacks d p.names never first dot p.each)

-- names joined by dots are parted at the dots
split_joined : (names : List (List ℕ)) → 0 < length names → AllByRecursion (λ name. IsTrue (is_name name)) names → slice_split (λ b. b == 46) (join_with_byte 46 names) ≡ names
split_joined [] some h = absurd (omega arith)
split_joined (n ∷ []) some h = slice_split_none (λ b. b == 46) n (All-Lacks 46 n (name_lacks 46 n refl refl h.0))
split_joined (n ∷ m ∷ ms) some h =
    slice_split_at (λ b. b == 46) n 46 (join_with_byte 46 (m ∷ ms)) (All-Lacks 46 n (name_lacks 46 n refl refl h.0)) refl ∙ ap (λ r. n ∷ r) (split_joined (m ∷ ms) (omega arith) h.1)

all_names : (names : List (List ℕ)) → list_all is_name names ≡ true → AllByRecursion (λ name. IsTrue (is_name name)) names
all_names [] h = tt
all_names (n ∷ ns) h = let p = and_parts (is_name n) (list_all is_name ns) h in (p.0, all_names ns p.1)

names_all : (names : List (List ℕ)) → AllByRecursion (λ name. IsTrue (is_name name)) names → list_all is_name names ≡ true
names_all [] h = refl
names_all (n ∷ ns) h = (λ i. h.0 i && names_all ns h.1 i)

-- a text is a path where each part between its dots is a name
pub path_decided : (path : List ℕ) (r : Bool) → r ≡ list_all is_name (slice_split (λ b. b == 46) path) → IsTrue r ↔ IsPath path
path_decided path r is = (
  (λ t. record {
    names = slice_split (λ b. b == 46) path;
    some = omega (arith, length-slice_split (λ b. b == 46) path);
    each = all_names (slice_split (λ b. b == 46) path) (sym is ∙ t);
    joined = sym (join_with_byte-slice_split 46 path);
  }),
  (λ p. is ∙ ap (λ t. list_all is_name (slice_split (λ b. b == 46) t)) p.joined ∙ ap (list_all is_name) (split_joined p.names p.some p.each) ∙ names_all p.names p.each),
)

-- the same as a fact for each place
pub Lacks-from : (d : ℕ) (xs : List ℕ) → ((i : ℕ) → i < length xs → get_or xs i 0 ≡ d → ⊥) → Lacks d xs
Lacks-from d [] h = tt
Lacks-from d (x ∷ xs) h = (by (x == d) refl, Lacks-from d xs (λ i l. h (suc i) (omega arith)))
  where
    by : (b : Bool) → (x == d) ≡ b → (x == d) ≡ false
    by true is = absurd (h 0 (omega arith) ((Decides-eqb x d).0 is))
    by false is = is

-- and at a place, also past the end
pub lacks_at : (d : ℕ) (xs : List ℕ) (k : ℕ) → Lacks d xs → (0 == d) ≡ false → (get_or xs k 0 == d) ≡ false
lacks_at d [] k h z = z
lacks_at d (x ∷ xs) zero h z = h.0
lacks_at d (x ∷ xs) (suc k) h z = lacks_at d xs k h.1 z

-- a text is cut at the first octet of a kind in one way
pub cut_once : (d : ℕ) (xs ys more rest : List ℕ) → Lacks d xs → Lacks d ys → xs ++ d ∷ more ≡ ys ++ d ∷ rest → (xs ≡ ys) × (more ≡ rest)
cut_once d [] [] more rest l m e = (refl, cc)
cut_once d [] (y ∷ ys) more rest l m e = let h : y ≡ d = cc in absurd (false≢true (sym m.0 ∙ (Decides-eqb y d).1 h))
cut_once d (x ∷ xs) [] more rest l m e = let h : x ≡ d = cc in absurd (false≢true (sym l.0 ∙ (Decides-eqb x d).1 h))
cut_once d (x ∷ xs) (y ∷ ys) more rest l m e =
    let r : xs ++ d ∷ more ≡ ys ++ d ∷ rest = cc in
    let same = cut_once d xs ys more rest l.1 m.1 r in
    let first : x ≡ y = cc in
    ((λ k. first k ∷ same.0 k), same.1)

pub lacks_middle : (d : ℕ) (xs ys : List ℕ) → Lacks d (xs ++ d ∷ ys) → ⊥
lacks_middle d [] ys h = false≢true (sym h.0 ∙ (Decides-eqb d d).1 refl)
lacks_middle d (x ∷ xs) ys h = lacks_middle d xs ys h.1
