-- The words of a line that is printed.
use Rattle.std.proofs.Common.{◌≡◌, ◌∙◌, sym, ap, subst, refl, ℕ, zero, suc, ◌<◌, ◌^◌, ◌==◌, ◌&&◌, ◌||◌, not, Bool, true, false, List, [], ◌∷◌, ◌++◌, append_assoc, arith}
use Rattle.std.specs.Prelude.{decimal, codes, ℤ, pos, negsuc}
use Rattle.std.specs.Char.{is_ascii_alphabetic, is_ascii_alphanumeric, digit_value}
use Rattle.std.specs.Fmt.{signed_decimal}
use Rattle.std.specs.List.{All, AllByRecursion, list_all}
use Rattle.std.specs.Str.Parse.{AllDigits}
use Rattle.std.proofs.lemmas.Bool.{false≢true}
use Rattle.std.proofs.lemmas.Bool.Decides.{Decides-eqb}
use Rattle.std.proofs.lemmas.Fmt.{decimal_is_IsNumeral_wide}
use Rattle.std.proofs.lemmas.List.Splits.{slice_split_none, slice_split_at}
use Rattle.sem_expr.specs.declared.expr.Side.{Side}
use Rattle.sem_expr.specs.declared.expr.Side.TheVariants.{Uncompressed, Compressed}
use Rattle.cert_types.specs.declared.certificate.Step.{Step}
use Rattle.cert_types.specs.declared.certificate.Step.TheVariants.{Take, Call, LibraryUp, LibraryDown, MethodLength, ConstraintLength, Solve, Choose, Ask}
use Rattle.cert_text.specs.Drafts.{words}
use Rattle.cert_types.specs.Kept.{IsWide, IsStepKept}
use Rattle.cert_types.specs.Of.{IsWord}
use Rattle.cert_text.specs.Text.{side_word, step_words}
use Rattle.cert_text.proofs.DraftsNumerals.{both_true}

-- no octet of the text is d
abbrev pub Lacks : ℕ → List ℕ → Type 0
Lacks d xs = AllByRecursion (λ x. (x == d) ≡ false) xs

pub Lacks-append : (d : ℕ) (xs ys : List ℕ) → Lacks d xs → Lacks d ys → Lacks d (xs ++ ys)
Lacks-append d [] ys h k = k
Lacks-append d (x ∷ xs) ys h k = (h.0, Lacks-append d xs ys h.1 k)

pub All-Lacks : (d : ℕ) (xs : List ℕ) → Lacks d xs → All (λ x. (x == d) ≡ false) xs
All-Lacks d [] h k e l = absurd (omega arith)
All-Lacks d (x ∷ xs) h zero e l = h.0
All-Lacks d (x ∷ xs) h (suc k) e l = All-Lacks d xs h.1 k e (omega arith)

-- an octet for which a test holds is none for which it fails
tells_apart : (p : ℕ → Bool) (d x : ℕ) → p d ≡ false → p x ≡ true → (x == d) ≡ false
tells_apart p d x never holds = by (x == d) refl
  where
    by : (b : Bool) → (x == d) ≡ b → (x == d) ≡ false
    by true is = absurd (false≢true (sym never ∙ ap p (sym ((Decides-eqb x d).0 is)) ∙ holds))
    by false is = is

all_lack : (p : ℕ → Bool) (d : ℕ) (xs : List ℕ) → p d ≡ false → list_all p xs ≡ true → Lacks d xs
all_lack p d [] never h = tt
all_lack p d (x ∷ xs) never h = let b = both_true (p x) (list_all p xs) h in (tells_apart p d x never b.0, all_lack p d xs never b.1)

-- ---- the words of names and numbers

pub word_lacks : (d : ℕ) (xs : List ℕ) → (is_ascii_alphanumeric d || d == 95) ≡ false → is_ascii_alphabetic d ≡ false → IsWord xs → Lacks d xs
word_lacks d [] never first h = absurd (false≢true h)
word_lacks d (x ∷ xs) never first h =
    let b = both_true (is_ascii_alphabetic x) (list_all (λ c. is_ascii_alphanumeric c || c == 95) xs) h in
    (tells_apart is_ascii_alphabetic d x first b.0, all_lack (λ c. is_ascii_alphanumeric c || c == 95) d xs never b.1)

digits_lack : (d : ℕ) (xs : List ℕ) → (digit_value d < 10 → ⊥) → AllDigits 10 xs → Lacks d xs
digits_lack d [] never h = tt
digits_lack d (x ∷ xs) never h = (by (x == d) refl, digits_lack d xs never h.1)
  where
    by : (b : Bool) → (x == d) ≡ b → (x == d) ≡ false
    by true is = absurd (never (subst (λ c. digit_value c < 10) ((Decides-eqb x d).0 is) h.0))
    by false is = is

pub decimal_lacks : (d n : ℕ) → (digit_value d < 10 → ⊥) → n < 10 ^ 64 → Lacks d (decimal n)
decimal_lacks d n never h = digits_lack d (decimal n) never (decimal_is_IsNumeral_wide n h).0.1

pub signed_lacks : (d : ℕ) (z : ℤ) → (digit_value d < 10 → ⊥) → (45 == d) ≡ false → IsWide z → Lacks d (signed_decimal z)
signed_lacks d (pos n) never other h = decimal_lacks d n never (omega arith)
signed_lacks d (negsuc n) never other h = (other, decimal_lacks d (suc n) never (omega arith))

-- a closed text lacks an octet where a test says so
pub lacks_by : (d : ℕ) (xs : List ℕ) → list_all (λ x. not (x == d)) xs ≡ true → Lacks d xs
lacks_by d [] h = tt
lacks_by d (x ∷ xs) h = by (x == d) refl (lacks_by d xs) h
  where
    by : (b : Bool) → (x == d) ≡ b → (list_all (λ y. not (y == d)) xs ≡ true → Lacks d xs) → (not b && list_all (λ y. not (y == d)) xs) ≡ true → Lacks d (x ∷ xs)
    by true is more k = absurd (false≢true k)
    by false is more k = (is, more k)

-- ---- words of lines

pub last_word : (a : List ℕ) → Lacks 32 a → words a ≡ a ∷ []
last_word a h = slice_split_none (λ b. b == 32) a (All-Lacks 32 a h)

pub first_word : (a rest : List ℕ) → Lacks 32 a → words (a ++ 32 ∷ rest) ≡ a ∷ words rest
first_word a rest h = slice_split_at (λ b. b == 32) a 32 rest (All-Lacks 32 a h) refl

pub two_words : (a b : List ℕ) → Lacks 32 a → Lacks 32 b → words (a ++ 32 ∷ b) ≡ a ∷ b ∷ []
two_words a b h k = first_word a b h ∙ ap (λ r. a ∷ r) (last_word b k)

pub three_words : (a b c : List ℕ) → Lacks 32 a → Lacks 32 b → Lacks 32 c → words (a ++ 32 ∷ (b ++ 32 ∷ c)) ≡ a ∷ b ∷ c ∷ []
three_words a b c h k l = first_word a (b ++ 32 ∷ c) h ∙ ap (λ r. a ∷ r) (two_words b c k l)

pub four_words : (a b c e : List ℕ) → Lacks 32 a → Lacks 32 b → Lacks 32 c → Lacks 32 e → words (a ++ 32 ∷ (b ++ 32 ∷ (c ++ 32 ∷ e))) ≡ a ∷ b ∷ c ∷ e ∷ []
four_words a b c e h k l m = first_word a (b ++ 32 ∷ (c ++ 32 ∷ e)) h ∙ ap (λ r. a ∷ r) (three_words b c e k l m)

-- the first word of a step's line, and those after the field
abbrev pub step_word : Step → List ℕ
step_word (Take i) = codes "take"
step_word (Call i) = codes "call"
step_word (LibraryUp i) = codes "library"
step_word (LibraryDown i) = codes "library"
step_word (MethodLength i side) = codes "length"
step_word (ConstraintLength i side n) = codes "length"
step_word (Solve i n) = codes "solve"
step_word (Choose i) = codes "choose"
step_word (Ask i) = codes "ask"

abbrev pub step_more : Step → List (List ℕ)
step_more (Take i) = []
step_more (Call i) = []
step_more (LibraryUp i) = codes "up" ∷ []
step_more (LibraryDown i) = codes "down" ∷ []
step_more (MethodLength i side) = side_word side ∷ codes "method" ∷ []
step_more (ConstraintLength i side n) = side_word side ∷ decimal n ∷ []
step_more (Solve i n) = decimal n ∷ []
step_more (Choose i) = []
step_more (Ask i) = []

pub side_lacks : (side : Side) → Lacks 32 (side_word side)
side_lacks Uncompressed = lacks_by 32 (codes "U") refl
side_lacks Compressed = lacks_by 32 (codes "C") refl

-- a name, a space, and more; and with a side
pub spaced : (name more : List ℕ) → (name ++ codes " ") ++ more ≡ name ++ 32 ∷ more
spaced name more = append_assoc name (codes " ") more

pub spaced_side : (name side more : List ℕ) → ((name ++ codes " ") ++ side) ++ more ≡ name ++ 32 ∷ (side ++ more)
spaced_side name side more = ap (λ t. t ++ more) (spaced name side) ∙ append_assoc name (32 ∷ side) more

pub step_parts : (name : List ℕ) (step : Step) → Lacks 32 name → IsStepKept step → words (step_words name step) ≡ step_word step ∷ name ∷ step_more step
step_parts name (Take i) h k = two_words (codes "take") name (lacks_by 32 (codes "take") refl) h
step_parts name (Call i) h k = two_words (codes "call") name (lacks_by 32 (codes "call") refl) h
step_parts name (LibraryUp i) h k = three_words (codes "library") name (codes "up") (lacks_by 32 (codes "library") refl) h (lacks_by 32 (codes "up") refl)
step_parts name (LibraryDown i) h k = three_words (codes "library") name (codes "down") (lacks_by 32 (codes "library") refl) h (lacks_by 32 (codes "down") refl)
step_parts name (MethodLength i side) h k =
    ap (λ t. words (codes "length " ++ t)) (spaced_side name (side_word side) (codes " method"))
    ∙ four_words (codes "length") name (side_word side) (codes "method") (lacks_by 32 (codes "length") refl) h (side_lacks side) (lacks_by 32 (codes "method") refl)
step_parts name (ConstraintLength i side n) h k =
    ap (λ t. words (codes "length " ++ t)) (ap (λ t. t ++ decimal n) (spaced_side name (side_word side) (codes " ")) ∙ append_assoc name (32 ∷ (side_word side ++ codes " ")) (decimal n) ∙ ap (λ t. name ++ 32 ∷ t) (spaced (side_word side) (decimal n)))
    ∙ four_words (codes "length") name (side_word side) (decimal n) (lacks_by 32 (codes "length") refl) h (side_lacks side) (decimal_lacks 32 n (λ e. omega arith) (omega arith))
step_parts name (Solve i n) h k =
    ap (λ t. words (codes "solve " ++ t)) (spaced name (decimal n)) ∙ three_words (codes "solve") name (decimal n) (lacks_by 32 (codes "solve") refl) h (decimal_lacks 32 n (λ e. omega arith) (omega arith))
step_parts name (Choose i) h k = two_words (codes "choose") name (lacks_by 32 (codes "choose") refl) h
step_parts name (Ask i) h k = two_words (codes "ask") name (lacks_by 32 (codes "ask") refl) h
