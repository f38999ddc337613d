-- Lines before a heading and after it, a line at a time; what an entry is cut from.
use Rattle.std.proofs.Common.{◌≡◌, ◌∙◌, sym, ap, refl, ℕ, Bool, true, false, List, [], ◌∷◌, ◌++◌, Some, append_assoc, if◌then◌else◌, map, Bor}
use Rattle.std.specs.Prelude.{◌||◌, codes, flat_map}
use Rattle.std.proofs.lemmas.List.{map-append}
use Rattle.std.proofs.lemmas.List.Concat.{flat_map-append}
use Rattle.tool_json.specs.Messages.{cut, number_of}
use Rattle.tool_json.specs.Entries.{after_heading, after_on, before_heading, before_on, entry_line, has_heading, is_heading}
use Rattle.tool_json.proofs.MessagesCut.{cut_joins, number_means}

-- ---- one line more

any_more : (lines : List (List ℕ)) (line : List ℕ) → has_heading (lines ++ line ∷ []) ≡ (has_heading lines || is_heading line)
any_more [] line = by (is_heading line)
  where
    by : (b : Bool) → (b || false) ≡ b
    by true = refl
    by false = refl
any_more (l ∷ ls) line = by (any_more ls line) (is_heading l)
  where
    by : has_heading (ls ++ line ∷ []) ≡ (has_heading ls || is_heading line) → (b : Bool) → (b || has_heading (ls ++ line ∷ [])) ≡ ((b || has_heading ls) || is_heading line)
    by so true = refl
    by so false = so

before_more : (lines : List (List ℕ)) (line : List ℕ) → before_heading (lines ++ line ∷ []) ≡ before_heading lines ++ before_on (has_heading lines) line
before_more [] line = refl
before_more (l ∷ ls) line = by (before_more ls line) (is_heading l)
  where
    by : before_heading (ls ++ line ∷ []) ≡ before_heading ls ++ before_on (has_heading ls) line → (b : Bool)
        → (if b then [] else l ∷ before_heading (ls ++ line ∷ [])) ≡ (if b then [] else l ∷ before_heading ls) ++ before_on (b || has_heading ls) line
    by so true = refl
    by so false = ap (λ xs. l ∷ xs) so

after_more : (lines : List (List ℕ)) (line : List ℕ) → after_heading (lines ++ line ∷ []) ≡ after_heading lines ++ after_on (has_heading lines) line
after_more [] line = by (is_heading line)
  where
    none : List (List ℕ)
    none = []

    by : (b : Bool) → (if b then none else none) ≡ none
    by true = refl
    by false = refl
after_more (l ∷ ls) line = by (after_more ls line) (is_heading l)
  where
    by : after_heading (ls ++ line ∷ []) ≡ after_heading ls ++ after_on (has_heading ls) line → (b : Bool)
        → (if b then ls ++ line ∷ [] else after_heading (ls ++ line ∷ [])) ≡ (if b then ls else after_heading ls) ++ after_on (b || has_heading ls) line
    by so true = refl
    by so false = so

-- ---- the same of lines that are yielded one by one

abbrev pub texts : List (Bor (List ℕ)) → List (List ℕ)
texts ys = map (λ x. x.now) ys

module _ (ys : List (Bor (List ℕ))) (y : Bor (List ℕ)) (found : Bool) (is : found ≡ has_heading (texts ys)) where
  one_more : texts (ys ++ y ∷ []) ≡ texts ys ++ y.now ∷ []
  one_more = map-append (λ x. x.now) ys (y ∷ [])

  pub found_step : (now : Bool) → now ≡ (found || is_heading y.now) → now ≡ has_heading (texts (ys ++ y ∷ []))
  found_step now e = e ∙ ap (λ b. b || is_heading y.now) is ∙ sym (any_more (texts ys) y.now) ∙ ap has_heading (sym one_more)

  pub before_step : before_heading (texts (ys ++ y ∷ [])) ≡ before_heading (texts ys) ++ before_on found y.now
  before_step = ap before_heading one_more ∙ before_more (texts ys) y.now ∙ ap (λ b. before_heading (texts ys) ++ before_on b y.now) (sym is)

  pub after_step : after_heading (texts (ys ++ y ∷ [])) ≡ after_heading (texts ys) ++ after_on found y.now
  after_step = ap after_heading one_more ∙ after_more (texts ys) y.now ∙ ap (λ b. after_heading (texts ys) ++ after_on b y.now) (sym is)

-- what is added for the further lines, behind what was added for those so far
pub grown : {A : Type 0} (g : List ℕ → List A) (start so_far next : List A) (lines more whole : List (List ℕ))
    → so_far ≡ start ++ flat_map g lines → next ≡ so_far ++ flat_map g more → whole ≡ lines ++ more → next ≡ start ++ flat_map g whole
grown g start so_far next lines more whole e f h =
    f
    ∙ ap (λ z. z ++ flat_map g more) e
    ∙ append_assoc start (flat_map g lines) (flat_map g more)
    ∙ ap (λ z. start ++ z) (sym (flat_map-append g lines more))
    ∙ ap (λ w. start ++ flat_map g w) (sym h)

-- ---- an entry has its line as its text

entry_shape : (path count digits : List ℕ) → (((path ++ (32 ∷ [])) ++ count) ++ (58 ∷ [])) ++ digits ≡ path ++ (32 ∷ (count ++ (58 ∷ digits)))
entry_shape path count digits = simp append_assoc

pub entry_joins : (line path bits count digits : List ℕ) (n : ℕ) → Some (path, bits) ≡ cut 32 line → Some (count, digits) ≡ cut 58 bits → Some n ≡ number_of count → entry_line path n digits ≡ line
entry_joins line path bits count digits n e f g =
    ap (λ d. (((path ++ codes " ") ++ d) ++ codes ":") ++ digits) (number_means n count (sym g))
    ∙ entry_shape path count digits
    ∙ ap (λ t. path ++ (32 ∷ t)) (cut_joins 58 bits (count, digits) (sym f))
    ∙ cut_joins 32 line (path, bits) (sym e)
