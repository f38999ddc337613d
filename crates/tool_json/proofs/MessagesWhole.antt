-- What a line says has the line as its text.
use Rattle.std.proofs.Common.{◌≡◌, ◌∙◌, sym, ap, subst, refl, ℕ, ◌*◌, ◌/◌, ◌%◌, Bool, true, false, List, [], ◌∷◌, ◌++◌, Some, None, Option, option_map, length, arith, ◌==◌, ◌&&◌, if◌then◌else◌, replicate, append_assoc, append-nil}
use Rattle.std.specs.Prelude.{IfSome, codes, decimal, option_and_then}
use Rattle.std.specs.Str.{bytes_eq}
use Rattle.std.proofs.lemmas.Bool.{eqb-true}
use Rattle.std.proofs.lemmas.Slice.Eq.{bytes_eq-Decides}
use Rattle.tool_json.specs.declared.message.Telling.{Telling}
use Rattle.tool_json.specs.declared.message.Telling.TheVariants as telling
use Rattle.tool_json.specs.Messages.{Spot, at, in_text, in_line, numbered, in_part, no_topic, named, that, Told, accepted, fault, note, warning, head, reason, avoided, against, spot_text, topic_text, told_text, cut, after, unindent, number_of, when, is_word, is_code}
use Rattle.tool_json.specs.Messages.{lone_by, lone_spot, pair_by, pair_spot, text_spot, before, third_by, second_on, second_by, first_on, first_by, placed, has_faults, has_notes, has_warnings, fault_by, fault_of, note_of, topic_by, topic_of, about_by, warning_by, warning_of}
use Rattle.tool_json.specs.Messages.{reason_by, reason_in, reason_of, bits_by, format_by, number_by, is_headed, head_by, head_of, or_else, other_of, unplaced, told_by}
use Rattle.tool_json.specs.Messages.{without_text, later_text, counted, counted_by, counted_on, last_count, last_by, behind, word_by, without_by, refused_by, refused_of, others_by, items_by, named_by, avoided_by, avoided_of, fits_by, later_of, taker_by, first_of, block_by, against_of}
use Rattle.tool_json.proofs.MessagesCut.{after_front, cut_joins, number_means, unindent_joins}

-- ---- what holds of an option's value, by the option's parts

map_whole : {A B : Type 0} (P : B → Type 0) (f : A → B) (o : Option A) → ((a : A) → o ≡ Some a → P (f a)) → IfSome (option_map f o) P
map_whole P f None h = tt
map_whole P f (Some a) h = h a refl

then_whole : {A B : Type 0} (P : B → Type 0) (f : A → Option B) (o : Option A) → ((a : A) → o ≡ Some a → IfSome (f a) P) → IfSome (option_and_then f o) P
then_whole P f None h = tt
then_whole P f (Some a) h = h a refl

if_whole : {A : Type 0} (P : A → Type 0) (b : Bool) (o : Option A) → (b ≡ true → IfSome o P) → IfSome (if b then o else None) P
if_whole P true o h = h refl
if_whole P false o h = tt

when_whole : {A : Type 0} (P : A → Type 0) (b : Bool) (x : A) → (b ≡ true → P x) → IfSome (when b x) P
when_whole P true x h = h refl
when_whole P false x h = tt

same_text : (a b : List ℕ) → bytes_eq a b ≡ true → a ≡ b
same_text a b h = (bytes_eq-Decides a b).0 h

-- ---- places

lone_joins : (front : List ℕ) (o : Option (List ℕ × List ℕ)) → cut 32 front ≡ o → IfSome (lone_by front o) (λ s. spot_text s ≡ front)
lone_joins front None h = when_whole (λ s. spot_text s ≡ front) (is_word front) (in_part front) (λ e. refl)
lone_joins front (Some p) h = if_whole (λ s. spot_text s ≡ front) (is_word p.0) (option_map (numbered p.0) (number_of p.1)) (λ w.
    map_whole (λ s. spot_text s ≡ front) (numbered p.0) (number_of p.1) (λ n e.
    ap (λ d. (p.0 ++ codes " ") ++ d) (number_means n p.1 e) ∙ append_assoc p.0 (32 ∷ []) p.1 ∙ cut_joins 32 front p h))

pair_joins : (front second : List ℕ) → IfSome (pair_spot front second) (λ s. spot_text s ≡ front ++ (58 ∷ second))
pair_joins front second = then_whole (λ s. spot_text s ≡ front ++ (58 ∷ second)) (λ n. pair_by front n (number_of front)) (number_of second) (λ n e. by n e (number_of front) refl)
  where
    by : (n : ℕ) → number_of second ≡ Some n → (o : Option ℕ) → number_of front ≡ o → IfSome (pair_by front n o) (λ s. spot_text s ≡ front ++ (58 ∷ second))
    by n e (Some l) f = (λ i. (number_means l front f i ++ codes ":") ++ number_means n second e i) ∙ append_assoc front (58 ∷ []) second
    by n e None f = when_whole (λ s. spot_text s ≡ front ++ (58 ∷ second)) (is_word front) (in_line front n) (λ w. ap (λ d. (front ++ codes ":") ++ d) (number_means n second e) ∙ append_assoc front (58 ∷ []) second)

three : (a b c : List ℕ) → (((a ++ (58 ∷ [])) ++ b) ++ (58 ∷ [])) ++ c ≡ a ++ (58 ∷ (b ++ (58 ∷ c)))
three a b c = simp append_assoc

text_joins : (front second third : List ℕ) → IfSome (text_spot front second third) (λ s. spot_text s ≡ front ++ (58 ∷ (second ++ (58 ∷ third))))
text_joins front second third =
    let P : Spot → Type 0 = λ s. spot_text s ≡ front ++ (58 ∷ (second ++ (58 ∷ third))) in
    if_whole P (bytes_eq front (codes "profile")) (option_and_then (λ line. option_map (in_text line) (number_of third)) (number_of second)) (λ w.
    then_whole P (λ line. option_map (in_text line) (number_of third)) (number_of second) (λ l e.
    map_whole P (in_text l) (number_of third) (λ n f.
    (λ i. (((sym (same_text front (codes "profile") w) i ++ (58 ∷ [])) ++ number_means l second e i) ++ (58 ∷ [])) ++ number_means n third f i) ∙ three front second third)))

abbrev AtSpot : List ℕ → Option (Spot × List ℕ) → Type 0
AtSpot line o = IfSome o (λ p. spot_text p.0 ++ (58 ∷ 32 ∷ p.1) ≡ line)

before_joins : (line rest front : List ℕ) (o : Option Spot) → IfSome o (λ s. spot_text s ≡ front) → front ++ (58 ∷ 32 ∷ rest) ≡ line → AtSpot line (before rest o)
before_joins line rest front None h e = tt
before_joins line rest front (Some s) h e = ap (λ x. x ++ (58 ∷ 32 ∷ rest)) h ∙ e

-- a text that was cut at a colon, with a blank behind it
colon_joins : (text : List ℕ) (p : List ℕ × List ℕ) (rest : List ℕ) → cut 58 text ≡ Some p → after 32 p.1 ≡ Some rest → p.0 ++ (58 ∷ 32 ∷ rest) ≡ text
colon_joins text p rest h e = ap (λ x. p.0 ++ (58 ∷ x)) (sym (after_front 32 p.1 rest e)) ∙ cut_joins 58 text p h

module _ (line : List ℕ) (p : List ℕ × List ℕ) (first : cut 58 line ≡ Some p) where
  second_all : (q : List ℕ × List ℕ) (rest : List ℕ) → q.0 ++ (58 ∷ rest) ≡ p.1 → (p.0 ++ (58 ∷ q.0)) ++ (58 ∷ rest) ≡ line
  second_all q rest e = append_assoc p.0 (58 ∷ q.0) (58 ∷ rest) ∙ ap (λ x. p.0 ++ (58 ∷ x)) e ∙ cut_joins 58 line p first

  third_joins : (q : List ℕ × List ℕ) → cut 58 p.1 ≡ Some q → (o : Option (List ℕ × List ℕ)) → cut 58 q.1 ≡ o → AtSpot line (third_by p.0 q.0 o)
  third_joins q e None f = tt
  third_joins q e (Some r) f = then_whole (λ s. spot_text s.0 ++ (58 ∷ 32 ∷ s.1) ≡ line) (λ rest. before rest (text_spot p.0 q.0 r.0)) (after 32 r.1) (λ rest g.
      before_joins line rest (p.0 ++ (58 ∷ (q.0 ++ (58 ∷ r.0)))) (text_spot p.0 q.0 r.0) (text_joins p.0 q.0 r.0)
      (ap (λ x. x ++ (58 ∷ 32 ∷ rest)) (sym (append_assoc p.0 (58 ∷ q.0) (58 ∷ r.0)))
      ∙ append_assoc (p.0 ++ (58 ∷ q.0)) (58 ∷ r.0) (58 ∷ 32 ∷ rest)
      ∙ ap (λ x. (p.0 ++ (58 ∷ q.0)) ++ (58 ∷ x)) (colon_joins q.1 r rest f g)
      ∙ second_all q q.1 (cut_joins 58 p.1 q e)))

  second_joins : (o : Option (List ℕ × List ℕ)) → cut 58 p.1 ≡ o → AtSpot line (second_by p.0 o)
  second_joins None e = tt
  second_joins (Some q) e = on (after 32 q.1) refl
    where
      on : (o : Option (List ℕ)) → after 32 q.1 ≡ o → AtSpot line (second_on p.0 q.0 q.1 o)
      on (Some rest) f = before_joins line rest (p.0 ++ (58 ∷ q.0)) (pair_spot p.0 q.0) (pair_joins p.0 q.0) (second_all q (32 ∷ rest) (colon_joins p.1 q rest e f))
      on None f = third_joins q e (cut 58 q.1) refl

  first_joins : (o : Option (List ℕ)) → after 32 p.1 ≡ o → AtSpot line (first_on p.0 p.1 o)
  first_joins (Some rest) e = before_joins line rest p.0 (lone_spot p.0) (lone_joins p.0 (cut 32 p.0) refl) (colon_joins line p rest first e)
  first_joins None e = second_joins (cut 58 p.1) refl

placed_joins : (line : List ℕ) (o : Option (List ℕ × List ℕ)) → cut 58 line ≡ o → AtSpot line (first_by o)
placed_joins line None h = tt
placed_joins line (Some p) h = first_joins line p h (after 32 p.1) refl

-- ---- what stands behind a place

abbrev Is : List ℕ → Option Told → Type 0
Is text o = IfSome o (λ t. told_text t ≡ text)

-- a line of a place and of what stands behind it
abbrev line_at : Spot → List ℕ → List ℕ
line_at s rest = spot_text s ++ (58 ∷ 32 ∷ rest)

fault_shape : (s code text : List ℕ) → (((s ++ (58 ∷ 32 ∷ [])) ++ code) ++ (32 ∷ [])) ++ text ≡ s ++ (58 ∷ 32 ∷ (code ++ (32 ∷ text)))
fault_shape s code text = simp append_assoc

fault_joins : (s : Spot) (rest : List ℕ) (o : Option (List ℕ × List ℕ)) → cut 32 rest ≡ o → Is (line_at s rest) (fault_by s o)
fault_joins s rest None h = tt
fault_joins s rest (Some p) h = when_whole (λ t. told_text t ≡ line_at s rest) (is_code p.0 && has_faults s) (fault s p.0 p.1) (λ e. fault_shape (spot_text s) p.0 p.1 ∙ ap (line_at s) (cut_joins 32 rest p h))

note_joins : (s : Spot) (rest : List ℕ) → Is (line_at s rest) (note_of s rest)
note_joins s rest = when_whole (λ t. told_text t ≡ line_at s rest) (has_notes s) (note s rest) (λ e. append_assoc (spot_text s) (58 ∷ 32 ∷ []) rest)

topic_joins : (word : List ℕ) (o : Option (List ℕ × List ℕ)) → cut 58 word ≡ o → topic_text (topic_by word o) ≡ 32 ∷ (word ++ (32 ∷ []))
topic_joins word None h = refl
topic_joins word (Some p) h = by (length p.1 == 0) refl
  where
    none : (xs : List ℕ) → (length xs == 0) ≡ true → xs ≡ []
    none [] e = refl
    none (x ∷ xs) e = let empty : length (x ∷ xs) ≡ 0 = eqb-true _ _ e in absurd (omega arith)

    by : (b : Bool) → (length p.1 == 0) ≡ b → topic_text (if b then named p.0 else that word) ≡ 32 ∷ (word ++ (32 ∷ []))
    by true e = ap (λ x. 32 ∷ x) (sym (append_assoc p.0 (58 ∷ []) (32 ∷ [])) ∙ ap (λ x. (p.0 ++ (58 ∷ x)) ++ (32 ∷ [])) (sym (none p.1 e)) ∙ ap (λ x. x ++ (32 ∷ [])) (cut_joins 58 word p h))
    by false e = refl

warning_shape : (s topic text : List ℕ) → ((s ++ codes ": warning") ++ topic) ++ text ≡ s ++ (58 ∷ 32 ∷ (codes "warning" ++ (topic ++ text)))
warning_shape s topic text = append_assoc (s ++ codes ": warning") topic text ∙ append_assoc s (codes ": warning") (topic ++ text)

about_joins : (s : Spot) (rest : List ℕ) (o : Option (List ℕ × List ℕ)) → cut 32 rest ≡ o → Is (line_at s (codes "warning" ++ (32 ∷ rest))) (about_by s o)
about_joins s rest None h = tt
about_joins s rest (Some p) h =
    warning_shape (spot_text s) (topic_text (topic_of p.0)) p.1
    ∙ ap (λ x. line_at s (codes "warning" ++ (x ++ p.1))) (topic_joins p.0 (cut 58 p.0) refl)
    ∙ ap (λ x. line_at s (codes "warning" ++ (32 ∷ x))) (append_assoc p.0 (32 ∷ []) p.1 ∙ cut_joins 32 rest p h)

module _ (s : Spot) (rest : List ℕ) where
  warning_joins : (o : Option (List ℕ × List ℕ)) → cut 32 rest ≡ o → Is (line_at s rest) (warning_by s o)
  warning_joins None h = tt
  warning_joins (Some p) h = by (bytes_eq p.0 (codes "warning:")) refl (bytes_eq p.0 (codes "warning")) refl
    where
      so : (word : List ℕ) → p.0 ≡ word → word ++ (32 ∷ p.1) ≡ rest
      so word e = ap (λ x. x ++ (32 ∷ p.1)) (sym e) ∙ cut_joins 32 rest p h

      by : (b : Bool) → bytes_eq p.0 (codes "warning:") ≡ b → (c : Bool) → bytes_eq p.0 (codes "warning") ≡ c
          → Is (line_at s rest) (if b then Some (warning s no_topic p.1) else if c then about_by s (cut 32 p.1) else None)
      by true e c f = warning_shape (spot_text s) (codes ": ") p.1 ∙ ap (line_at s) (so (codes "warning:") (same_text p.0 (codes "warning:") e))
      by false e true f = told_along (about_by s (cut 32 p.1)) (ap (line_at s) (so (codes "warning") (same_text p.0 (codes "warning") f))) (about_joins s p.1 (cut 32 p.1) refl)
        where
          told_along : (o : Option Told) {a b : List ℕ} → a ≡ b → Is a o → Is b o
          told_along None d g = tt
          told_along (Some t) d g = g ∙ d
      by false e false f = tt

warns_joins : (s : Spot) (rest : List ℕ) → Is (line_at s rest) (warning_of s rest)
warns_joins s rest = if_whole (λ t. told_text t ≡ line_at s rest) (has_warnings s) (warning_by s (cut 32 rest)) (λ e. warning_joins s rest (cut 32 rest) refl)

-- ---- reasons, head lines

reason_shape : (s blanks name text : List ℕ) → ((((s ++ (58 ∷ 32 ∷ [])) ++ blanks) ++ name) ++ (58 ∷ 32 ∷ [])) ++ text ≡ s ++ (58 ∷ 32 ∷ (blanks ++ (name ++ (58 ∷ 32 ∷ text))))
reason_shape s blanks name text = simp append_assoc

twice : (n : ℕ) → (n % 2 == 0) ≡ true → 2 * (n / 2) ≡ n
twice n h = let even : n % 2 ≡ 0 = eqb-true _ _ h in omega arith

reason_by_joins : (line column depth : ℕ) (text : List ℕ) (o : Option (List ℕ × List ℕ)) → cut 58 text ≡ o → Is (line_at (at line column) (replicate (2 * depth) 32 ++ text)) (reason_by line column depth o)
reason_by_joins line column depth text None h = tt
reason_by_joins line column depth text (Some p) h = map_whole (λ t. told_text t ≡ line_at (at line column) (replicate (2 * depth) 32 ++ text)) (reason line column depth p.0) (after 32 p.1) (λ rest e.
    reason_shape (spot_text (at line column)) (replicate (2 * depth) 32) p.0 rest ∙ ap (λ x. line_at (at line column) (replicate (2 * depth) 32 ++ x)) (colon_joins text p rest h e))

reason_in_joins : (line column : ℕ) (p : ℕ × List ℕ) → Is (line_at (at line column) (replicate p.0 32 ++ p.1)) (reason_in line column p)
reason_in_joins line column p = if_whole (λ t. told_text t ≡ line_at (at line column) (replicate p.0 32 ++ p.1)) (p.0 % 2 == 0) (reason_by line column (p.0 / 2) (cut 58 p.1)) (λ e.
    subst (λ n. Is (line_at (at line column) (replicate n 32 ++ p.1)) (reason_by line column (p.0 / 2) (cut 58 p.1))) (twice p.0 e) (reason_by_joins line column (p.0 / 2) p.1 (cut 58 p.1) refl))

reason_joins : (s : Spot) (rest : List ℕ) → Is (line_at s rest) (reason_of s rest)
reason_joins (at line column) rest = subst (λ x. Is (line_at (at line column) x) (reason_of (at line column) rest)) (unindent_joins 0 rest) (reason_in_joins line column (unindent 0 rest))
reason_joins (in_text line column) rest = tt
reason_joins (in_line part line) rest = tt
reason_joins (numbered part number) rest = tt
reason_joins (in_part part) rest = tt

head_shape : (what number format bits : List ℕ) → ((((((what ++ (32 ∷ [])) ++ number) ++ (32 ∷ [])) ++ format) ++ (32 ∷ [])) ++ bits) ++ codes " bits" ≡ what ++ (32 ∷ (number ++ (32 ∷ (format ++ (32 ∷ (bits ++ (32 ∷ codes "bits")))))))
head_shape what number format bits = simp append_assoc

bits_joins : (what : List ℕ) (number : ℕ) (format more : List ℕ) (o : Option (List ℕ × List ℕ)) → cut 32 more ≡ o → Is (what ++ (32 ∷ (decimal number ++ (32 ∷ (format ++ (32 ∷ more)))))) (bits_by what number format o)
bits_joins what number format more None h = tt
bits_joins what number format more (Some p) h =
    let P : Told → Type 0 = λ t. told_text t ≡ what ++ (32 ∷ (decimal number ++ (32 ∷ (format ++ (32 ∷ more))))) in
    if_whole P (bytes_eq p.1 (codes "bits")) (option_map (head what number format) (number_of p.0)) (λ e.
    map_whole P (head what number format) (number_of p.0) (λ n f.
    head_shape what (decimal number) format (decimal n)
    ∙ (λ i. what ++ (32 ∷ (decimal number ++ (32 ∷ (format ++ (32 ∷ (number_means n p.0 f i ++ (32 ∷ sym (same_text p.1 (codes "bits") e) i))))))))
    ∙ ap (λ x. what ++ (32 ∷ (decimal number ++ (32 ∷ (format ++ (32 ∷ x)))))) (cut_joins 32 more p h)))

format_joins : (what : List ℕ) (number : ℕ) (more : List ℕ) (o : Option (List ℕ × List ℕ)) → cut 32 more ≡ o → Is (what ++ (32 ∷ (decimal number ++ (32 ∷ more)))) (format_by what number o)
format_joins what number more None h = tt
format_joins what number more (Some p) h = subst (λ x. Is (what ++ (32 ∷ (decimal number ++ (32 ∷ x)))) (bits_by what number p.0 (cut 32 p.1))) (cut_joins 32 more p h) (bits_joins what number p.0 p.1 (cut 32 p.1) refl)

number_joins : (what more : List ℕ) (o : Option (List ℕ × List ℕ)) → cut 32 more ≡ o → Is (what ++ (32 ∷ more)) (number_by what o)
number_joins what more None h = tt
number_joins what more (Some p) h = then_whole (λ t. told_text t ≡ what ++ (32 ∷ more)) (λ n. format_by what n (cut 32 p.1)) (number_of p.0) (λ n e.
    subst (λ x. Is (what ++ (32 ∷ x)) (format_by what n (cut 32 p.1))) (ap (λ x. x ++ (32 ∷ p.1)) (number_means n p.0 e) ∙ cut_joins 32 more p h) (format_joins what n p.1 (cut 32 p.1) refl))

head_joins : (line : List ℕ) (o : Option (List ℕ × List ℕ)) → cut 32 line ≡ o → Is line (head_by o)
head_joins line None h = tt
head_joins line (Some p) h = if_whole (λ t. told_text t ≡ line) (is_headed p.0) (number_by p.0 (cut 32 p.1)) (λ e.
    subst (λ x. Is x (number_by p.0 (cut 32 p.1))) (cut_joins 32 line p h) (number_joins p.0 p.1 (cut 32 p.1) refl))

-- ---- what stands against a format

some_whole : {A : Type 0} (P : A → Type 0) (o : Option A) (a : A) → o ≡ Some a → IfSome o P → P a
some_whole P o a e h = subst (λ x. IfSome x P) e h

counted_whole : (word text : List ℕ) → IfSome (counted word text) (λ p. word ++ (32 ∷ (decimal p.0 ++ (32 ∷ p.1))) ≡ text)
counted_whole word text = by (cut 32 text) refl
  where
    P : ℕ × List ℕ → Type 0
    P p = word ++ (32 ∷ (decimal p.0 ++ (32 ∷ p.1))) ≡ text

    on : (q : List ℕ × List ℕ) → cut 32 text ≡ Some q → bytes_eq q.0 word ≡ true → (o : Option (List ℕ × List ℕ)) → cut 32 q.1 ≡ o → IfSome (counted_on o) P
    on q h e None f = tt
    on q h e (Some r) f = map_whole P (λ n. (n, r.1)) (number_of r.0) (λ n g.
        (λ i. sym (same_text q.0 word e) i ++ (32 ∷ (number_means n r.0 g i ++ (32 ∷ r.1)))) ∙ ap (λ x. q.0 ++ (32 ∷ x)) (cut_joins 32 q.1 r f) ∙ cut_joins 32 text q h)

    by : (o : Option (List ℕ × List ℕ)) → cut 32 text ≡ o → IfSome (counted_by word o) P
    by None h = tt
    by (Some q) h = if_whole P (bytes_eq q.0 word) (counted_on (cut 32 q.1)) (λ e. on q h e (cut 32 q.1) refl)

last_whole : (word text : List ℕ) → IfSome (last_count word text) (λ n. word ++ (32 ∷ decimal n) ≡ text)
last_whole word text = by (cut 32 text) refl
  where
    P : ℕ → Type 0
    P n = word ++ (32 ∷ decimal n) ≡ text

    by : (o : Option (List ℕ × List ℕ)) → cut 32 text ≡ o → IfSome (last_by word o) P
    by None h = tt
    by (Some q) h = if_whole P (bytes_eq q.0 word) (number_of q.1) (λ e. read e (number_of q.1) refl)
      where
        read : bytes_eq q.0 word ≡ true → (o : Option ℕ) → number_of q.1 ≡ o → IfSome o P
        read e None f = tt
        read e (Some n) f = (λ i. sym (same_text q.0 word e) i ++ (32 ∷ number_means n q.1 f i)) ∙ cut_joins 32 text q h

behind_whole : (word text : List ℕ) → IfSome (behind word text) (λ t. word ++ (32 ∷ t) ≡ text)
behind_whole word text = by (cut 32 text) refl
  where
    P : List ℕ → Type 0
    P t = word ++ (32 ∷ t) ≡ text

    by : (o : Option (List ℕ × List ℕ)) → cut 32 text ≡ o → IfSome (word_by word o) P
    by None h = tt
    by (Some q) h = if_whole P (bytes_eq q.0 word) (Some q.1) (λ e. ap (λ x. x ++ (32 ∷ q.1)) (sym (same_text q.0 word e)) ∙ cut_joins 32 text q h)

-- what the three give, by their equations
counted_is : (word text : List ℕ) (p : ℕ × List ℕ) → counted word text ≡ Some p → word ++ (32 ∷ (decimal p.0 ++ (32 ∷ p.1))) ≡ text
counted_is word text p e = some_whole (λ q. word ++ (32 ∷ (decimal q.0 ++ (32 ∷ q.1))) ≡ text) (counted word text) p e (counted_whole word text)

last_is : (word text : List ℕ) (n : ℕ) → last_count word text ≡ Some n → word ++ (32 ∷ decimal n) ≡ text
last_is word text n e = some_whole (λ n. word ++ (32 ∷ decimal n) ≡ text) (last_count word text) n e (last_whole word text)

behind_is : (word text t : List ℕ) → behind word text ≡ Some t → word ++ (32 ∷ t) ≡ text
behind_is word text t e = some_whole (λ t. word ++ (32 ∷ t) ≡ text) (behind word text) t e (behind_whole word text)

abbrev refused_text : ℕ × Option ℕ → List ℕ
refused_text q = (codes "refused " ++ decimal q.0) ++ without_text q.1

refused_whole : (text : List ℕ) → IfSome (refused_of text) (λ q. refused_text q ≡ text)
refused_whole text = by (last_count (codes "refused") text) refl
  where
    P : ℕ × Option ℕ → Type 0
    P q = refused_text q ≡ text

    on : (o : Option (ℕ × List ℕ)) → counted (codes "refused") text ≡ o → IfSome (without_by o) P
    on None e = tt
    on (Some p) e = map_whole P (λ n. (p.0, Some n)) (last_count (codes "without") p.1) (λ n f.
        append_assoc (codes "refused ") (decimal p.0) (codes " without " ++ decimal n)
        ∙ ap (λ x. codes "refused" ++ (32 ∷ (decimal p.0 ++ (32 ∷ x)))) (last_is (codes "without") p.1 n f)
        ∙ counted_is (codes "refused") text p e)

    by : (o : Option ℕ) → last_count (codes "refused") text ≡ o → IfSome (refused_by text o) P
    by (Some n) e = append-nil (codes "refused " ++ decimal n) ∙ last_is (codes "refused") text n e
    by None e = on (counted (codes "refused") text) refl

avoided_shape : (f i o r w : List ℕ) → ((((((((codes "format " ++ f) ++ codes " items ") ++ i) ++ codes " others ") ++ o) ++ codes " refused ") ++ r) ++ w)
    ≡ codes "format" ++ (32 ∷ (f ++ (32 ∷ (codes "items" ++ (32 ∷ (i ++ (32 ∷ (codes "others" ++ (32 ∷ (o ++ (32 ∷ ((codes "refused " ++ r) ++ w))))))))))))
avoided_shape f i o r w = simp append_assoc

-- the line of a format up to its items
abbrev format_line : List ℕ → ℕ → List ℕ → List ℕ
format_line format items more = codes "format" ++ (32 ∷ (format ++ (32 ∷ (codes "items" ++ (32 ∷ (decimal items ++ (32 ∷ more)))))))

others_joins : (format : List ℕ) (items : ℕ) (more : List ℕ) (o : Option (ℕ × List ℕ)) → counted (codes "others") more ≡ o → Is (format_line format items more) (others_by format items o)
others_joins format items more None e = tt
others_joins format items more (Some p) e = map_whole (λ t. told_text t ≡ format_line format items more) (λ q. avoided format items p.0 q.0 q.1) (refused_of p.1) (λ q f.
    avoided_shape format (decimal items) (decimal p.0) (decimal q.0) (without_text q.1)
    ∙ ap (λ x. format_line format items (codes "others" ++ (32 ∷ (decimal p.0 ++ (32 ∷ x))))) (some_whole (λ q. refused_text q ≡ p.1) (refused_of p.1) q f (refused_whole p.1))
    ∙ ap (format_line format items) (counted_is (codes "others") more p e))

items_joins : (format more : List ℕ) (o : Option (ℕ × List ℕ)) → counted (codes "items") more ≡ o → Is (codes "format" ++ (32 ∷ (format ++ (32 ∷ more)))) (items_by format o)
items_joins format more None e = tt
items_joins format more (Some p) e = subst (λ x. Is (codes "format" ++ (32 ∷ (format ++ (32 ∷ x)))) (others_by format p.0 (counted (codes "others") p.1))) (counted_is (codes "items") more p e) (others_joins format p.0 p.1 (counted (codes "others") p.1) refl)

named_joins : (more : List ℕ) (o : Option (List ℕ × List ℕ)) → cut 32 more ≡ o → Is (codes "format" ++ (32 ∷ more)) (named_by o)
named_joins more None e = tt
named_joins more (Some p) e = subst (λ x. Is (codes "format" ++ (32 ∷ x)) (items_by p.0 (counted (codes "items") p.1))) (cut_joins 32 more p e) (items_joins p.0 p.1 (counted (codes "items") p.1) refl)

avoided_joins : (line : List ℕ) (o : Option (List ℕ × List ℕ)) → cut 32 line ≡ o → Is line (avoided_by o)
avoided_joins line None e = tt
avoided_joins line (Some p) e = if_whole (λ t. told_text t ≡ line) (bytes_eq p.0 (codes "format")) (named_by (cut 32 p.1)) (λ f.
    subst (λ x. Is x (named_by (cut 32 p.1))) (ap (λ x. x ++ (32 ∷ p.1)) (sym (same_text p.0 (codes "format") f)) ∙ cut_joins 32 line p e) (named_joins p.1 (cut 32 p.1) refl))

later_whole : (text : List ℕ) → IfSome (later_of text) (λ n. later_text (Some n) ≡ 58 ∷ text)
later_whole text =
    then_whole P (λ t. option_and_then (λ u. option_and_then (λ v. fits_by (counted (codes "with") v)) (behind (codes "fits") u)) (behind (codes "it") t)) (after 32 text) (λ t a.
    then_whole P (λ u. option_and_then (λ v. fits_by (counted (codes "with") v)) (behind (codes "fits") u)) (behind (codes "it") t) (λ u b.
    then_whole P (λ v. fits_by (counted (codes "with") v)) (behind (codes "fits") u) (λ v c.
    fits (ap (λ x. 58 ∷ 32 ∷ x) (ap (λ x. codes "it" ++ (32 ∷ x)) (behind_is (codes "fits") u v c) ∙ behind_is (codes "it") t u b) ∙ ap (λ x. 58 ∷ x) (sym (after_front 32 text t a))) (counted (codes "with") v) refl)))
  where
    P : ℕ → Type 0
    P n = later_text (Some n) ≡ 58 ∷ text

    fits : {v : List ℕ} → 58 ∷ 32 ∷ (codes "it" ++ (32 ∷ (codes "fits" ++ (32 ∷ v)))) ≡ 58 ∷ text → (o : Option (ℕ × List ℕ)) → counted (codes "with") v ≡ o → IfSome (fits_by o) P
    fits {v} so None d = tt
    fits {v} so (Some p) d = if_whole P (bytes_eq p.1 (codes "bits, and comes later")) (Some p.0) (λ e.
        append_assoc (codes ": it fits with ") (decimal p.0) (codes " bits, and comes later")
        ∙ ap (λ x. codes ": it fits with " ++ (decimal p.0 ++ (32 ∷ x))) (sym (same_text p.1 (codes "bits, and comes later") e))
        ∙ ap (λ x. 58 ∷ 32 ∷ (codes "it" ++ (32 ∷ (codes "fits" ++ (32 ∷ x))))) (counted_is (codes "with") v p d)
        ∙ so)

against_shape : (i f by later : List ℕ) → ((((((codes "items " ++ i) ++ codes " first ") ++ f) ++ codes " by ") ++ by) ++ later) ≡ codes "items" ++ (32 ∷ (i ++ (32 ∷ (codes "first" ++ (32 ∷ (f ++ (32 ∷ (codes "by" ++ (32 ∷ (by ++ later))))))))))
against_shape i f by later = simp append_assoc

-- the line of a block up to the format that takes its items
abbrev block_line : ℕ → ℕ → List ℕ → List ℕ
block_line items first text = codes "items" ++ (32 ∷ (decimal items ++ (32 ∷ (codes "first" ++ (32 ∷ (decimal first ++ (32 ∷ (codes "by" ++ (32 ∷ text)))))))))

taker_joins : (items first : ℕ) (text : List ℕ) (o : Option (List ℕ × List ℕ)) → cut 58 text ≡ o → Is (block_line items first text) (taker_by items first text o)
taker_joins items first text None e = against_shape (decimal items) (decimal first) text [] ∙ ap (block_line items first) (append-nil text)
taker_joins items first text (Some p) e = map_whole (λ t. told_text t ≡ block_line items first text) (λ n. against items first p.0 (Some n)) (later_of p.1) (λ n f.
    against_shape (decimal items) (decimal first) p.0 (later_text (Some n))
    ∙ ap (λ x. block_line items first (p.0 ++ x)) (some_whole (λ n. later_text (Some n) ≡ 58 ∷ p.1) (later_of p.1) n f (later_whole p.1))
    ∙ ap (block_line items first) (cut_joins 58 text p e))

first_joins_of : (items : ℕ) (more : List ℕ) (o : Option (ℕ × List ℕ)) → counted (codes "first") more ≡ o → Is (codes "items" ++ (32 ∷ (decimal items ++ (32 ∷ more)))) (first_of items o)
first_joins_of items more None e = tt
first_joins_of items more (Some p) e = then_whole (λ t. told_text t ≡ codes "items" ++ (32 ∷ (decimal items ++ (32 ∷ more)))) (λ t. taker_by items p.0 t (cut 58 t)) (behind (codes "by") p.1) (λ t f.
    subst (λ x. Is (codes "items" ++ (32 ∷ (decimal items ++ (32 ∷ x)))) (taker_by items p.0 t (cut 58 t)))
    (ap (λ x. codes "first" ++ (32 ∷ (decimal p.0 ++ (32 ∷ x)))) (behind_is (codes "by") p.1 t f) ∙ counted_is (codes "first") more p e) (taker_joins items p.0 t (cut 58 t) refl))

block_joins : (line : List ℕ) (o : Option (ℕ × List ℕ)) → counted (codes "items") line ≡ o → Is line (block_by o)
block_joins line None e = tt
block_joins line (Some p) e = subst (λ x. Is x (first_of p.0 (counted (codes "first") p.1))) (counted_is (codes "items") line p e) (first_joins_of p.0 p.1 (counted (codes "first") p.1) refl)

-- ---- lines

either : (text : List ℕ) (a b : Option Told) → Is text a → Is text b → Is text (or_else a b)
either text None b h k = k
either text (Some t) b h k = h

other_joins : (which : Telling) (s : Spot) (rest : List ℕ) → Is (line_at s rest) (other_of which s rest)
other_joins telling.Judging s rest = note_joins s rest
other_joins telling.Warning s rest = warns_joins s rest
other_joins telling.Reasons s rest = reason_joins s rest
other_joins telling.Faults s rest = tt

unplaced_joins : (which : Telling) (line : List ℕ) → Is line (unplaced which line)
unplaced_joins telling.Judging line = when_whole (λ t. told_text t ≡ line) (bytes_eq line (codes "accepted")) accepted (λ e. sym (same_text line (codes "accepted") e))
unplaced_joins telling.Warning line = tt
unplaced_joins telling.Reasons line = either line (head_of line) (or_else (avoided_of line) (against_of line)) (head_joins line (cut 32 line) refl)
    (either line (avoided_of line) (against_of line) (avoided_joins line (cut 32 line) refl) (block_joins line (counted (codes "items") line) refl))
unplaced_joins telling.Faults line = tt

by_place : (which : Telling) (line : List ℕ) (o : Option (Spot × List ℕ)) → AtSpot line o → Is line (told_by which line o)
by_place which line None h = unplaced_joins which line
by_place which line (Some p) h = subst (λ x. Is x (or_else (fault_of p.0 p.1) (other_of which p.0 p.1))) h (either (line_at p.0 p.1) (fault_of p.0 p.1) (other_of which p.0 p.1) (fault_joins p.0 p.1 (cut 32 p.1) refl) (other_joins which p.0 p.1))

-- what a line says, if it is no remark, has the line as its text
pub whole : (which : Telling) (line : List ℕ) → IfSome (told_by which line (placed line)) (λ t. told_text t ≡ line)
whole which line = by_place which line (placed line) (placed_joins line (cut 58 line) refl)
