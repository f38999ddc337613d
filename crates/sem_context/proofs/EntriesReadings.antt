use Rattle.std.proofs.Common.{◌≡◌, ℕ, suc, ◌+◌, ◌-◌, ◌<◌, ◌≤◌, ◌^◌, ◌==◌, ◌&&◌, Bool, true, false, cond, List, [], ◌∷◌, ◌++◌, map, length, take, drop, get_or, Option, Some, None, refl, sym, ap, ◌∙◌, subst, append_assoc, length-append, arith}
use Rattle.std.specs.Prelude.{decimal, IsSome, is_some}
use Rattle.std.specs.Borrow.{Bor}
use Rattle.std.specs.Option.{option_copied}
use Rattle.std.specs.List.{AllZip, IsDistinct, list_all, slice_split}
use Rattle.std.specs.Str.Lines.{lines, lines_of_parts, strip_carriage_return}
use Rattle.std.specs.Str.Parse.{AllDigits, digits_value}
use Rattle.std.proofs.lemmas.Bool.{false≢true}
use Rattle.std.proofs.lemmas.Bool.Decides.{Decides-eqb}
use Rattle.std.proofs.lemmas.Fmt.{digits_decimal}
use Rattle.std.proofs.lemmas.List.{map-append, take_more}
use Rattle.std.proofs.lemmas.List.Splits.{slice_split_at, length-slice_split}
use Rattle.std.proofs.lemmas.Str.Parse.{IsNumeralModel, numerals_by_value, tells_digits, not_in_digits}
use Rattle.std.proofs.Math.Seq.{split_at}
use mathlib.Core.Bool.{not}
use Rattle.hex.specs.Hex.{encode_with, encode_lower, lower_digits}
use Rattle.sem_bits.specs.Lines.{numbered_lines}
use Rattle.sem_bits.specs.Text.{IsText, ReadsAs}
use Rattle.sem_bits.proofs.LineLists.{kept}
use Rattle.sem_bits.proofs.Texts as texts
use Rattle.sem_context.specs.Entries.{Entries, bits_at, AreDistinct, with_entry}
use Rattle.sem_context.specs.Text.{IsContextText, IsEntryLine, IsReading, IsFirstFault, AreReadable}
use Rattle.sem_context.proofs.EntriesOverrides.{with_entry-absent, with_entry-distinct, absent_before}
use Rattle.sem_context.proofs.Paths.{Lacks, Lacks-append, All-Lacks, Lacks-from, lacks_at, path_lacks, cut_once}

-- ---- one line

-- a line is cut at its first space
pub entry_cut : (line front rest : List ℕ) (e : List ℕ × List Bool) → line ≡ front ++ 32 ∷ rest → Lacks 32 front → (s : IsEntryLine line e) → (front ≡ e.0) × (rest ≡ s.spelled)
entry_cut line front rest e cut l s = cut_once 32 front e.0 rest s.spelled l (path_lacks 32 e.0 refl refl refl s.is_path) (sym cut ∙ s.parts)

-- so a line is read as one entry
pub one_entry : (line : List ℕ) (e g : List ℕ × List Bool) → IsEntryLine line e → IsEntryLine line g → e ≡ g
one_entry line e g s t =
    let parts = entry_cut line e.0 s.spelled g s.parts (path_lacks 32 e.0 refl refl refl s.is_path) t in
    let reads : ReadsAs s.spelled g.1 = subst (λ x. ReadsAs x g.1) (sym parts.1) t.reads in
    let bits = texts.one_reading s.spelled e.1 g.1 (omega (arith, s.short)) (omega (arith, t.short)) s.reads reads in
    (λ i. (parts.0 i, bits i))

-- ---- lines that were read so far

abbrev pub Fits : ℕ × List ℕ → List ℕ × List Bool → Type 0
Fits l e = IsEntryLine l.1 e

zip_push : (ls : List (ℕ × List ℕ)) (es : Entries) (l : ℕ × List ℕ) (e : List ℕ × List Bool) → AllZip Fits ls es → Fits l e → AllZip Fits (ls ++ l ∷ []) (es ++ e ∷ [])
zip_push [] [] l e h k = (k, tt)
zip_push [] (x ∷ es) l e h k = absurd h
zip_push (x ∷ ls) [] l e h k = absurd h
zip_push (x ∷ ls) (y ∷ es) l e h k = (h.0, zip_push ls es l e h.1 k)

reading_push : (before : List (ℕ × List ℕ)) (l : ℕ × List ℕ) (es new : Entries) (path : List ℕ) (bits : List Bool) → IsReading before es → IsEntryLine l.1 (path, bits) → bits_at es path ≡ None → new ≡ with_entry es path bits
    → IsReading (before ++ l ∷ []) new
reading_push before l es new path bits so_far fits absent is = record {
  each = subst (AllZip Fits (before ++ l ∷ [])) (sym (is ∙ with_entry-absent es path bits absent)) (zip_push before es l (path, bits) so_far.each fits);
  distinct = subst AreDistinct (sym is) (with_entry-distinct es path bits so_far.distinct);
}

none_from : (o : Option (List Bool)) → is_some o ≡ false → o ≡ None
none_from None h = refl
none_from (Some x) h = absurd (false≢true (sym h))

-- no lines are read as no entries
pub nothing_read : (es : Entries) → es ≡ [] → IsReading [] es
unfolding IsDistinct
nothing_read es is = subst (IsReading []) (sym is) (record { each = tt; distinct = tt })

-- a line more, where the lines are items that a function shows
pub reading_more : {A : Type 0} (f : A → ℕ × List ℕ) (items : List A) (i : ℕ) (d : A) (es new : Entries) (path : List ℕ) (bits : List Bool) → i < length items → IsReading (map f (take i items)) es
    → IsEntryLine (f (get_or items i d)).1 (path, bits) → is_some (bits_at es path) ≡ false → new ≡ with_entry es path bits → IsReading (map f (take (i + 1) items)) new
reading_more f items i d es new path bits inside so_far fits absent is =
    let more : map f (take (i + 1) items) ≡ map f (take i items) ++ f (get_or items i d) ∷ [] =
    ap (map f) (take_more items i d inside) ∙ map-append f (take i items) (get_or items i d ∷ []) in
    subst (λ ls. IsReading ls new) (sym more) (reading_push (map f (take i items)) (f (get_or items i d)) es new path bits so_far fits (none_from (bits_at es path) absent) is)

-- a line at fault
pub fault_at : {A : Type 0} (f : A → ℕ × List ℕ) (items : List A) (numbered : List (ℕ × List ℕ)) (i : ℕ) (d : A) (es : Entries) → i < length items → map f items ≡ numbered
    → IsReading (map f (take i items)) es → ((e : List ℕ × List Bool) → IsEntryLine (f (get_or items i d)).1 e → IsSome (bits_at es e.0)) → IsFirstFault numbered (f (get_or items i d)).0
fault_at f items numbered i d es inside all so_far unfit =
    let x = get_or items i d in
    record {
      before = map f (take i items);
      line = (f x).1;
      after = map f (drop (suc i) items);
      cut = sym all ∙ ap (map f) (split_at items i d inside) ∙ map-append f (take i items) (x ∷ drop (suc i) items);
      es = es;
      so_far = so_far;
      unfit = unfit;
    }

-- whether a look-up by reference found anything
pub copied_some : {X : Type 0} (o : Option (Bor X)) → is_some (option_copied o) ≡ is_some o
copied_some None = refl
copied_some (Some x) = refl

-- a line that repeats a path
pub repeated : (line : List ℕ) (es : Entries) (path : List ℕ) (bits : List Bool) → IsEntryLine line (path, bits) → is_some (bits_at es path) ≡ true → (e : List ℕ × List Bool) → IsEntryLine line e → IsSome (bits_at es e.0)
repeated line es path bits fits there e s = let same = one_entry line (path, bits) e fits s in ap (λ g. is_some (bits_at es g.0)) (sym same) ∙ there

-- ---- laws of reading

one_zip : (ls : List (ℕ × List ℕ)) (es fs : Entries) → AllZip Fits ls es → AllZip Fits ls fs → es ≡ fs
one_zip [] [] [] h k = refl
one_zip [] [] (g ∷ fs) h k = absurd k
one_zip [] (e ∷ es) fs h k = absurd h
one_zip (l ∷ ls) [] fs h k = absurd h
one_zip (l ∷ ls) (e ∷ es) [] h k = absurd k
one_zip (l ∷ ls) (e ∷ es) (g ∷ fs) h k = let first = one_entry l.1 e g h.0 k.0 in let rest = one_zip ls es fs h.1 k.1 in (λ i. first i ∷ rest i)

pub one_reading : (ls : List (ℕ × List ℕ)) (es fs : Entries) → IsReading ls es → IsReading ls fs → es ≡ fs
one_reading ls es fs r s = one_zip ls es fs r.each s.each

record Parted (before : List (ℕ × List ℕ)) (line : List ℕ) (es : Entries) : Type 0 where
  front : Entries
  entry : List ℕ × List Bool
  rest : Entries
  is : es ≡ front ++ entry ∷ rest
  front_fits : AllZip Fits before front
  fits : IsEntryLine line entry

parted : (before : List (ℕ × List ℕ)) (l : ℕ × List ℕ) (after : List (ℕ × List ℕ)) (es : Entries) → AllZip Fits (before ++ l ∷ after) es → Parted before l.1 es
parted [] l after [] h = absurd h
parted [] l after (e ∷ es) h = record { front = []; entry = e; rest = es; is = refl; front_fits = tt; fits = h.0 }
parted (b ∷ before) l after [] h = absurd h
parted (b ∷ before) l after (e ∷ es) h =
    let p = parted before l after es h.1 in
    record { front = e ∷ p.front; entry = p.entry; rest = p.rest; is = ap (λ r. e ∷ r) p.is; front_fits = (h.0, p.front_fits); fits = p.fits }

-- what has a reading has no line at fault
pub no_fault : (ls : List (ℕ × List ℕ)) (n : ℕ) (es : Entries) → IsReading ls es → IsFirstFault ls n → ⊥
no_fault ls n es r fault =
    let p = parted fault.before (n, fault.line) fault.after es (subst (λ x. AllZip Fits x es) fault.cut r.each) in
    let same : p.front ≡ fault.es = one_zip fault.before p.front fault.es p.front_fits fault.so_far.each in
    let absent : bits_at p.front p.entry.0 ≡ None = absent_before p.front p.entry.0 p.entry.1 p.rest (subst AreDistinct p.is r.distinct) in
    false≢true (sym (ap is_some absent) ∙ ap (λ x. is_some (bits_at x p.entry.0)) same ∙ fault.unfit p.entry p.fits)

-- ---- the printed text

own : IsNumeralModel (AllDigits 10) (digits_value 10)
own = numerals_by_value (AllDigits 10) tells_digits

decimal_lacks : (n d : ℕ) → n < 2 ^ 64 → d < 43 → Lacks d (decimal n)
decimal_lacks n d h l = Lacks-from d (decimal n) (not_in_digits own (decimal n) d (digits_decimal own n h) (λ r. absurd (omega arith)))

hex_lacks : (d : ℕ) (octets : List ℕ) → Lacks d lower_digits → (0 == d) ≡ false → Lacks d (encode_with lower_digits octets)
unfolding encode_with
hex_lacks d [] h z = tt
hex_lacks d (o ∷ os) h z = (lacks_at d lower_digits _ h z, (lacks_at d lower_digits _ h z, hex_lacks d os h z))

pub bits_lack : (d : ℕ) (spelled : List ℕ) (bits : List Bool) → d < 43 → Lacks d lower_digits → (0 == d) ≡ false → (58 == d) ≡ false → length bits ≤ 65536 → IsText spelled bits → Lacks d spelled
bits_lack d spelled bits l h z colon short t =
    subst (Lacks d) (sym t.spelled)
    (Lacks-append d (decimal (length bits)) (58 ∷ encode_lower t.octets) (decimal_lacks (length bits) d (omega arith) l) (colon, hex_lacks d t.octets h z))

none_in : (d : ℕ) (xs : List ℕ) → list_all (λ x. not (x == d)) xs ≡ true → Lacks d xs
none_in d [] h = tt
none_in d (x ∷ xs) h = by (x == d) refl (none_in d xs) h
  where
    by : (b : Bool) → (x == d) ≡ b → (list_all (λ y. not (y == d)) xs ≡ true → Lacks d xs) → (not b && list_all (λ y. not (y == d)) xs) ≡ true → Lacks d (x ∷ xs)
    by true is more k = absurd (false≢true k)
    by false is more k = (is, more k)

line_lacks : (d : ℕ) (path spelled : List ℕ) → Lacks d path → (32 == d) ≡ false → Lacks d spelled → Lacks d (path ++ 32 ∷ spelled)
line_lacks d path spelled h space k = Lacks-append d path (32 ∷ spelled) h (space, k)

stays : (line : List ℕ) → Lacks 13 line → strip_carriage_return line ≡ line
stays line h = ap (λ b. cond b (take (length line - 1) line) line) (lacks_at 13 line (length line - 1) h refl)

first_part : (line : List ℕ) (parts : List (List ℕ)) → Lacks 13 line → 1 ≤ length parts → lines_of_parts (line ∷ parts) ≡ line ∷ lines_of_parts parts
first_part line [] h l = absurd (omega arith)
first_part line (y ∷ more) h l = ap (λ x. x ∷ lines_of_parts (y ∷ more)) (stays line h)

-- the lines of a line without line feed and carriage return, a line feed, and more text
pub lines_cons : (line rest : List ℕ) → Lacks 10 line → Lacks 13 line → lines (line ++ 10 ∷ rest) ≡ line ∷ lines rest
lines_cons line rest h k =
    ap lines_of_parts (slice_split_at (λ b. b == 10) line 10 rest (All-Lacks 10 line h) refl)
    ∙ first_part line (slice_split (λ b. b == 10) rest) k (omega (arith, length-slice_split (λ b. b == 10) rest))

full : (xs ys : List ℕ) → (length (xs ++ 32 ∷ ys) == 0) ≡ false
full xs ys = by (length (xs ++ 32 ∷ ys) == 0) refl
  where
    by : (b : Bool) → (length (xs ++ 32 ∷ ys) == 0) ≡ b → (length (xs ++ 32 ∷ ys) == 0) ≡ false
    by true is = let z = (Decides-eqb (length (xs ++ 32 ∷ ys)) 0).0 is in absurd (omega (arith, length-append xs (32 ∷ ys)))
    by false is = is

printed : (es : Entries) (text : List ℕ) (n : ℕ) → IsContextText es text → AreReadable es → AllZip Fits (kept n (lines text)) es
printed [] text n t h = subst (λ x. AllZip Fits (kept n (lines x)) []) (sym t) tt
printed (e ∷ es) text n (spelled, rest, is_text, more, is) h =
    let line : List ℕ = e.0 ++ 32 ∷ spelled in
    let feeds : Lacks 10 line = line_lacks 10 e.0 spelled (path_lacks 10 e.0 refl refl refl h.0.0) refl (bits_lack 10 spelled e.1 (omega arith) (none_in 10 lower_digits refl) refl refl h.0.1 is_text) in
    let returns : Lacks 13 line = line_lacks 13 e.0 spelled (path_lacks 13 e.0 refl refl refl h.0.0) refl (bits_lack 13 spelled e.1 (omega arith) (none_in 13 lower_digits refl) refl refl h.0.1 is_text) in
    let cut : lines text ≡ line ∷ lines rest = ap lines (is ∙ sym (append_assoc e.0 (32 ∷ spelled) (10 ∷ rest))) ∙ lines_cons line rest feeds returns in
    let here : kept n (lines text) ≡ (n, line) ∷ kept (n + 1) (lines rest) =
    ap (kept n) cut ∙ ap (λ b. cond (not b) ((n, line) ∷ kept (n + 1) (lines rest)) (kept (n + 1) (lines rest))) (full e.0 spelled) in
    let entry : IsEntryLine line e = record { is_path = h.0.0; spelled = spelled; parts = refl; reads = texts.reads_back spelled e.1 is_text; short = h.0.1 } in
    subst (λ x. AllZip Fits x (e ∷ es)) (sym here) (entry, printed es rest (n + 1) more h.1)

pub reads_back : (text : List ℕ) (es : Entries) → IsContextText es text → AreReadable es → AreDistinct es → IsReading (numbered_lines text) es
reads_back text es t h distinct = record { each = printed es text 1 t h; distinct = distinct }
