-- The printed text has the certificate's lines.
use Rattle.std.proofs.Common.{◌≡◌, ◌∙◌, sym, ap, subst, refl, cond, ℕ, zero, suc, ◌+◌, ◌-◌, ◌<◌, ◌≤◌, ◌==◌, ◌||◌, Bool, true, false, List, [], ◌∷◌, ◌++◌, map, length, take, get_or, append_assoc, nat_le, arith}
use Rattle.std.specs.Prelude.{Option, Some, None, slice_get, option_map, codes, decimal, flat_map}
use Rattle.std.specs.Char.{is_ascii_alphabetic, is_ascii_alphanumeric, digit_value}
use Rattle.std.specs.Fmt.{signed_decimal}
use Rattle.std.specs.List.{AllByRecursion, AllZip, list_all, slice_split}
use Rattle.std.specs.Str.Lines.{lines, lines_of_parts, strip_carriage_return}
use Rattle.std.proofs.lemmas.Bool.{false≢true, leb-true}
use Rattle.std.proofs.lemmas.Bool.Decides.{Decides-eqb}
use Rattle.std.proofs.lemmas.List.Splits.{slice_split_at, length-slice_split}
use Rattle.std.proofs.lemmas.Option.{slice_get-map}
use mathlib.Core.Bool.{not}
use Rattle.sem_expr.specs.declared.expr.Side.{Side}
use Rattle.sem_expr.specs.declared.expr.Side.TheVariants.{Uncompressed, Compressed}
use Rattle.sem_profile.specs.declared.profile.Format.{Format}
use Rattle.sem_profile.specs.declared.profile.Method.{Method}
use Rattle.sem_bits.proofs.LineLists.{kept}
use Rattle.cert_types.specs.declared.certificate.Version.{Version}
use Rattle.cert_types.specs.declared.certificate.Version.TheVariants.{One, Two}
use Rattle.cert_types.specs.declared.certificate.Step.{Step}
use Rattle.cert_types.specs.declared.certificate.Step.TheVariants.{Take, Call, LibraryUp, LibraryDown, MethodLength, ConstraintLength, Solve, Choose, Ask}
use Rattle.cert_types.specs.declared.certificate.Node.{Node}
use Rattle.cert_types.specs.declared.certificate.Node.TheVariants.{Bit, Parameter, Reference, Leaf, Nowhere}
use Rattle.cert_types.specs.declared.certificate.Plans.{Plans}
use Rattle.cert_types.specs.declared.certificate.FormatPlans.{FormatPlans}
use Rattle.cert_types.specs.declared.certificate.MethodPlans.{MethodPlans}
use Rattle.cert_text.specs.Faults.{texts}
use Rattle.cert_types.specs.Kept.{Entries, Certified, IsNodeKept, IsStepKept, ArePlansKept, AreFormatsKept, IsMethodKept}
use Rattle.cert_types.specs.Of.{field_names, IsStepOf, IsNodeOf, IsFormatOf, IsMethodOf, IsEntryOf, IsWord}
use Rattle.cert_text.specs.Text.{name_of, name_at, first_names, version_word, format_name, side_word, step_words, step_line, node_line, plans_lines, format_lines, method_lines, certificate_lines, spelled}
use Rattle.cert_types.specs.Steps.{field_of}
use Rattle.cert_text.proofs.DraftsNumerals.{both_true}
use Rattle.cert_text.proofs.DraftsSpaces.{Lacks, Lacks-append, All-Lacks, word_lacks, decimal_lacks, signed_lacks}
use Rattle.cert_text.proofs.DraftsAccepting.{IsReadable, IsReadableMethod, AreReadable, first_field, first_named, found_at, zip_at}
use Rattle.cert_text.proofs.Telling.{all_append}

-- an octet below those of a text is not in it
high_lacks : (d : ℕ) → d < 32 → (xs : List ℕ) → list_all (λ x. nat_le 32 x) xs ≡ true → Lacks d xs
high_lacks d low [] h = tt
high_lacks d low (x ∷ xs) h = let b = both_true (nat_le 32 x) (list_all (λ x. nat_le 32 x) xs) h in (by (x == d) refl (leb-true 32 x b.0), high_lacks d low xs b.1)
  where
    by : (b : Bool) → (x == d) ≡ b → 32 ≤ x → (x == d) ≡ false
    by true e l = let same : x ≡ d = (Decides-eqb x d).0 e in absurd (omega arith)
    by false e l = e

-- such an octet, that is in no name and no number
record IsLow (d : ℕ) : Type 0 where
  low : d < 32
  no_word : (is_ascii_alphanumeric d || d == 95) ≡ false
  no_letter : is_ascii_alphabetic d ≡ false
  no_digit : digit_value d < 10 → ⊥
  no_sign : (45 == d) ≡ false

-- a line that a text keeps as it is
record IsFine (line : List ℕ) : Type 0 where
  lacks : (d : ℕ) → IsLow d → Lacks d line
  some : (length line == 0) ≡ false

some_octets : (x : ℕ) (xs : List ℕ) → (length (x ∷ xs) == 0) ≡ false
some_octets x xs = by (length (x ∷ xs) == 0) refl
  where
    by : (b : Bool) → (length (x ∷ xs) == 0) ≡ b → (length (x ∷ xs) == 0) ≡ false
    by true e = let n = (Decides-eqb (length (x ∷ xs)) 0).0 e in absurd (omega arith)
    by false e = e

abbrev filled : List ℕ → Bool
filled [] = false
filled (x ∷ xs) = true

-- a closed line; and a closed word with more after it
closed_fine : (w : List ℕ) → list_all (λ y. nat_le 32 y) w ≡ true → filled w ≡ true → IsFine w
closed_fine [] h f = absurd (false≢true f)
closed_fine (x ∷ xs) h f = record { lacks = λ d low. high_lacks d low.low (x ∷ xs) h; some = some_octets x xs }

more_fine : (w more : List ℕ) → list_all (λ y. nat_le 32 y) w ≡ true → filled w ≡ true → ((d : ℕ) → IsLow d → Lacks d more) → IsFine (w ++ more)
more_fine [] more h f k = absurd (false≢true f)
more_fine (x ∷ xs) more h f k = record { lacks = λ d low. Lacks-append d (x ∷ xs) more (high_lacks d low.low (x ∷ xs) h) (k d low); some = some_octets x (xs ++ more) }

word_low : (d : ℕ) → IsLow d → (name : List ℕ) → IsWord name → Lacks d name
word_low d low name h = word_lacks d name low.no_word low.no_letter h

shut_low : (d : ℕ) → IsLow d → (xs : List ℕ) → list_all (λ y. nat_le 32 y) xs ≡ true → Lacks d xs
shut_low d low xs h = high_lacks d low.low xs h

side_low : (d : ℕ) → IsLow d → (side : Side) → Lacks d (side_word side)
side_low d low Uncompressed = shut_low d low (codes "U") refl
side_low d low Compressed = shut_low d low (codes "C") refl

step_fine : (name : List ℕ) (step : Step) → ((d : ℕ) → IsLow d → Lacks d name) → IsStepKept step → IsFine (step_words name step)
step_fine name (Take i) h k = more_fine (codes "take ") name refl refl h
step_fine name (Call i) h k = more_fine (codes "call ") name refl refl h
step_fine name (LibraryUp i) h k = more_fine (codes "library ") (name ++ codes " up") refl refl (λ d low. Lacks-append d name (codes " up") (h d low) (shut_low d low (codes " up") refl))
step_fine name (LibraryDown i) h k = more_fine (codes "library ") (name ++ codes " down") refl refl (λ d low. Lacks-append d name (codes " down") (h d low) (shut_low d low (codes " down") refl))
step_fine name (MethodLength i side) h k =
    more_fine (codes "length ") (((name ++ codes " ") ++ side_word side) ++ codes " method") refl refl
    (λ d low. Lacks-append d ((name ++ codes " ") ++ side_word side) (codes " method") (Lacks-append d (name ++ codes " ") (side_word side) (Lacks-append d name (codes " ") (h d low) (shut_low d low (codes " ") refl)) (side_low d low side)) (shut_low d low (codes " method") refl))
step_fine name (ConstraintLength i side n) h k =
    more_fine (codes "length ") ((((name ++ codes " ") ++ side_word side) ++ codes " ") ++ decimal n) refl refl
    (λ d low. Lacks-append d (((name ++ codes " ") ++ side_word side) ++ codes " ") (decimal n)
    (Lacks-append d ((name ++ codes " ") ++ side_word side) (codes " ") (Lacks-append d (name ++ codes " ") (side_word side) (Lacks-append d name (codes " ") (h d low) (shut_low d low (codes " ") refl)) (side_low d low side)) (shut_low d low (codes " ") refl))
    (decimal_lacks d n low.no_digit (omega arith)))
step_fine name (Solve i n) h k =
    more_fine (codes "solve ") ((name ++ codes " ") ++ decimal n) refl refl (λ d low. Lacks-append d (name ++ codes " ") (decimal n) (Lacks-append d name (codes " ") (h d low) (shut_low d low (codes " ") refl)) (decimal_lacks d n low.no_digit (omega arith)))
step_fine name (Choose i) h k = more_fine (codes "choose ") name refl refl h
step_fine name (Ask i) h k = more_fine (codes "ask ") name refl refl h

steps_fine : (f : Format) (steps : List Step) → IsReadable f → AllByRecursion (IsStepOf f) steps → AllByRecursion IsStepKept steps → AllByRecursion IsFine (map (step_line (field_names f)) steps)
steps_fine f [] readable of kept = tt
steps_fine f (step ∷ steps) readable of kept =
    let (field, at) = found_at f.fields (field_of step) of.0.field in
    let named : field.declared.name ≡ name_at (field_names f) (field_of step) = sym (ap name_of (slice_get-map (λ e. e.declared.name) f.fields (field_of step) ∙ ap (option_map (λ e. e.declared.name)) at)) in
    (step_fine (name_at (field_names f) (field_of step)) step (λ d low. subst (Lacks d) named (word_low d low field.declared.name (readable.spelled (field_of step) field at))) kept.0, steps_fine f steps readable of.1 kept.1)

name_low : (m : Method) → IsReadableMethod m → (n : ℕ) (f : Format) → slice_get m.formats n ≡ Some f → (o : Option (List ℕ)) → f.name ≡ o → (d : ℕ) → IsLow d → Lacks d (name_of o)
name_low m readable n f at None e d low = shut_low d low (codes "-") refl
name_low m readable n f at (Some name) e d low = word_low d low name (readable.formats n f name at e)

node_fine : (m : Method) (entry : MethodPlans) (x : Node) → IsReadableMethod m → IsMethodOf m entry → IsNodeOf m x → IsNodeKept x → IsFine (node_line entry x)
node_fine m entry (Bit o) readable is of kept = more_fine (codes "bit ") (decimal o) refl refl (λ d low. decimal_lacks d o low.no_digit (omega arith))
node_fine m entry (Parameter i c) readable is of kept =
    let (name, at) = found_at m.parameters i of in
    let named : name ≡ name_at entry.parameters i = sym (ap (λ ps. name_at ps i) is.parameters ∙ ap name_of at) in
    let t = name_at entry.parameters i in
    more_fine (codes "param ") ((t ++ codes " ") ++ signed_decimal c) refl refl
    (λ d low. Lacks-append d (t ++ codes " ") (signed_decimal c) (Lacks-append d t (codes " ") (subst (Lacks d) named (word_low d low name (readable.parameters i name at))) (shut_low d low (codes " ") refl)) (signed_lacks d c low.no_digit low.no_sign kept))
node_fine m entry (Reference i c) readable is of kept =
    let (f, first, has) = first_field m.formats i of in
    let name = has.field.declared.name in
    let t = name_at (first_names entry.formats) i in
    let named : name ≡ t =
    sym (ap (λ ns. name_at ns i) (first_named m.formats entry.formats f is.formats first) ∙ ap name_of (slice_get-map (λ e. e.declared.name) f.fields i ∙ ap (option_map (λ e. e.declared.name)) has.field_at)) in
    more_fine (codes "ref ") ((t ++ codes " ") ++ signed_decimal c) refl refl
    (λ d low. Lacks-append d (t ++ codes " ") (signed_decimal c) (Lacks-append d t (codes " ") (subst (Lacks d) named (word_low d low name ((readable.each 0 f first).spelled i has.field has.field_at))) (shut_low d low (codes " ") refl)) (signed_lacks d c low.no_digit low.no_sign kept))
node_fine m entry (Leaf n) readable is of kept =
    let (f, at) = found_at m.formats n of in
    let (e, there, alike) = zip_at IsFormatOf m.formats entry.formats n f is.formats at in
    let named : name_of f.name ≡ format_name (slice_get entry.formats n) = sym (ap format_name there ∙ ap name_of alike.name) in
    more_fine (codes "leaf ") (format_name (slice_get entry.formats n)) refl refl (λ d low. subst (Lacks d) named (name_low m readable n f at f.name refl d low))
node_fine m entry Nowhere readable is of kept = closed_fine (codes "none") refl refl

nodes_fine : (m : Method) (entry : MethodPlans) (xs : List Node) → IsReadableMethod m → IsMethodOf m entry → AllByRecursion (IsNodeOf m) xs → AllByRecursion IsNodeKept xs → AllByRecursion IsFine (map (node_line entry) xs)
nodes_fine m entry [] readable is of kept = tt
nodes_fine m entry (x ∷ xs) readable is of kept = (node_fine m entry x readable is of.0 kept.0, nodes_fine m entry xs readable is of.1 kept.1)

format_fine : (m : Method) → IsReadableMethod m → (n : ℕ) (f : Format) (e : FormatPlans) → slice_get m.formats n ≡ Some f → IsFormatOf f e → ((plans : Plans) → e.plans ≡ Some plans → ArePlansKept plans) → (o : Option Plans) → e.plans ≡ o → AllByRecursion IsFine (plans_lines (name_of e.name) e.fields o)
format_fine m readable n f e at is kept None there = tt
format_fine m readable n f e at is kept (Some plans) there =
    let of = is.plans plans there in
    let k = kept plans there in
    let reads = subst (λ fields. AllByRecursion IsFine (map (step_line fields) plans.read)) (sym is.fields) (steps_fine f plans.read (readable.each n f at) of.read k.read.each) in
    let writes = subst (λ fields. AllByRecursion IsFine (map (step_line fields) plans.write)) (sym is.fields) (steps_fine f plans.write (readable.each n f at) of.write k.write.each) in (
      more_fine (codes "format ") (name_of e.name) refl refl (λ d low. subst (λ o. Lacks d (name_of o)) (sym is.name) (name_low m readable n f at f.name refl d low)),
      (closed_fine (codes "read") refl refl, all_append IsFine (map (step_line e.fields) plans.read) (codes "write" ∷ map (step_line e.fields) plans.write) reads (closed_fine (codes "write") refl refl, writes)),
    )

formats_fine : (m : Method) → IsReadableMethod m → (fs : List Format) (es : List FormatPlans) → ((n : ℕ) (f : Format) → slice_get fs n ≡ Some f → (k : ℕ) × (slice_get m.formats k ≡ Some f)) → AllZip IsFormatOf fs es → AreFormatsKept es → AllByRecursion IsFine (flat_map format_lines es)
formats_fine m readable [] [] at is kept = tt
formats_fine m readable [] (e ∷ es) at is kept = absurd is
formats_fine m readable (f ∷ fs) [] at is kept = absurd is
formats_fine m readable (f ∷ fs) (e ∷ es) at is kept =
    let (n, there) = at 0 f refl in
    all_append IsFine (format_lines e) (flat_map format_lines es) (format_fine m readable n f e there is.0 (λ plans p. kept 0 e plans refl p) e.plans refl) (formats_fine m readable fs es (λ n. at (suc n)) is.1 (λ n. kept (suc n)))

method_fine : (v : Version) (m : Method) (o : Option MethodPlans) → IsReadableMethod m → IsEntryOf m o → ((entry : MethodPlans) → o ≡ Some entry → IsMethodKept v entry) → AllByRecursion IsFine (method_lines o)
method_fine v m None readable is kept = tt
method_fine v m (Some entry) readable is kept =
    let k = kept entry refl in (
      more_fine (codes "method ") entry.name refl refl (λ d low. subst (Lacks d) (sym is.name) (word_low d low m.name readable.spelled)),
      all_append IsFine (map (node_line entry) entry.tree) (flat_map format_lines entry.formats) (nodes_fine m entry entry.tree readable is is.tree k.tree.each) (formats_fine m readable m.formats entry.formats (λ n f at. (n, at)) is.formats k.formats),
    )

version_fine : (v : Version) → IsFine (codes "rohcfn-certificate " ++ version_word v)
version_fine One = closed_fine (codes "rohcfn-certificate 1") refl refl
version_fine Two = closed_fine (codes "rohcfn-certificate 2") refl refl

methods_fine : (v : Version) (methods : List Method) (es : Entries) → ((k : ℕ) (m : Method) → slice_get methods k ≡ Some m → IsReadableMethod m) → AllZip IsEntryOf methods es → ((k : ℕ) (entry : MethodPlans) → slice_get es k ≡ Some (Some entry) → IsMethodKept v entry) → AllByRecursion IsFine (flat_map method_lines es)
methods_fine v [] [] readable is kept = tt
methods_fine v [] (e ∷ es) readable is kept = absurd is
methods_fine v (m ∷ methods) [] readable is kept = absurd is
methods_fine v (m ∷ methods) (e ∷ es) readable is kept =
    all_append IsFine (method_lines e) (flat_map method_lines es) (method_fine v m e (readable 0 m refl) is.0 (λ entry p. kept 0 entry (ap Some p))) (methods_fine v methods es (λ k. readable (suc k)) is.1 (λ k. kept (suc k)))

-- ---- the lines of a text

lacks_at : (d : ℕ) (xs : List ℕ) (k : ℕ) → Lacks d xs → (0 == d) ≡ false → (get_or xs k 0 == d) ≡ false
lacks_at d [] k h z = z
lacks_at d (x ∷ xs) zero h z = h.0
lacks_at d (x ∷ xs) (suc k) h z = lacks_at d xs k h.1 z

stays : (line : List ℕ) → Lacks 13 line → strip_carriage_return line ≡ line
stays line h = ap (λ b. cond b (take (length line - 1) line) line) (lacks_at 13 line (length line - 1) h refl)

first_part : (line : List ℕ) (parts : List (List ℕ)) → Lacks 13 line → 1 ≤ length parts → lines_of_parts (line ∷ parts) ≡ line ∷ lines_of_parts parts
first_part line [] h l = absurd (omega arith)
first_part line (y ∷ more) h l = ap (λ x. x ∷ lines_of_parts (y ∷ more)) (stays line h)

lines_cons : (line rest : List ℕ) → Lacks 10 line → Lacks 13 line → lines (line ++ 10 ∷ rest) ≡ line ∷ lines rest
lines_cons line rest h k =
    ap lines_of_parts (slice_split_at (λ b. b == 10) line 10 rest (All-Lacks 10 line h) refl)
    ∙ first_part line (slice_split (λ b. b == 10) rest) k (omega (arith, length-slice_split (λ b. b == 10) rest))

feed : IsLow 10
feed = record { low = omega arith; no_word = refl; no_letter = refl; no_digit = λ e. omega arith; no_sign = refl }

return : IsLow 13
return = record { low = omega arith; no_word = refl; no_letter = refl; no_digit = λ e. omega arith; no_sign = refl }

fine_lines : (n : ℕ) (ls : List (List ℕ)) → AllByRecursion IsFine ls → texts (kept n (lines (spelled ls))) ≡ ls
fine_lines n [] h = refl
fine_lines n (l ∷ ls) h =
    let cut : lines (spelled (l ∷ ls)) ≡ l ∷ lines (spelled ls) = ap lines (append_assoc l (10 ∷ []) (spelled ls)) ∙ lines_cons l (spelled ls) (h.0.lacks 10 feed) (h.0.lacks 13 return) in
    ap (λ r. texts (kept n r)) cut
    ∙ ap (λ b. texts (cond (not b) ((n, l) ∷ kept (n + 1) (lines (spelled ls))) (kept (n + 1) (lines (spelled ls))))) h.0.some
    ∙ ap (λ r. l ∷ r) (fine_lines (n + 1) ls h.1)

pub printed_lines : (methods : List Method) (c : Certified) → AreReadable methods → AllZip IsEntryOf methods c.methods → ((k : ℕ) (entry : MethodPlans) → slice_get c.methods k ≡ Some (Some entry) → IsMethodKept c.version entry)
    → texts (kept 1 (lines (spelled (certificate_lines c)))) ≡ certificate_lines c
printed_lines methods c readable is k =
    fine_lines 1 (certificate_lines c)
    (version_fine c.version, all_append IsFine (flat_map method_lines c.methods) (codes "end" ∷ []) (methods_fine c.version methods c.methods readable.each is k) (closed_fine (codes "end") refl refl, tt))
