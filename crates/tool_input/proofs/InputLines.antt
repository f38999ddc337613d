-- Lines and words, one after the other.
use Rattle.std.proofs.Common.{◌≡◌, ◌==◌, ℕ, zero, suc, ◌+◌, ◌<◌, ◌≤◌, Bool, List, [], ◌∷◌, ◌++◌, length, take, drop, map, get_or, ap, refl, sym, ◌∙◌, subst, append_assoc, arith}
use Rattle.std.specs.Borrow.{Bor}
use Rattle.std.specs.List.{AllZip, slice_split}
use Rattle.std.specs.Str.{IsUtf8}
use Rattle.std.specs.Prelude.{Option, Some, None, Result, Ok, Err, IfOk, IfSome, IsTrue, MatchResult, decimal, is_err, true, false, if◌then◌else◌}
use Rattle.hex.specs.Hex.{decode_of, decode_sized}
use Rattle.hex.specs.declared.error.FromHexError.{FromHexError}
use Rattle.hex.proofs.HexLemmas.{decode_sized-ok, decode_sized-twice}
use Rattle.sem_bits.specs.Octets.{Holds}
use Rattle.sem_bits.specs.Text.{ReadsAs}
use Rattle.std.proofs.lemmas.List.{append-nil, take_more, take_all, map-append, take-append-drop, drop_more}
use Rattle.std.proofs.lemmas.List.Splits.{slice_split_at, slice_split_none}
use Rattle.sem_bits.specs.declared.lines.Line.{Line}
use Rattle.sem_bits.specs.Lines.{numbered_lines}
use Rattle.sem_context.proofs.Paths.{All-Lacks, Lacks, name_lacks, cut_once}
use Rattle.sem_context.specs.Entries.{Entries}
use Rattle.text_source.specs.Names.{is_name}
use Rattle.sem_context.specs.Text.{IsReading, Blames as BlamesText}
use Rattle.sem_context.specs.declared.text.ContextError.{ContextError}
use Rattle.sem_context.specs.declared.text.ContextError.TheVariants as context
use Rattle.sem_profile.specs.Words.{as_name}
use Rattle.sem_filling.specs.declared.filling.AskedValue.{AskedValue}
use Rattle.tool_input.specs.declared.inputs.BadLine.{BadLine}
use Rattle.tool_input.specs.declared.inputs.BadLine.TheVariants as bad
use Rattle.tool_input.specs.Inputs.{AreRead, BlamesBroken, BlamesContext, BlamesLine, HasLines, IsBadLine, IsBits, IsValue, StartsAt, absent, broken, broken_context, given, unread, unread_context}

-- ---- two lists, place by place

zip_push : {B C : Type 0} (R : B → C → Type 0) (xs : List B) (ys : List C) (x : B) (y : C) → AllZip R xs ys → R x y → AllZip R (xs ++ x ∷ []) (ys ++ y ∷ [])
zip_push R [] [] x y h r = (r, tt)
zip_push R [] (b ∷ ys) x y h r = absurd h
zip_push R (a ∷ xs) [] x y h r = absurd h
zip_push R (a ∷ xs) (b ∷ ys) x y h r = (h.0, zip_push R xs ys x y h.1 r)

pub zip_more : {A B C : Type 0} (R : B → C → Type 0) (f : A → B) (xs : List A) (i : ℕ) (d : A) (ys new : List C) (y : C) → i < length xs → AllZip R (map f (take i xs)) ys → R (f (get_or xs i d)) y → new ≡ ys ++ y ∷ [] → AllZip R (map f (take (i + 1) xs)) new
zip_more R f xs i d ys new y inside so_far r is =
    let e : map f (take (i + 1) xs) ≡ map f (take i xs) ++ f (get_or xs i d) ∷ [] = ap (map f) (take_more xs i d inside) ∙ map-append f (take i xs) (get_or xs i d ∷ []) in
    subst (λ bs. AllZip R bs new) (sym e) (subst (λ cs. AllZip R (map f (take i xs) ++ f (get_or xs i d) ∷ []) cs) (sym is) (zip_push R (map f (take i xs)) ys (f (get_or xs i d)) y so_far r))

pub zip_all : {A B C : Type 0} (R : B → C → Type 0) (f : A → B) (xs : List A) (i : ℕ) (ys : List C) → length xs ≤ i → AllZip R (map f (take i xs)) ys → AllZip R (map f xs) ys
zip_all R f xs i ys whole h = subst (λ bs. AllZip R bs ys) (ap (map f) (take_all i xs whole)) h

pub zip_none : {A B C : Type 0} (R : B → C → Type 0) (f : A → B) (xs : List A) (i : ℕ) (d : A) → i < length xs → ((y : C) → R (f (get_or xs i d)) y → ⊥) → (ys : List C) → AllZip R (map f xs) ys → ⊥
zip_none R f [] i d inside none ys h = absurd (omega arith)
zip_none R f (x ∷ xs) i d inside none [] h = absurd h
zip_none R f (x ∷ xs) zero d inside none (y ∷ ys) h = none y h.0
zip_none R f (x ∷ xs) (suc i) d inside none (y ∷ ys) h = zip_none R f xs i d (omega arith) none ys h.1

-- ---- the lines of a part

-- the number and the text of a line, and of lines
abbrev pub shown_one : Line → ℕ × List ℕ
shown_one l = (l.number, l.text.now)

abbrev pub shown : List Line → List (ℕ × List ℕ)
shown lines = map shown_one lines

pub lines_more : {X : Type 0} (reads : List ℕ → X → Type 0) (lines : List Line) (d : Line) (k : ℕ) (inputs new : List X) (x : X) → k < length lines → AreRead reads (shown (take k lines)) inputs → reads (get_or lines k d).text.now x → new ≡ inputs ++ x ∷ []
    → AreRead reads (shown (take (k + 1) lines)) new
lines_more reads lines d k inputs new x inside so_far r is = zip_more (λ l x. reads l.1 x) shown_one lines k d inputs new x inside so_far r is

pub lines_bad : {X : Type 0} (reads : List ℕ → X → Type 0) (octets : List ℕ) (lines : List Line) (d : Line) (k : ℕ) (inputs : List X) → IsUtf8 octets → shown lines ≡ numbered_lines octets → k < length lines → AreRead reads (shown (take k lines)) inputs
    → ((x : X) → reads (get_or lines k d).text.now x → ⊥) → IsBadLine reads octets (get_or lines k d).number
lines_bad reads octets lines d k inputs utf8 e h t none =
    let parts : lines ≡ take k lines ++ (get_or lines k d ∷ drop (k + 1) lines) = sym (take-append-drop k lines) ∙ ap (λ ls. take k lines ++ ls) (drop_more lines k d h) in
    let whole : numbered_lines octets ≡ shown (take k lines) ++ (shown_one (get_or lines k d) ∷ shown (drop (k + 1) lines)) = sym e ∙ ap shown parts ∙ map-append shown_one (take k lines) (get_or lines k d ∷ drop (k + 1) lines) in
    unread (shown (take k lines)) (shown (drop (k + 1) lines)) (get_or lines k d).text.now inputs utf8 whole t none

pub lines_all : {X : Type 0} (reads : List ℕ → X → Type 0) (octets : List ℕ) (lines : List Line) (k : ℕ) (inputs : List X) → IsUtf8 octets → shown lines ≡ numbered_lines octets → length lines ≤ k → AreRead reads (shown (take k lines)) inputs → HasLines reads octets inputs
lines_all reads octets lines k inputs utf8 e h t =
    record { utf8 = utf8; lines = subst (λ ls. AreRead reads ls inputs) (ap shown (take_all k lines h) ∙ e) t }

-- octets that are no UTF-8
pub broken_in : {X : Type 0} (reads : List ℕ → X → Type 0) (octets : List ℕ) (e : BadLine) → BlamesBroken e octets → BlamesLine reads e octets
broken_in reads octets (bad.Number n) h = broken h.0 h.1
broken_in reads octets bad.OutOfMemory h = tt

pub broken_at : (part : Option (Bor (List ℕ))) (octets : Bor (List ℕ)) (e : BadLine) → part ≡ Some octets → BlamesBroken e octets.now → BlamesContext e part
broken_at part octets (bad.Number n) is h = subst (BlamesContext (bad.Number n)) (sym is) (broken_context h.0 h.1)
broken_at part octets bad.OutOfMemory is h = tt

-- ---- the words of a line

pub one_word : (line : List ℕ) → Lacks 32 line → slice_split (λ octet. octet == 32) line ≡ line ∷ []
one_word line h = slice_split_none (λ octet. octet == 32) line (All-Lacks 32 line h)

pub more_words : (line word more : List ℕ) → line ≡ word ++ 32 ∷ more → Lacks 32 word → slice_split (λ octet. octet == 32) line ≡ word ∷ slice_split (λ octet. octet == 32) more
more_words line word more e h = ap (slice_split (λ octet. octet == 32)) e ∙ slice_split_at (λ octet. octet == 32) word 32 more (All-Lacks 32 word h) refl

-- the words so far are read as the values so far, and the rest of them are left
abbrev pub AreReadSoFar : List (List ℕ) → List (List ℕ) → List AskedValue → Type 0
AreReadSoFar all left values = (front : List (List ℕ)) × AllZip IsValue front values × (all ≡ front ++ left)

pub words_start : (all : List (List ℕ)) (values : List AskedValue) → values ≡ [] → AreReadSoFar all all values
words_start all values none = ([], subst (AllZip IsValue []) (sym none) tt, refl)

pub words_more : (all left next : List (List ℕ)) (word : List ℕ) (values new : List AskedValue) (v : AskedValue) → left ≡ word ∷ next → AreReadSoFar all left values → IsValue word v → new ≡ values ++ v ∷ [] → AreReadSoFar all next new
words_more all left next word values new v here so_far reads is = (
  so_far.0 ++ word ∷ [],
  subst (AllZip IsValue (so_far.0 ++ word ∷ [])) (sym is) (zip_push IsValue so_far.0 values word v so_far.1 reads),
  so_far.2 ∙ ap (λ l. so_far.0 ++ l) here ∙ sym (append_assoc so_far.0 (word ∷ []) next),
)

pub words_end : (all left : List (List ℕ)) (word : List ℕ) (values new : List AskedValue) (v : AskedValue) → left ≡ word ∷ [] → AreReadSoFar all left values → IsValue word v → new ≡ values ++ v ∷ [] → AllZip IsValue all new
words_end all left word values new v here so_far reads is =
    let whole = words_more all left [] word values new v here so_far reads is in
    subst (λ ws. AllZip IsValue ws new) (sym (whole.2 ∙ append-nil whole.0)) whole.1

zip_without : (front next : List (List ℕ)) (word : List ℕ) → ((v : AskedValue) → IsValue word v → ⊥) → (vs : List AskedValue) → AllZip IsValue (front ++ word ∷ next) vs → ⊥
zip_without [] next word none [] h = h
zip_without [] next word none (v ∷ vs) h = none v h.0
zip_without (f ∷ front) next word none [] h = h
zip_without (f ∷ front) next word none (v ∷ vs) h = zip_without front next word none vs h.1

pub words_none : (all left next : List (List ℕ)) (word : List ℕ) (values : List AskedValue) → left ≡ word ∷ next → AreReadSoFar all left values → ((v : AskedValue) → IsValue word v → ⊥) → (vs : List AskedValue) → AllZip IsValue all vs → ⊥
words_none all left next word values here so_far none vs h = zip_without so_far.0 next word none vs (subst (λ ws. AllZip IsValue ws vs) (so_far.2 ∙ ap (λ l. so_far.0 ++ l) here) h)

-- ---- a value of an item

-- a word is cut at its first equals sign
pub value_cut : (word front rest : List ℕ) (v : AskedValue) → word ≡ front ++ 61 ∷ rest → Lacks 61 front → (s : IsValue word v) → (front ≡ v.name) × (rest ≡ s.spelled)
value_cut word front rest v cut l s = cut_once 61 front v.name rest s.spelled l (name_lacks 61 v.name refl refl s.name_is) (sym cut ∙ s.parts)

-- a text that is no name
pub not_named : (text name : List ℕ) (o : Option (List ℕ)) → o ≡ as_name text → o ≡ None → text ≡ name → IsTrue (is_name name) → ⊥
not_named text name o e none same is =
    let some : Some name ≡ as_name name = sym (ap (λ b. if b then Some name else None) is) in
    let here : Some name ≡ None = some ∙ ap as_name (sym same) ∙ sym e ∙ none in
    absurd (here_absurd name here)
  where
    here_absurd : (xs : List ℕ) → Some xs ≡ None → ⊥
    here_absurd xs h = cc

-- and one that is
pub named : (text name : List ℕ) (o : Option (List ℕ)) → o ≡ as_name text → o ≡ Some name → (text ≡ name) × IsTrue (is_name name)
named text name o e some = by (is_name text) refl
  where
    by : (b : Bool) → is_name text ≡ b → (text ≡ name) × IsTrue (is_name name)
    by true is =
        let all : Some text ≡ Some name = sym (ap (λ b. if b then Some text else None) is) ∙ sym e ∙ some in
        let same : text ≡ name = cc in
        (same, subst (λ t. IsTrue (is_name t)) same is)
    by false is = let none : None ≡ Some name = sym (ap (λ b. if b then Some text else None) is) ∙ sym e ∙ some in absurd cc

-- ---- the text of whole octets

-- what is decoded into room for as many octets
pub digits_read : (digits out : List ℕ) (b : List Bool) (many count : ℕ) (r : Result Unit FromHexError) → MatchResult (decode_sized digits many) (λ bytes. (r ≡ Ok tt) × (out ≡ bytes)) (λ e. r ≡ Err e) → is_err r ≡ false → length b ≡ count → Holds out b
    → ReadsAs (decimal count ++ 58 ∷ digits) b
digits_read digits out b many count r d fine l held = by (decode_sized digits many) refl
  where
    by : (x : Result (List ℕ) FromHexError) → decode_sized digits many ≡ x → ReadsAs (decimal count ++ 58 ∷ digits) b
    by (Ok bytes) is =
        let found : (r ≡ Ok tt) × (out ≡ bytes) = rw is at d in
        let decoded : decode_of digits ≡ Ok bytes = sym (decode_sized-twice digits many (decode_sized-ok digits many bytes is)) ∙ is in
        record { octets = out; digits = digits; held = held; spelled = ap (λ n. decimal n ++ 58 ∷ digits) (sym l); decoded = decoded ∙ ap Ok (sym found.1) }
    by (Err e) is =
        let found : r ≡ Err e = rw is at d in
        let wrong : true ≡ false = ap is_err (sym found) ∙ fine in
        absurd (cc wrong)

pub digits_found : {E : Type 0} (o : Result (Option (List Bool)) E) (digits out : List ℕ) (many count : ℕ) (r : Result Unit FromHexError) → MatchResult (decode_sized digits many) (λ bytes. (r ≡ Ok tt) × (out ≡ bytes)) (λ e. r ≡ Err e) → is_err r ≡ false
    → IfOk o (λ x. IfSome x (λ b. (length b ≡ count) × Holds out b)) → IfOk o (λ x. IfSome x (λ b. (length b ≡ count) × ReadsAs (decimal count ++ 58 ∷ digits) b))
digits_found (Ok (Some b)) digits out many count r d fine h = (h.0, digits_read digits out b many count r d fine h.0 h.1)
digits_found (Ok None) digits out many count r d fine h = h
digits_found (Err e) digits out many count r d fine h = h

pub whole_found : {E : Type 0} (o : Result (Option (List Bool)) E) (text front digits : List ℕ) (count : ℕ) → text ≡ front ++ 58 ∷ digits → front ≡ decimal count → count ≤ 65536
    → IfOk o (λ x. IfSome x (λ b. (length b ≡ count) × ReadsAs (decimal count ++ 58 ∷ digits) b)) → IfOk o (λ x. IfSome x (IsBits text))
whole_found (Ok (Some b)) text front digits count cut spelled small h =
    let whole : text ≡ decimal count ++ 58 ∷ digits = cut ∙ ap (λ t. t ++ 58 ∷ digits) spelled in
    record { reads = subst (λ t. ReadsAs t b) (sym whole) h.1; short = omega (arith, h.0) }
whole_found (Ok None) text front digits count cut spelled small h = h
whole_found (Err e) text front digits count cut spelled small h = h

-- ---- the context

pub starts_absent : (part : Option (Bor (List ℕ))) (ctx : Entries) → part ≡ None → ctx ≡ [] → StartsAt part ctx
starts_absent part ctx none empty = subst (λ (o : Option (Bor (List ℕ))). StartsAt o ctx) (sym none) (subst (StartsAt None) (sym empty) absent)

pub starts_given : (part : Option (Bor (List ℕ))) (octets : Bor (List ℕ)) (text : List ℕ) (ctx : Entries) → part ≡ Some octets → text ≡ octets.now → IsUtf8 octets.now → IsReading (numbered_lines text) ctx → StartsAt part ctx
starts_given part octets text ctx is same utf8 reads = subst (λ (o : Option (Bor (List ℕ))). StartsAt o ctx) (sym is) (given octets ctx utf8 (subst (λ t. IsReading (numbered_lines t) ctx) same reads))

pub unread_at : (part : Option (Bor (List ℕ))) (octets : Bor (List ℕ)) (text : List ℕ) (e : ContextError) (n : ℕ) → part ≡ Some octets → text ≡ octets.now → IsUtf8 octets.now → e ≡ context.BadLine n → BlamesText e (numbered_lines text) → BlamesContext (bad.Number n) part
unread_at part octets text e n is same utf8 bad_one blames =
    let here : BlamesText (context.BadLine n) (numbered_lines octets.now) = subst (λ t. BlamesText (context.BadLine n) (numbered_lines t)) same (subst (λ (x : ContextError). BlamesText x (numbered_lines text)) bad_one blames) in
    subst (BlamesContext (bad.Number n)) (sym is) (unread_context utf8 here)
