-- What comes of lines that are read one by one.
use Rattle.std.proofs.Common.{◌≡◌, ◌∙◌, sym, ap, subst, refl, ℕ, suc, ◌+◌, ◌<◌, ◌≤◌, true, false, List, [], ◌∷◌, ◌++◌, map, length, take, drop, get_or, arith}
use Rattle.std.specs.Prelude.{Some, None, option_and_then}
use Rattle.std.specs.Str.Lines.{lines}
use Rattle.std.proofs.lemmas.Bool.{false≢true}
use Rattle.std.proofs.lemmas.List.{map-append, take_more}
use Rattle.std.proofs.Math.Seq.{split_at}
use Rattle.sem_profile.specs.declared.profile.Method.{Method}
use Rattle.sem_profile.specs.Named.{AreNamed}
use Rattle.sem_profile.specs.Named as words
use Rattle.sem_bits.specs.Lines.{numbered_lines}
use Rattle.cert_text.specs.declared.draft.Draft.{Draft}
use Rattle.cert_text.specs.declared.draft.Stage.TheVariants as stage
use Rattle.cert_text.specs.declared.reader.CertificateError.{CertificateError}
use Rattle.cert_text.specs.declared.reader.CertificateError.TheVariants.{BadWord, UnknownName, AboveLimits, OutOfMemory}
use Rattle.cert_text.specs.Drafts.{words as words_of, is_stage, next, read_lines, start}
use Rattle.cert_text.specs.Faults.{texts, text_limit, IsReading, IsFaultAt, IsCutOff, Blames, too_long, at_line, cut_off, no_memory, fault_of}
use Rattle.cert_text.specs.Shapes.{stands_at, fault_told, Stops}
use Rattle.cert_text.specs.Tells.{Tells}
use Rattle.cert_text.specs.declared.faults.Fault.{Fault}
use Rattle.cert_text.specs.declared.faults.Fault.TheVariants as fault
use Rattle.cert_types.specs.Kept.{Certified, AreKept}
use Rattle.cert_types.specs.Of.{AreWords}
use Rattle.cert_text.specs.Laws.{OneReading, FaultsExclude, ReadsBack, ReadsOnly, NoBlame}
use Rattle.cert_text.specs.Text.{certificate_lines, certificate_text}
use Rattle.cert_text.proofs.ShapesBlaming.{code_is}
use Rattle.cert_text.proofs.DraftsDue.{due_of}
use Rattle.cert_text.proofs.DueShown.{due_shown}
use Rattle.cert_text.proofs.FaultsCompleting.{can_follow}
use Rattle.cert_text.proofs.DraftsAccepting.{st, accept, readable_by}
use Rattle.cert_text.proofs.DraftsMeaning.{and_some, some_is}
use Rattle.cert_text.proofs.DraftsFollowing.{certified, whole}
use Rattle.cert_text.proofs.DraftsNames.{worded}
use Rattle.cert_text.proofs.Printed.{printed_lines}

-- ---- one line more

read_more : (methods : List Method) (d e f : Draft) (before : List (List ℕ)) (line : List ℕ) → read_lines methods d before ≡ Some e → next methods e (words_of line) ≡ Some f → read_lines methods d (before ++ line ∷ []) ≡ Some f
read_more methods d e f [] line h k = ap (option_and_then _) (ap (λ x. next methods x (words_of line)) (some_is d e h) ∙ k)
read_more methods d e f (l ∷ before) line h k =
    let (g, taken, more) = and_some _ (next methods d (words_of l)) e h in ap (option_and_then _) taken ∙ read_more methods g e f before line more k

read_stops : (methods : List Method) (d e : Draft) (before : List (List ℕ)) (line : List ℕ) (more : List (List ℕ)) → read_lines methods d before ≡ Some e → next methods e (words_of line) ≡ None → read_lines methods d (before ++ line ∷ more) ≡ None
read_stops methods d e [] line more h k = ap (option_and_then _) (ap (λ x. next methods x (words_of line)) (some_is d e h) ∙ k)
read_stops methods d e (l ∷ before) line more h k =
    let (g, taken, rest) = and_some _ (next methods d (words_of l)) e h in ap (option_and_then _) taken ∙ read_stops methods g e before line more rest k

pub drafted_more : {A : Type 0} (text : A → List ℕ) (methods : List Method) (items : List A) (i : ℕ) (z : A) (d e : Draft) → i < length items → read_lines methods start (map text (take i items)) ≡ Some d → next methods d (words_of (text (get_or items i z))) ≡ Some e
    → read_lines methods start (map text (take (i + 1) items)) ≡ Some e
drafted_more text methods items i z d e inside so_far taken =
    ap (read_lines methods start) (ap (map text) (take_more items i z inside) ∙ map-append text (take i items) (get_or items i z ∷ []))
    ∙ read_more methods start d e (map text (take i items)) (text (get_or items i z)) so_far taken

texts_of : {A : Type 0} (f : A → ℕ × List ℕ) (xs : List A) → texts (map f xs) ≡ map (λ x. (f x).1) xs
texts_of f [] = refl
texts_of f (x ∷ xs) = ap (λ r. (f x).1 ∷ r) (texts_of f xs)

pub stops_at : {A : Type 0} (f : A → ℕ × List ℕ) (methods : List Method) (items : List A) (i : ℕ) (z : A) (d : Draft) (fault : Fault) → i < length items → read_lines methods start (map (λ x. (f x).1) (take i items)) ≡ Some d → next methods d (words_of (f (get_or items i z)).1) ≡ None
    → fault ≡ fault_told (stands_at d) methods (words_of (f (get_or items i z)).1) → Stops methods (map f items) fault (f (get_or items i z)).0
stops_at f methods items i z d fault inside so_far stops told =
    let x = get_or items i z in
    record {
      before = map f (take i items);
      line = (f x).1;
      after = map f (drop (suc i) items);
      cut = ap (map f) (split_at items i z inside) ∙ map-append f (take i items) (x ∷ drop (suc i) items);
      draft = d;
      so_far = ap (read_lines methods start) (texts_of f (take i items)) ∙ so_far;
      stops = stops;
      told = told;
    }

-- ---- what is blamed

fault_here : (methods : List Method) → AreNamed methods → AreWords methods → (numbered : List (ℕ × List ℕ)) (fault : Fault) (n : ℕ) → Stops methods numbered fault n → IsFaultAt methods numbered fault n
fault_here methods named spelled numbered fault n s = record {
  due = due_of methods s.draft;
  is_due = due_shown methods (texts s.before) s.draft s.so_far;
  tells = subst (Tells methods (due_of methods s.draft) (words_of s.line)) (sym s.told) (code_is methods named (texts s.before) s.draft (words_of s.line) s.so_far s.stops);
  before = s.before;
  line = s.line;
  after = s.after;
  cut = s.cut;
  follows = can_follow methods (texts s.before) s.draft s.so_far;
  unfit = λ c more certificate same.
      let accepted = accept methods (readable_by methods named spelled) c certificate.of certificate.kept in
      let stopped = ap (read_lines methods start) same ∙ read_stops methods start s.draft (texts s.before) s.line more s.so_far s.stops in
      let wrong : None ≡ Some (st c.version stage.End c.methods [] [] [] [] []) = sym stopped ∙ accepted in absurd cc;
}

pub blamed : (methods : List Method) → AreNamed methods → words.AreWords methods → (text : List ℕ) (e : CertificateError) → length text ≤ text_limit → ((f : Fault) (n : ℕ) → fault_of e ≡ Some (f, n) → Stops methods (numbered_lines text) f n) → Blames methods e text
blamed methods named spelled text (BadWord n) short h = at_line fault.BadWord n short refl (fault_here methods named (worded methods spelled) (numbered_lines text) fault.BadWord n (h fault.BadWord n refl))
blamed methods named spelled text (UnknownName n) short h = at_line fault.UnknownName n short refl (fault_here methods named (worded methods spelled) (numbered_lines text) fault.UnknownName n (h fault.UnknownName n refl))
blamed methods named spelled text (AboveLimits n) short h = at_line fault.AboveLimits n short refl (fault_here methods named (worded methods spelled) (numbered_lines text) fault.AboveLimits n (h fault.AboveLimits n refl))
blamed methods named spelled text OutOfMemory short h = no_memory short refl

pub is_cut_off : {A : Type 0} (f : A → ℕ × List ℕ) (methods : List Method) → AreNamed methods → words.AreWords methods → (text : List ℕ) (items : List A) (d : Draft) (n : ℕ) → map f items ≡ numbered_lines text → read_lines methods start (map (λ x. (f x).1) items) ≡ Some d
    → is_stage d.stage stage.End ≡ false → n ≡ suc (length (lines text)) → IsCutOff methods text n
is_cut_off f methods named spelled text items d n all drafted open_still last = record {
  after_last = last;
  follows = can_follow methods (texts (numbered_lines text)) d (ap (read_lines methods start) (ap texts (sym all) ∙ texts_of f items) ∙ drafted);
  unfit = λ c certificate same.
      let accepted = accept methods (readable_by methods named (worded methods spelled)) c certificate.of certificate.kept in
      let lines_are : map (λ x. (f x).1) items ≡ certificate_lines c = sym (texts_of f items) ∙ ap texts all ∙ same in
      let d_is : d ≡ st c.version stage.End c.methods [] [] [] [] [] = some_is d _ (sym drafted ∙ ap (read_lines methods start) lines_are ∙ accepted) in
      false≢true (sym open_still ∙ ap (λ x. is_stage x.stage stage.End) d_is);
}

pub is_reading : {A : Type 0} (f : A → ℕ × List ℕ) (methods : List Method) (text : List ℕ) (items : List A) (d : Draft) → map f items ≡ numbered_lines text → read_lines methods start (map (λ x. (f x).1) items) ≡ Some d → is_stage d.stage stage.End ≡ true → IsReading methods (numbered_lines text) (certified d)
is_reading f methods text items d all drafted ended =
    let w = whole methods (map (λ x. (f x).1) items) d drafted ended in
    record { lines_are = ap texts (sym all) ∙ texts_of f items ∙ w.same; of = w.of }

pub is_kept : (methods : List Method) (ls : List (List ℕ)) (d : Draft) → read_lines methods start ls ≡ Some d → is_stage d.stage stage.End ≡ true → AreKept (certified d)
is_kept methods ls d drafted ended = (whole methods ls d drafted ended).kept

-- ---- laws

one_end : (methods : List Method) (ls : List (List ℕ)) (es others : Certified) → read_lines methods start ls ≡ Some (st es.version stage.End es.methods [] [] [] [] []) → read_lines methods start ls ≡ Some (st others.version stage.End others.methods [] [] [] [] []) → es ≡ others
one_end methods ls es others h k = ap certified (some_is _ _ (sym h ∙ k))

pub one_reading : OneReading
one_reading methods numbered es others named spelled a b h k =
    let r = readable_by methods named spelled in
    one_end methods (texts numbered) es others (ap (read_lines methods start) h.lines_are ∙ accept methods r es a.of a.kept) (ap (read_lines methods start) k.lines_are ∙ accept methods r others b.of b.kept)

pub faults_exclude : FaultsExclude
faults_exclude methods numbered fault n es certificate reading at =
    at.unfit es (texts at.after) certificate
    (sym reading.lines_are ∙ ap texts at.cut ∙ map-append (λ l. l.1) at.before ((n, at.line) ∷ at.after))

pub reads_back : ReadsBack
reads_back methods es named spelled certificate = record { lines_are = printed_lines methods es (readable_by methods named spelled) certificate.of certificate.kept.each; of = certificate.of }

pub reads_only : ReadsOnly
reads_only methods es others named spelled a b h = one_reading methods (numbered_lines (certificate_text es)) others es named spelled b a h (reads_back methods es named spelled a)

pub no_blame : NoBlame
no_blame methods es e named spelled a short (too_long long is) = absurd (omega (arith, short, long))
no_blame methods es e named spelled a short (at_line fault n within is at) = absurd (faults_exclude methods (numbered_lines (certificate_text es)) fault n es a (reads_back methods es named spelled a) at)
no_blame methods es e named spelled a short (cut_off n within is at) = absurd (at.unfit es a (reads_back methods es named spelled a).lines_are)
no_blame methods es e named spelled a short (no_memory within is) = is
