-- The fault lines of a profile and of its certificate are one line each.
use Rattle.std.proofs.Common.{◌≡◌, ℕ, zero, suc, ◌+◌, ◌&&◌, Bool, true, false, List, [], ◌∷◌, ◌++◌, Option, Some, None, refl, sym, subst, if◌then◌else◌, codes}
use Rattle.std.specs.Prelude.{flat_map, slice_get, option_and_then, option_map}
use Rattle.std.specs.List.{list_all}
use Rattle.text_source.specs.Names.{is_name}
use Rattle.cert_text.specs.Text.{name_of, side_word}
use Rattle.cert_types.specs.declared.certificate.Direction.{Direction}
use Rattle.cert_types.specs.declared.certificate.Direction.TheVariants as direction
use Rattle.cert_text.specs.declared.reader.CertificateError.{CertificateError}
use Rattle.cert_text.specs.declared.reader.CertificateError.TheVariants as error
use Rattle.sem_expr.specs.declared.expr.Side.{Side}
use Rattle.sem_expr.specs.declared.expr.Side.TheVariants as side
use Rattle.sem_profile.specs.Faults as profiles
use Rattle.sem_profile.specs.Words.{word}
use Rattle.sem_profile.specs.declared.fault.ProfileFaultKind.{ProfileFaultKind}
use Rattle.sem_profile.specs.declared.fault.ProfileFaultKind.TheVariants as f
use Rattle.sem_profile.specs.declared.profile.Field.{Field}
use Rattle.sem_profile.specs.declared.profile.Format.{Format}
use Rattle.sem_profile.specs.declared.profile.Method.{Method}
use Rattle.cert_prove.specs.declared.fault.FieldSide.{FieldSide}
use Rattle.sem_profile.specs.Named.{AreWords, field_has_word, format_has_words, is_name_if_any, method_has_words}
use Rattle.cert_prove.specs.declared.unproved.Unproved.{Unproved}
use Rattle.cert_prove.specs.declared.unproved.Unproved.TheVariants as unproved
use Rattle.cert_rules.specs.declared.fault.CheckFault.{CheckFault}
use Rattle.cert_rules.specs.declared.fault.CheckFault.TheVariants as check
use Rattle.text_listing.specs.Texts.{kind_words, named, shown, words_of}
use Rattle.text_source.specs.Faults.{code_of}
use Rattle.text_source.specs.declared.fault.FaultKind.{FaultKind}
use Rattle.text_source.specs.declared.fault.FaultKind.TheVariants as t
use Rattle.text_source.specs.declared.span.Span.{Span}
use Rattle.tool_input.specs.OneLine.{IsLine}
use Rattle.tool_report.specs.ProfileLines.{IsFaultLine, profile_line, text_fault, profile_fault}
use Rattle.tool_report.specs.Prove.{IsUnprovedLine, plan_line, side_words, tree_line}
use Rattle.tool_names.specs.CheckFaults.{IsErrorLine, direction_word, line_of_certificate, node_words, verdict_line}
use Rattle.tool_names.specs.Names.{field_name, format_name, method_name, names}
use Rattle.tool_input.proofs.OneLineLemmas.{and_parts, joined, number, name}

-- ---- the names in methods

name_if_any : (o : Option (List ℕ)) → is_name_if_any o ≡ true → IsLine (name_of o)
name_if_any (Some x) h = name x h
name_if_any None h = record { no_feed = refl }

field_in : (ds : List Field) (i : ℕ) → list_all field_has_word ds ≡ true → IsLine (name_of (option_map (λ d. d.declared.name) (slice_get ds i)))
field_in [] i h = record { no_feed = refl }
field_in (d ∷ ds) zero h = name d.declared.name (and_parts (field_has_word d) (list_all field_has_word ds) h).0
field_in (d ∷ ds) (suc i) h = field_in ds i (and_parts (field_has_word d) (list_all field_has_word ds) h).1

format_in : (fs : List Format) (n : ℕ) → list_all format_has_words fs ≡ true → IsLine (name_of (option_and_then (λ f. f.name) (slice_get fs n)))
format_in [] n h = record { no_feed = refl }
format_in (g ∷ fs) zero h = name_if_any g.name (and_parts (is_name_if_any g.name) (list_all field_has_word g.fields) (and_parts (format_has_words g) (list_all format_has_words fs) h).0).0
format_in (g ∷ fs) (suc n) h = format_in fs n (and_parts (format_has_words g) (list_all format_has_words fs) h).1

field_of_format : (fs : List Format) (n i : ℕ) → list_all format_has_words fs ≡ true → IsLine (name_of (option_map (λ d. d.declared.name) (option_and_then (λ f. slice_get f.fields i) (slice_get fs n))))
field_of_format [] n i h = record { no_feed = refl }
field_of_format (g ∷ fs) zero i h = field_in g.fields i (and_parts (is_name_if_any g.name) (list_all field_has_word g.fields) (and_parts (format_has_words g) (list_all format_has_words fs) h).0).1
field_of_format (g ∷ fs) (suc n) i h = field_of_format fs n i (and_parts (format_has_words g) (list_all format_has_words fs) h).1

abbrev words_in : Method → Bool
words_in m = list_all is_name m.parameters && list_all format_has_words m.formats

pub method : (methods : List Method) (k : ℕ) → AreWords methods → IsLine (method_name methods k)
method [] k h = record { no_feed = refl }
method (m ∷ ms) zero h = name m.name (and_parts (is_name m.name) (words_in m) (and_parts (method_has_words m) (list_all method_has_words ms) h).0).0
method (m ∷ ms) (suc k) h = method ms k (and_parts (method_has_words m) (list_all method_has_words ms) h).1

formats_of : (m : Method) (ms : List Method) → AreWords (m ∷ ms) → list_all format_has_words m.formats ≡ true
formats_of m ms h = (and_parts (list_all is_name m.parameters) (list_all format_has_words m.formats) (and_parts (is_name m.name) (words_in m) (and_parts (method_has_words m) (list_all method_has_words ms) h).0).1).1

pub format : (methods : List Method) (k n : ℕ) → AreWords methods → IsLine (format_name methods k n)
format [] k n h = record { no_feed = refl }
format (m ∷ ms) zero n h = format_in m.formats n (formats_of m ms h)
format (m ∷ ms) (suc k) n h = format ms k n (and_parts (method_has_words m) (list_all method_has_words ms) h).1

pub field : (methods : List Method) (k n i : ℕ) → AreWords methods → IsLine (field_name methods k n i)
field [] k n i h = record { no_feed = refl }
field (m ∷ ms) zero n i h = field_of_format m.formats n i (formats_of m ms h)
field (m ∷ ms) (suc k) n i h = field ms k n i (and_parts (method_has_words m) (list_all method_has_words ms) h).1

both : (methods : List Method) (k n : ℕ) → AreWords methods → IsLine (names methods k n)
both methods k n h =
    let blank : IsLine (codes " ") = record { no_feed = refl } in
    joined (joined (method methods k h) blank) (format methods k n h)

-- ---- faults of a profile

kind_line : (kind : FaultKind) → IsLine (code_of kind) × IsLine (kind_words kind)
kind_line t.Character = (record { no_feed = refl }, record { no_feed = refl })
kind_line t.OpenComment = (record { no_feed = refl }, record { no_feed = refl })
kind_line t.Large = (record { no_feed = refl }, record { no_feed = refl })
kind_line t.TooLong = (record { no_feed = refl }, record { no_feed = refl })
kind_line t.NotUtf8 = (record { no_feed = refl }, record { no_feed = refl })
kind_line t.Unexpected = (record { no_feed = refl }, record { no_feed = refl })
kind_line t.Nesting = (record { no_feed = refl }, record { no_feed = refl })
kind_line t.EmptyBracket = (record { no_feed = refl }, record { no_feed = refl })
kind_line t.RepeatedSection = (record { no_feed = refl }, record { no_feed = refl })
kind_line t.MixedRemainder = (record { no_feed = refl }, record { no_feed = refl })
kind_line t.TooManyParts = (record { no_feed = refl }, record { no_feed = refl })

code_line : (kind : ProfileFaultKind) → IsLine (profiles.code_of kind)
code_line f.UnknownName = record { no_feed = refl }
code_line f.DefinedTwice = record { no_feed = refl }
code_line f.ArgumentCount = record { no_feed = refl }
code_line f.Recursion = record { no_feed = refl }
code_line f.SecondEncoding = record { no_feed = refl }
code_line f.NoContext = record { no_feed = refl }
code_line f.NoEncoding = record { no_feed = refl }
code_line f.NoTop = record { no_feed = refl }
code_line f.WideValue = record { no_feed = refl }
code_line f.Sections = record { no_feed = refl }
code_line f.AboveLimit = record { no_feed = refl }
code_line f.WrongKind = record { no_feed = refl }
code_line f.Power = record { no_feed = refl }
code_line f.NoValue = record { no_feed = refl }
code_line f.TooLarge = record { no_feed = refl }

shown_line : (xs : List ℕ) → IsLine (shown xs)
shown_line xs = by_test (is_name xs) refl
  where
    by_test : (b : Bool) → is_name xs ≡ b → IsLine (if b then xs else [])
    by_test true e = name xs e
    by_test false e = record { no_feed = refl }

named_line : (octets : List ℕ) (o : Option Span) → IsLine (named octets o)
named_line octets (Some span) = shown_line (word octets span)
named_line octets None = record { no_feed = refl }

-- words before a name and after it
around : (before after : List ℕ) {x : List ℕ} → IsLine before → IsLine after → IsLine x → IsLine (before ++ x ++ after)
around before after b a h = joined (joined b h) a

words_line : (kind : ProfileFaultKind) (first second : List ℕ) → IsLine first → IsLine second → IsLine (words_of kind first second)
words_line f.UnknownName a b p q = around (codes "name ") (codes " is not known") record { no_feed = refl } record { no_feed = refl } p
words_line f.DefinedTwice a b p q = around (codes "name ") (codes " is defined twice") record { no_feed = refl } record { no_feed = refl } p
words_line f.ArgumentCount a b p q = let wrong : IsLine (codes "wrong number of arguments for ") = record { no_feed = refl } in joined wrong p
words_line f.Recursion a b p q =
    let calls : IsLine (codes " calls ") = record { no_feed = refl } in
    let reaches : IsLine (codes ", which reaches ") = record { no_feed = refl } in
    joined (joined (joined (joined p calls) q) reaches) p
words_line f.SecondEncoding a b p q = around (codes "field ") (codes " has a second encoding") record { no_feed = refl } record { no_feed = refl } p
words_line f.NoContext a b p q = around (codes "field ") (codes " has no context") record { no_feed = refl } record { no_feed = refl } p
words_line f.NoEncoding a b p q = around (codes "field ") (codes " has no encoding") record { no_feed = refl } record { no_feed = refl } p
words_line f.NoTop a b p q = record { no_feed = refl }
words_line f.WideValue a b p q = around (codes "value of ") (codes " is wider than 64 bits") record { no_feed = refl } record { no_feed = refl } p
words_line f.Sections a b p q = around (codes "method ") (codes " lacks one UNCOMPRESSED or named formats") record { no_feed = refl } record { no_feed = refl } p
words_line f.AboveLimit a b p q = record { no_feed = refl }
words_line f.WrongKind a b p q = record { no_feed = refl }
words_line f.Power a b p q = record { no_feed = refl }
words_line f.NoValue a b p q = record { no_feed = refl }
words_line f.TooLarge a b p q = record { no_feed = refl }

at_place : (octets : List ℕ) (offset : ℕ) (code words : List ℕ) → IsLine code → IsLine words → IsLine (profile_line octets offset code words)
at_place octets offset code words c w =
    let profile : IsLine (codes "profile:") = record { no_feed = refl } in
    let colon : IsLine (codes ":") = record { no_feed = refl } in
    let after : IsLine (codes ": ") = record { no_feed = refl } in
    let blank : IsLine (codes " ") = record { no_feed = refl } in
    joined (joined (joined (joined (joined (joined (joined profile (number _)) colon) (number _)) after) c) blank) w

pub profile_faults : (top octets text : List ℕ) → IsFaultLine top octets text → IsLine text
profile_faults top octets _ (text_fault fault is) = at_place octets fault.at.from _ _ (kind_line fault.kind).0 (kind_line fault.kind).1
profile_faults top octets _ (profile_fault fault is) = at_place octets fault.at.from _ _ (code_line fault.kind) (words_line fault.kind _ _ (named_line octets fault.first) (named_line octets fault.second))

-- ---- faults of a certificate

direction_line : (d : Direction) → IsLine (direction_word d)
direction_line direction.Read = record { no_feed = refl }
direction_line direction.Write = record { no_feed = refl }

side_line : (s : Side) → IsLine (side_word s)
side_line side.Uncompressed = record { no_feed = refl }
side_line side.Compressed = record { no_feed = refl }

node_line : (methods : List Method) (k node : ℕ) → AreWords methods → IsLine (node_words methods k node)
node_line methods k node h =
    let words : IsLine (codes " node ") = record { no_feed = refl } in
    joined (joined (method methods k h) words) (number node)

pub verdicts : (methods : List Method) (fault : CheckFault) → AreWords methods → IsLine (verdict_line methods fault)
verdicts methods (check.NoMethod k) h = let v : IsLine (codes "check: V1 ") = record { no_feed = refl } in joined v (method methods k h)
verdicts methods (check.NoFormat k n) h = let v : IsLine (codes "check: V1 ") = record { no_feed = refl } in joined v (both methods k n h)
verdicts methods (check.NotEnabled k n d step) h =
    let v : IsLine (codes "check: V2 ") = record { no_feed = refl } in
    let blank : IsLine (codes " ") = record { no_feed = refl } in
    let words : IsLine (codes " step ") = record { no_feed = refl } in
    joined (joined (joined (joined (joined v (both methods k n h)) blank) (direction_line d)) words) (number step)
verdicts methods (check.NeverLearnt k n d i s) h =
    let v : IsLine (codes "check: V3 ") = record { no_feed = refl } in
    let blank : IsLine (codes " ") = record { no_feed = refl } in
    joined (joined (joined (joined (joined (joined (joined v (both methods k n h)) blank) (direction_line d)) blank) (field methods k n i h)) blank) (side_line s)
verdicts methods (check.WrongLeaf k node n) h =
    let v : IsLine (codes "check: V4 ") = record { no_feed = refl } in
    let blank : IsLine (codes " ") = record { no_feed = refl } in
    joined (joined (joined v (node_line methods k node h)) blank) (format methods k n h)
verdicts methods (check.ShortFormat k node n) h =
    let v : IsLine (codes "check: V5 ") = record { no_feed = refl } in
    let blank : IsLine (codes " ") = record { no_feed = refl } in
    joined (joined (joined v (node_line methods k node h)) blank) (format methods k n h)
verdicts methods check.TooMany h = record { no_feed = refl }
verdicts methods (check.OutOfRange k node) h = let v : IsLine (codes "check: V7 ") = record { no_feed = refl } in joined v (node_line methods k node h)
verdicts methods (check.BeyondWord k node) h = let v : IsLine (codes "check: V9 ") = record { no_feed = refl } in joined v (node_line methods k node h)
verdicts methods check.TooLong h = record { no_feed = refl }

at_line : (n : ℕ) (words : List ℕ) → IsLine words → IsLine (line_of_certificate n words)
at_line n words h =
    let certificate : IsLine (codes "certificate:") = record { no_feed = refl } in
    let after : IsLine (codes ": ") = record { no_feed = refl } in
    joined (joined (joined certificate (number n)) after) h

pub errors : (e : CertificateError) (text : List ℕ) → IsErrorLine e text → IsLine text
errors (error.BadWord n) text is = subst IsLine (sym is) (at_line n (codes "K1 bad word") (record { no_feed = refl }))
errors (error.UnknownName n) text is = subst IsLine (sym is) (at_line n (codes "K2 unknown name") (record { no_feed = refl }))
errors (error.AboveLimits n) text is = subst IsLine (sym is) (at_line n (codes "K3 above limits") (record { no_feed = refl }))
errors error.OutOfMemory text is = absurd is

pub broken : (n : ℕ) → IsLine (line_of_certificate n (codes "K1 bad word"))
broken n = at_line n (codes "K1 bad word") (record { no_feed = refl })

-- ---- no certificate

sides_line : (methods : List Method) (k n : ℕ) (sides : List FieldSide) → AreWords methods → IsLine (flat_map (side_words methods k n) sides)
sides_line methods k n [] h = record { no_feed = refl }
sides_line methods k n (s ∷ sides) h =
    let blank : IsLine (codes " ") = record { no_feed = refl } in
    joined (joined (joined (joined blank (field methods k n s.field h)) blank) (side_line s.side)) (sides_line methods k n sides h)

plan : (methods : List Method) (k n : ℕ) (d : Direction) (sides : List FieldSide) → AreWords methods → IsLine (plan_line methods k n d sides)
plan methods k n d sides h =
    let p : IsLine (codes "prove: P1 NoPlan ") = record { no_feed = refl } in
    let blank : IsLine (codes " ") = record { no_feed = refl } in
    joined (joined (joined (joined p (both methods k n h)) blank) (direction_line d)) (sides_line methods k n sides h)

tree : (methods : List Method) (k first second : ℕ) → AreWords methods → IsLine (tree_line methods k first second)
tree methods k first second h =
    let p : IsLine (codes "prove: P2 NoTree ") = record { no_feed = refl } in
    let blank : IsLine (codes " ") = record { no_feed = refl } in
    joined (joined (joined (joined (joined p (method methods k h)) blank) (format methods k first h)) blank) (format methods k second h)

pub unproved_lines : (methods : List Method) (why : Unproved) (text : List ℕ) → AreWords methods → IsUnprovedLine methods why text → IsLine text
unproved_lines methods (unproved.NoPlan k n d sides) text h is = subst IsLine (sym is) (plan methods k n d sides h)
unproved_lines methods (unproved.NoTree k first second) text h is = subst IsLine (sym is) (tree methods k first second h)
unproved_lines methods unproved.Limit text h is = subst IsLine (sym is) (record { no_feed = refl })
unproved_lines methods unproved.OutOfMemory text h is = absurd is
