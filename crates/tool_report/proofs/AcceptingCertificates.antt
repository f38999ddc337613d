-- What is found of a profile and its certificate, as the code has it.
use Rattle.std.proofs.Common.{◌≡◌, refl, ◌∙◌, ℕ, ◌≤◌, List, length, [], ◌∷◌, ◌++◌, ap, sym, subst}
use Rattle.std.specs.Borrow.{Bor}
use Rattle.std.specs.Prelude.{Result, Ok, Err, IfOk, String, codes, string_bytes}
use Rattle.std.specs.Global.{Global}
use Rattle.std.specs.Str.{IsUtf8}
use Rattle.std.specs.declared.alloc.AllocError.{AllocError}
use Rattle.sem_bits.specs.Lines.{BlamesLines, numbered_lines}
use Rattle.sem_bits.specs.declared.lines.LinesError.{LinesError}
use Rattle.sem_bits.specs.declared.lines.LinesError.TheVariants.{NotText}
use Rattle.text_resolve.specs.Passes.{Reads}
use Rattle.sem_profile.specs.declared.profile.Method.{Method}
use Rattle.sem_profile.specs.Resolved.{IsSound, Resolved}
use Rattle.cert_types.specs.declared.certificate.Version.{Version}
use Rattle.cert_types.specs.Kept.{Certified, AreKept}
use Rattle.cert_text.specs.Text.{certificate_text}
use Rattle.cert_text.specs.Faults.{IsReading, Blames, text_limit}
use Rattle.cert_text.specs.declared.reader.CertificateError.{CertificateError}
use Rattle.cert_rules.specs.declared.fault.CheckFault.{CheckFault}
use Rattle.cert_rules.specs.Valid.{Valid}
use Rattle.cert_check.specs.Blaming as check
use Rattle.cert_check.specs.Right.{AreEntriesRight}
use Rattle.cert_accepted.specs.Accepted.{Accepting, IsAccepted}
use Rattle.cert_check.specs.declared.refusal.CheckError.{CheckError}
use Rattle.cert_check.specs.declared.refusal.CheckError.TheVariants.{Fault}
use Rattle.cert_prove.specs.Proved.{IsProved, IsUnproved}
use Rattle.cert_prove.specs.declared.unproved.Unproved.{Unproved}
use Rattle.tool_report.specs.declared.profile_and_certificate.Found.{Found}
use Rattle.tool_report.specs.declared.profile_and_certificate.Found.TheVariants as found
use Rattle.tool_report.specs.declared.profile_and_certificate.Judged.{Judged}
use Rattle.tool_report.specs.declared.profile_and_certificate.Judged.TheVariants as judged
use Rattle.tool_report.specs.declared.profile_and_certificate.Origin.{Origin}
use Rattle.tool_report.specs.declared.profile_and_certificate.Origin.TheVariants.{Given, Made}
use Rattle.tool_input.specs.OneLine.{IsLine}
use Rattle.tool_report.specs.ProfileLines.{IsFaultLine}
use Rattle.tool_report.proofs.CheckFaultLines.{broken as broken_line, errors, unproved_lines, verdicts}
use Rattle.tool_input.specs.declared.status.Answer.{Answer}
use Rattle.tool_input.specs.declared.status.Status.{Status}
use Rattle.tool_input.specs.declared.status.Status.TheVariants as status
use Rattle.tool_input.specs.Refusals.{IsRefusal}
use Rattle.tool_report.specs.Reports.{ProvedOctets, ProvesOctets, none_proved, proved_by}
use Rattle.tool_report.specs.Prove.{IsUnprovedLine, ProvedBy, Proves, printed, unproved}
use Rattle.tool_names.specs.CheckFaults.{IsErrorLine, line_of_certificate, verdict_line}
use Rattle.tool_report.specs.Accepting.{AcceptsProfile, IsCertificate, IsFound, IsGiven, IsJudged, IsMade, IsVerdict, JudgesOctets, LacksCertificate, RefusesCertificate, RefusesProfile, at_fault, broken, broken_text, invalid, lacking, read, unaccepted, unmade, unread}
use Rattle.tool_input.proofs.RefusalsHeld.{done_is}

-- ---- the certificate

pub none_made : (version : Version) (p : Resolved) (why : Unproved) (methods : List Method) (text : List ℕ) → IsUnproved version p why → methods ≡ p.methods → IsUnprovedLine methods why text → IsSound p
    → LacksCertificate p (Made version) text × IsLine text
none_made version p why methods text is shown line sound =
    let here : IsUnprovedLine p.methods why text = subst (λ ms. IsUnprovedLine ms why text) shown line in
    (unmade version why refl is here, unproved_lines p.methods why text sound.words here)

-- the line of octets that are no UTF-8 is one line
pub broken_line_found : (octets text : List ℕ) → text ≡ broken_text octets → IsLine text
broken_line_found octets text is = subst IsLine (sym is) (broken_line _)

-- what is found by the octets that are given, and by one that is made
pub given_found : (p : Resolved) (origin : Origin) (octets : Bor (List ℕ)) (r : Result Found AllocError) → origin ≡ Given octets → IfOk r (IsGiven p octets.now) → IfOk r (IsFound p origin)
given_found p origin octets (Err e) is h = tt
given_found p origin octets (Ok f) is h = subst (λ (o : Origin). IsFound p o f) (sym is) (h octets refl)

pub made_found : (p : Resolved) (origin : Origin) (version : Version) (r : Result Found AllocError) → origin ≡ Made version → IfOk r (IsMade p version) → IfOk r (IsFound p origin)
made_found p origin version (Err e) is h = tt
made_found p origin version (Ok f) is h = subst (λ (o : Origin). IsFound p o f) (sym is) h

pub text_found : (p : Resolved) (octets text : List ℕ) (r : Result Found AllocError) → text ≡ octets → IfOk r (IsGiven p text) → IfOk r (IsGiven p octets)
text_found p octets text (Err e) same h = tt
text_found p octets text (Ok f) same h = λ given is. h given (is ∙ sym same)

pub broken_found : (p : Resolved) (octets line : List ℕ) → (IsUtf8 octets → ⊥) → line ≡ broken_text octets → (given : Bor (List ℕ)) → given.now ≡ octets → LacksCertificate p (Given given) line × IsLine line
broken_found p octets line none is given same =
    (broken given refl (λ utf8. none (subst IsUtf8 same utf8)) (is ∙ ap broken_text (sym same)), broken_line_found octets line is)

-- ---- the verdict

pub is_accepted : (p : Resolved) (cert : Certified) (a : Accepting) → IsAccepted a → a.profile ≡ p → a.certificate ≡ cert → IsVerdict p cert (judged.Accepted a)
is_accepted p cert a is same_p same_c =
    (same_p, same_c, subst (λ (c : Certified). Valid p.methods p.sizes p.top c) same_c (subst (λ (q : Resolved). Valid q.methods q.sizes q.top a.certificate) same_p is.valid))

pub is_refused : (p q : Resolved) (cert : Certified) (e : CheckError) (fault : CheckFault) (methods : List Method) (text : String Global) → check.Blames p cert e → e ≡ Fault fault → q ≡ p → methods ≡ q.methods → string_bytes text ≡ verdict_line methods fault
    → IsSound q → IsVerdict p cert (judged.Refused text)
is_refused p q cert e fault methods text blames is same shown spelled sound =
    let wrong : check.Blames p cert (Fault fault) = subst (λ (x : CheckError). check.Blames p cert x) is blames in
    let here : string_bytes text ≡ verdict_line q.methods fault = spelled ∙ ap (λ ms. verdict_line ms fault) shown in
    (fault, wrong, here ∙ ap (λ (x : Resolved). verdict_line x.methods fault) same, subst IsLine (sym here) (verdicts q.methods fault sound.words))

verdict_of : (p : Resolved) (origin : Origin) (cert : Certified) (j : Judged) → IsCertificate p origin cert → IsVerdict p cert j → IsJudged p origin j
verdict_of p origin cert (judged.Accepted a) is h = record {
  profile_is = h.0;
  certificate_is = subst (λ c. IsCertificate p origin c) (sym h.1) is;
  valid = subst (λ c. Valid p.methods p.sizes p.top c) (sym h.1) h.2;
}
verdict_of p origin cert (judged.Refused text) is h = (invalid cert h.0 is h.1 h.2, h.3)

pub certificate_judged : (p : Resolved) (origin : Origin) (f : Found) (cert : Certified) (r : Result Judged AllocError) → IsFound p origin f → f ≡ found.Certificate cert → IfOk r (IsVerdict p cert) → IfOk r (IsJudged p origin)
certificate_judged p origin f cert (Err e) has is h = tt
certificate_judged p origin f cert (Ok j) has is h = verdict_of p origin cert j (subst (λ (x : Found). IsFound p origin x) is has) h

pub proved_right : (p : Resolved) (origin : Origin) (f : Found) (cert : Certified) → IsFound p origin f → f ≡ found.Proved cert → AreEntriesRight p.methods p.sizes cert
proved_right p origin f cert has is = (subst (λ (x : Found). IsFound p origin x) is has).1

pub proved_judged : (p : Resolved) (origin : Origin) (f : Found) (cert : Certified) (r : Result Judged AllocError) → IsFound p origin f → f ≡ found.Proved cert → IfOk r (IsVerdict p cert) → IfOk r (IsJudged p origin)
proved_judged p origin f cert (Err e) has is h = tt
proved_judged p origin f cert (Ok j) has is h = verdict_of p origin cert j (subst (λ (x : Found). IsFound p origin x) is has).0 h

pub line_judged : (p : Resolved) (origin : Origin) (f : Found) (text : String Global) → IsFound p origin f → f ≡ found.Line text → RefusesCertificate p origin (string_bytes text) × IsLine (string_bytes text)
line_judged p origin f text has is = let h = subst (λ (x : Found). IsFound p origin x) is has in (lacking h.0, h.1)

-- ---- by the octets of a profile

octets_of : (top octets : List ℕ) (origin : Origin) (p : Resolved) (j : Judged) → Reads octets top p → IsJudged p origin j → JudgesOctets top octets origin j
octets_of top octets origin p (judged.Accepted a) reads h = record { p = p; reads = reads; accepted = h }
octets_of top octets origin p (judged.Refused text) reads h = unaccepted p reads h.0 h.1

pub octets_judged : (top name octets : List ℕ) (origin : Origin) (p : Resolved) (r : Result Judged AllocError) → name ≡ top → Reads octets name p → IfOk r (IsJudged p origin) → IfOk r (JudgesOctets top octets origin)
octets_judged top name octets origin p (Err e) is reads h = tt
octets_judged top name octets origin p (Ok j) is reads h = octets_of top octets origin p j (subst (λ x. Reads octets x p) is reads) h

pub octets_at_fault : (top name octets : List ℕ) (origin : Origin) (text : List ℕ) → name ≡ top → IsFaultLine name octets text → RefusesProfile top octets origin text
octets_at_fault top name octets origin text is line = at_fault (subst (λ x. IsFaultLine x octets text) is line)

pub accepted_here : (top octets : List ℕ) (of origin : Origin) (j : Judged) (a : Accepting) → of ≡ origin → JudgesOctets top octets of j → j ≡ judged.Accepted a → AcceptsProfile top octets origin a
accepted_here top octets of origin j a same h is = subst (λ (o : Origin). AcceptsProfile top octets o a) same (subst (λ (x : Judged). JudgesOctets top octets of x) is h)

pub refused_here : (top octets : List ℕ) (of origin : Origin) (j : Judged) (text : String Global) → of ≡ origin → JudgesOctets top octets of j → j ≡ judged.Refused text → RefusesProfile top octets origin (string_bytes text)
refused_here top octets of origin j text same h is = subst (λ (o : Origin). RefusesProfile top octets o (string_bytes text)) same (subst (λ (x : Judged). JudgesOctets top octets of x) is h)

-- the line of octets that are no UTF-8
pub broken_here : (octets : List ℕ) (e : LinesError) (n : ℕ) (r : Result (String Global) AllocError) → e ≡ NotText n → BlamesLines e octets → IfOk r (λ text. string_bytes text ≡ line_of_certificate n (codes "K1 bad word")) → IfOk r (λ text. string_bytes text ≡ broken_text octets)
broken_here octets e n (Err x) is blames h = tt
broken_here octets e n (Ok text) is blames h =
    let lines : BlamesLines (NotText n) octets = subst (λ (x : LinesError). BlamesLines x octets) is blames in
    h ∙ ap (λ k. line_of_certificate k (codes "K1 bad word")) lines.1

-- a text that is read as a certificate, or as none
pub read_here : (p : Resolved) (octets : Bor (List ℕ)) (text : List ℕ) (cert : Certified) → octets.now ≡ text → IsUtf8 text → length text ≤ text_limit → IsReading p.methods (numbered_lines text) cert → AreKept cert → IsCertificate p (Given octets) cert
read_here p octets text cert same utf8 short reads kept =
    read octets refl (subst IsUtf8 (sym same) utf8) (subst (λ t. length t ≤ text_limit) (sym same) short) (subst (λ t. IsReading p.methods (numbered_lines t) cert) (sym same) reads) kept

pub unread_here : (p : Resolved) (octets : Bor (List ℕ)) (text line : List ℕ) (e : CertificateError) → octets.now ≡ text → IsUtf8 text → Blames p.methods e text → IsErrorLine e line → LacksCertificate p (Given octets) line × IsLine line
unread_here p octets text line e same utf8 blames is = (unread octets e refl (subst IsUtf8 (sym same) utf8) (subst (Blames p.methods e) (sym same) blames) is, errors e line is)

-- ---- `prove`

pub none_proved_line : (version : Version) (p : Resolved) (why : Unproved) (methods : List Method) (text written : List ℕ) (r : Result Answer AllocError) → IsUnproved version p why → methods ≡ p.methods → IsUnprovedLine methods why text → IsSound p → written ≡ text → IfOk r (IsRefusal written) → IfOk r (Proves version p)
none_proved_line version p why methods text written (Err e) is shown line sound same g = tt
none_proved_line version p why methods text written (Ok a) is shown line sound same g =
    let here : IsUnprovedLine p.methods why text = subst (λ ms. IsUnprovedLine ms why text) shown line in
    let P : List ℕ → Type 0 = λ out. ProvedBy version p status.Refused out in
    let Q : Status → Type 0 = λ s. ProvedBy version p s (string_bytes a.output) in
    subst Q (sym g.status_is) (subst P (ap (λ x. x ++ 10 ∷ []) (sym same) ∙ sym g.line_is) (unproved why text is here (unproved_lines p.methods why text sound.words here)))

pub certificate_printed : (version : Version) (p : Resolved) (cert : Certified) (r : Result Answer AllocError) → IsProved version p cert → AreKept cert → IfOk r (λ a. a.status ≡ status.Done) → IfOk r (λ a. string_bytes a.output ≡ certificate_text cert) → IfOk r (Proves version p)
certificate_printed version p cert r is kept done spelled = done_is (ProvedBy version p) (certificate_text cert) r (printed cert is kept) done spelled

pub proved_by_profile : (version : Version) (top name profile : List ℕ) (p : Resolved) (r : Result Answer AllocError) → name ≡ top → Reads profile name p → IfOk r (Proves version p) → IfOk r (ProvesOctets version top profile)
proved_by_profile version top name profile p (Err e) is reads h = tt
proved_by_profile version top name profile p (Ok a) is reads h = proved_by p (subst (λ x. Reads profile x p) is reads) h

pub proof_refused : (version : Version) (top name profile text written : List ℕ) (r : Result Answer AllocError) → name ≡ top → IsFaultLine name profile text → written ≡ text → IfOk r (IsRefusal written) → IfOk r (ProvesOctets version top profile)
proof_refused version top name profile text written (Err e) same line is g = tt
proof_refused version top name profile text written (Ok a) same line is g =
    let P : List ℕ → Type 0 = λ out. ProvedOctets version top profile status.Refused out in
    let Q : Status → Type 0 = λ s. ProvedOctets version top profile s (string_bytes a.output) in
    subst Q (sym g.status_is) (subst P (ap (λ x. x ++ 10 ∷ []) (sym is) ∙ sym g.line_is) (none_proved text (subst (λ x. IsFaultLine x profile text) same line)))
