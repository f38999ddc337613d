-- Laws of reading: a text has one reading, a reading and a fault exclude each other, and the printed text is read as what was printed.
use Rattle.std.specs.Prelude.{◌≡◌, ℕ, ◌≤◌, List, length}
use Rattle.sem_profile.specs.declared.profile.Method.{Method}
use Rattle.sem_profile.specs.Named.{AreNamed}
use Rattle.sem_bits.specs.Lines.{numbered_lines}
use Rattle.cert_text.specs.declared.faults.Fault.{Fault}
use Rattle.cert_text.specs.declared.reader.CertificateError.{CertificateError}
use Rattle.cert_text.specs.declared.reader.CertificateError.TheVariants.{OutOfMemory}
use Rattle.cert_text.specs.Faults.{IsCertificate, IsReading, IsFaultAt, Blames, text_limit}
use Rattle.cert_types.specs.Kept.{Certified}
use Rattle.cert_types.specs.Of.{AreWords}
use Rattle.cert_text.specs.Due.{Due, IsDue}
use Rattle.cert_text.specs.Tells.{Tells}
use Rattle.cert_text.specs.Text.{certificate_text}

-- Where the names of the methods are words and stand once, lines are those of one certificate at most.
abbrev pub OneReading : Type 0
OneReading = (methods : List Method) (numbered : List (ℕ × List ℕ)) (es others : Certified) → AreNamed methods → AreWords methods → IsCertificate methods es → IsCertificate methods others
    → IsReading methods numbered es → IsReading methods numbered others → es ≡ others

-- Lines that are those of a certificate have none at fault.
abbrev pub FaultsExclude : Type 0
FaultsExclude = (methods : List Method) (numbered : List (ℕ × List ℕ)) (fault : Fault) (n : ℕ) (es : Certified) → IsCertificate methods es → IsReading methods numbered es → IsFaultAt methods numbered fault n → ⊥

-- One thing is due after lines.
abbrev pub OneDue : Type 0
OneDue = (methods : List Method) (lines : List (List ℕ)) (one other : Due) → AreNamed methods → AreWords methods → IsDue methods lines one → IsDue methods lines other → one ≡ other

-- A line that can't come next has one code.
abbrev pub OneCode : Type 0
OneCode = (methods : List Method) (due : Due) (words : List (List ℕ)) (one other : Fault) → Tells methods due words one → Tells methods due words other → one ≡ other

-- The text of a certificate is read as that certificate, and as no other one; below the limit nothing is blamed but out of memory.
abbrev pub ReadsBack : Type 0
ReadsBack = (methods : List Method) (es : Certified) → AreNamed methods → AreWords methods → IsCertificate methods es → IsReading methods (numbered_lines (certificate_text es)) es

abbrev pub ReadsOnly : Type 0
ReadsOnly = (methods : List Method) (es others : Certified) → AreNamed methods → AreWords methods → IsCertificate methods es → IsCertificate methods others → IsReading methods (numbered_lines (certificate_text es)) others → others ≡ es

abbrev pub NoBlame : Type 0
NoBlame = (methods : List Method) (es : Certified) (e : CertificateError) → AreNamed methods → AreWords methods → IsCertificate methods es → length (certificate_text es) ≤ text_limit → Blames methods e (certificate_text es) → e ≡ OutOfMemory
