-- What it is to read a certificate from lines, and what its faults say of them (docs/FORMATS.md, The text of a certificate).
use Rattle.std.specs.Prelude.{◌≡◌, ℕ, suc, ◌<◌, ◌≤◌, List, ◌∷◌, ◌++◌, map, length, true, Option, Some, None, slice_get}
use Rattle.std.specs.Str.Lines.{lines}
use Rattle.sem_profile.specs.declared.profile.Method.{Method}
use Rattle.sem_bits.specs.Lines.{numbered_lines}
use Rattle.cert_text.specs.declared.faults.Fault.{Fault}
use Rattle.cert_text.specs.declared.faults.Fault.TheVariants as fault
use Rattle.cert_text.specs.declared.reader.CertificateError.{CertificateError}
use Rattle.cert_text.specs.declared.reader.CertificateError.TheVariants.{BadWord, UnknownName, AboveLimits, OutOfMemory}
use Rattle.cert_text.specs.Due.{Due, IsDue}
use Rattle.cert_types.specs.declared.certificate.MethodPlans.{MethodPlans}
use Rattle.cert_types.specs.Kept.{Certified, AreKept, are_trees}
use Rattle.cert_types.specs.Of.{IsOf}
use Rattle.cert_text.specs.Table.{words}
use Rattle.cert_text.specs.Tells.{Tells}
use Rattle.cert_text.specs.Text.{certificate_lines}

-- numbered lines without their numbers
abbrev pub texts : List (ℕ × List ℕ) → List (List ℕ)
texts numbered = map (λ l. l.1) numbered

-- one of these methods, within the limits
pub record IsCertificate (methods : List Method) (c : Certified) : Type 0 where
  pub of : IsOf methods c.methods
  pub kept : AreKept c

-- the lines are those of a certificate of these methods
pub record IsReading (methods : List Method) (numbered : List (ℕ × List ℕ)) (c : Certified) : Type 0 where
  pub lines_are : texts numbered ≡ certificate_lines c
  pub of : IsOf methods c.methods

-- Lines can be followed: they begin those of a certificate of the methods, whose trees are whole, whatever its counts are.
pub record CanFollow (methods : List Method) (lines : List (List ℕ)) : Type 0 where
  pub certificate : Certified
  pub more : List (List ℕ)
  pub of : IsOf methods certificate.methods
  pub whole : (k : ℕ) (method : MethodPlans) → slice_get certificate.methods k ≡ Some (Some method) → are_trees 1 method.tree ≡ true
  pub lines_are : certificate_lines certificate ≡ lines ++ more

-- The line of that number is at fault: the lines before it can be followed, and no certificate of the methods has lines that begin with those and then this one.
-- The fault is that which the line has by what is due after those before it.
pub record IsFaultAt (methods : List Method) (numbered : List (ℕ × List ℕ)) (fault : Fault) (number : ℕ) : Type 0 where
  pub before : List (ℕ × List ℕ)
  pub line : List ℕ
  pub after : List (ℕ × List ℕ)
  pub cut : numbered ≡ before ++ (number, line) ∷ after
  pub follows : CanFollow methods (texts before)
  pub unfit : (c : Certified) (more : List (List ℕ)) → IsCertificate methods c → certificate_lines c ≡ texts before ++ line ∷ more → ⊥
  pub due : Due
  pub is_due : IsDue methods (texts before) due
  pub tells : Tells methods due (words line) fault

-- The lines end too early: all of them can be followed, no certificate of the methods has just these, and the number is that after the last line.
pub record IsCutOff (methods : List Method) (text : List ℕ) (number : ℕ) : Type 0 where
  pub after_last : number ≡ suc (length (lines text))
  pub follows : CanFollow methods (texts (numbered_lines text))
  pub unfit : (c : Certified) → IsCertificate methods c → texts (numbered_lines text) ≡ certificate_lines c → ⊥

-- no text is longer, in octets
abbrev pub text_limit : ℕ
text_limit = 1048576

-- the fault of an error, and its line
abbrev pub fault_of : CertificateError → Option (Fault × ℕ)
fault_of (BadWord number) = Some (fault.BadWord, number)
fault_of (UnknownName number) = Some (fault.UnknownName, number)
fault_of (AboveLimits number) = Some (fault.AboveLimits, number)
fault_of OutOfMemory = None

-- What an error of `read` says of the text.
pub data Blames (methods : List Method) (e : CertificateError) (text : List ℕ) : Type 0 where
  -- it is too long: that comes before all else
  too_long : text_limit < length text → e ≡ AboveLimits 1 → Blames methods e text
  -- a line is at fault
  at_line : (fault : Fault) (number : ℕ) → length text ≤ text_limit → fault_of e ≡ Some (fault, number) → IsFaultAt methods (numbered_lines text) fault number → Blames methods e text
  -- lines are missing at the end
  cut_off : (number : ℕ) → length text ≤ text_limit → e ≡ BadWord number → IsCutOff methods text number → Blames methods e text
  no_memory : length text ≤ text_limit → e ≡ OutOfMemory → Blames methods e text
