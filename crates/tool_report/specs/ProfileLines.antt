-- The line of a fault of a profile (docs/FORMATS.md).
use Rattle.std.specs.Prelude.{ℕ, List, ◌++◌, codes, decimal}
use Rattle.text_source.specs.declared.fault.Fault.{Fault}
use Rattle.text_source.specs.Faults.{code_of}
use Rattle.text_source.specs.Places.{line_of, column_of}
use Rattle.sem_profile.specs.declared.fault.ProfileFault.{ProfileFault}
use Rattle.sem_profile.specs.Faults as profiles
use Rattle.text_resolve.specs.Passes.{HasCause, IsTextFault}
use Rattle.text_listing.specs.Texts.{fault_words, kind_words}

-- a line of the profile: where an octet of it stands, a code and words
abbrev pub profile_line : List ℕ → ℕ → List ℕ → List ℕ → List ℕ
profile_line octets offset code words = codes "profile:" ++ decimal (line_of octets offset) ++ codes ":" ++ decimal (column_of octets offset) ++ codes ": " ++ code ++ codes " " ++ words

-- a fault of the text, of its tokens or of its tree at its line and column, with its code and its words
abbrev pub text_line : List ℕ → Fault → List ℕ
text_line octets f = profile_line octets f.at.from (code_of f.kind) (kind_words f.kind)

-- a fault of the normal form at its line and column, with its code and its words
abbrev pub cause_line : List ℕ → ProfileFault → List ℕ
cause_line octets f = profile_line octets f.at.from (profiles.code_of f.kind) (fault_words octets f)

-- The line of the fault for which the octets of a profile have no normal form.
pub data IsFaultLine (top octets : List ℕ) : List ℕ → Type 0 where
  -- the octets have no tree
  text_fault : (fault : Fault) → IsTextFault octets fault → IsFaultLine top octets (text_line octets fault)
  -- their tree has no normal form
  profile_fault : (fault : ProfileFault) → HasCause octets top fault → IsFaultLine top octets (cause_line octets fault)
