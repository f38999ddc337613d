-- What the octets of a profile stand for, and why they stand for nothing.
use Rattle.std.specs.Prelude.{◌≡◌, ℕ, List, length}
use Rattle.text_source.specs.declared.fault.Fault.{Fault}
use Rattle.text_source.specs.declared.fault.SourceError.{SourceError}
use Rattle.text_source.specs.declared.fault.SourceError.TheVariants as sources
use Rattle.text_source.specs.declared.token.Token.{Token}
use Rattle.text_source.specs.Lexical.{Lexed, IsStopped}
use Rattle.text_source.specs.Places.{IsText, IsRefused}
use Rattle.text_tree.specs.declared.tree.File.{File}
use Rattle.text_tree.specs.Limits.{Parsed}
use Rattle.text_tree.specs.Refused as tree
use Rattle.sem_profile.specs.declared.fault.ProfileFault.{ProfileFault}
use Rattle.sem_profile.specs.declared.fault.ResolveError.{ResolveError}
use Rattle.sem_profile.specs.declared.fault.ResolveError.TheVariants as profiles
use Rattle.sem_profile.specs.Resolved.{Resolved}
use Rattle.text_resolve.specs.Resolved.{IsNormalForm, Cause}
use Rattle.text_resolve.specs.declared.passes.ReadError.{ReadError}
use Rattle.text_resolve.specs.declared.passes.ReadError.TheVariants as errors

-- the octets are a text of the notation, with this tree
pub record HasTree (octets : List ℕ) (file : File) : Type 0 where
  pub tokens : List Token
  pub text : IsText octets
  pub lexed : Lexed octets tokens
  pub parsed : Parsed tokens file

-- The octets' tree has this normal form with the top.
pub record Reads (octets top : List ℕ) (p : Resolved) : Type 0 where
  pub file : File
  pub tree : HasTree octets file
  pub form : IsNormalForm octets file.parts top p

-- The first fault of octets without a tree, by what stands in its way.
pub data IsTextFault (octets : List ℕ) (fault : Fault) : Type 0 where
  -- the octets are too many, or no UTF-8
  no_text : IsRefused octets fault → IsTextFault octets fault
  -- the text has no tokens
  no_tokens : IsText octets → IsStopped octets fault → IsTextFault octets fault
  -- the tokens have no tree
  no_tree : (tokens : List Token) → IsText octets → Lexed octets tokens → tree.Refuses (length octets) tokens (sources.Fault fault) → IsTextFault octets fault

-- The fault is a cause for which the octets' tree has no normal form with the top.
pub record HasCause (octets top : List ℕ) (fault : ProfileFault) : Type 0 where
  pub file : File
  pub tree : HasTree octets file
  pub cause : Cause octets file.parts top fault

-- What a refusal says of the octets of a profile.
abbrev pub Refuses : List ℕ → List ℕ → ReadError → Type 0
Refuses octets top (errors.Text fault) = IsTextFault octets fault
Refuses octets top (errors.Profile fault) = HasCause octets top fault
Refuses octets top errors.OutOfMemory = Unit {0}

-- a fault of the text or its tree stays that fault
abbrev pub PassesText : SourceError → ReadError → Type 0
PassesText (sources.Fault fault) e = e ≡ errors.Text fault
PassesText sources.OutOfMemory e = e ≡ errors.OutOfMemory

-- so does a fault of names, bounds and constraints
abbrev pub PassesProfile : ResolveError → ReadError → Type 0
PassesProfile (profiles.Fault fault) e = e ≡ errors.Profile fault
PassesProfile profiles.OutOfMemory e = e ≡ errors.OutOfMemory
