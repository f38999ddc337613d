-- The words of faults (docs/FORMATS.md).
use Rattle.std.specs.Prelude.{ℕ, List, [], ◌++◌, Option, Some, None, codes, if◌then◌else◌}
use Rattle.text_source.specs.declared.span.Span.{Span}
use Rattle.text_source.specs.declared.fault.FaultKind.{FaultKind}
use Rattle.text_source.specs.declared.fault.FaultKind.TheVariants as t
use Rattle.sem_profile.specs.Words.{is_name, word}
use Rattle.sem_profile.specs.declared.fault.ProfileFault.{ProfileFault}
use Rattle.sem_profile.specs.declared.fault.ProfileFaultKind.{ProfileFaultKind}
use Rattle.sem_profile.specs.declared.fault.ProfileFaultKind.TheVariants as f

-- ---- faults of the text, of its tokens and of its tree

abbrev pub kind_words : FaultKind → List ℕ
kind_words t.Character = codes "character is not allowed here"
kind_words t.OpenComment = codes "comment is not closed"
kind_words t.Large = codes "number or bit text is too large"
kind_words t.TooLong = codes "text is above 1 MiB"
kind_words t.NotUtf8 = codes "text is not UTF-8"
kind_words t.Unexpected = codes "unexpected token"
kind_words t.Nesting = codes "nesting is above 64"
kind_words t.EmptyBracket = codes "bracket is empty"
kind_words t.RepeatedSection = codes "section is repeated"
kind_words t.MixedRemainder = codes "% needs brackets here"
kind_words t.TooManyParts = codes "too many parts"

-- ---- faults of names, bounds and constraints

-- a name, and nothing of what is none
abbrev pub shown : List ℕ → List ℕ
shown octets = if is_name octets then octets else []

-- a name that a fault shows: a part of the text, or nothing
abbrev pub named : List ℕ → Option Span → List ℕ
named octets (Some span) = shown (word octets span)
named octets None = []

-- the words of a kind with its names
abbrev pub words_of : ProfileFaultKind → List ℕ → List ℕ → List ℕ
words_of f.UnknownName first second = codes "name " ++ first ++ codes " is not known"
words_of f.DefinedTwice first second = codes "name " ++ first ++ codes " is defined twice"
words_of f.ArgumentCount first second = codes "wrong number of arguments for " ++ first
words_of f.Recursion first second = first ++ codes " calls " ++ second ++ codes ", which reaches " ++ first
words_of f.SecondEncoding first second = codes "field " ++ first ++ codes " has a second encoding"
words_of f.NoContext first second = codes "field " ++ first ++ codes " has no context"
words_of f.NoEncoding first second = codes "field " ++ first ++ codes " has no encoding"
words_of f.NoTop first second = codes "no such top method without parameters"
words_of f.WideValue first second = codes "value of " ++ first ++ codes " is wider than 64 bits"
words_of f.Sections first second = codes "method " ++ first ++ codes " lacks one UNCOMPRESSED or named formats"
words_of f.AboveLimit first second = codes "value may pass 2^120"
words_of f.WrongKind first second = codes "expression is of the wrong kind"
words_of f.Power first second = codes "power has a negative base or an exponent above 127"
words_of f.NoValue first second = codes "constant has no value here"
words_of f.TooLarge first second = codes "profile is too large"

-- the words of a fault
abbrev pub fault_words : List ℕ → ProfileFault → List ℕ
fault_words octets fault = words_of fault.kind (named octets fault.first) (named octets fault.second)
