-- The arguments of an encoding: how many there are, and what they mean.
use Rattle.std.specs.Prelude.{◌≡◌, ℕ, List, [], ◌∷◌, length, Option, None, Some, if◌then◌else◌, nat_eq}
use Rattle.std.specs.List.{AllZip}
use Rattle.std.specs.Option.{option_or}
use Rattle.text_source.specs.declared.span.Span.{Span}
use Rattle.text_tree.specs.declared.tree.Expr.{Expr as Tree}
use Rattle.sem_expr.specs.declared.expr.Expr.{Expr}
use Rattle.sem_profile.specs.declared.fault.ProfileFault.{ProfileFault}
use Rattle.sem_profile.specs.declared.fault.ProfileFaultKind.TheVariants as kinds
use Rattle.sem_profile.specs.declared.profile.CrcArguments.{CrcArguments}
use Rattle.sem_profile.specs.Faults.{about}
use Rattle.text_statements.specs.declared.term.TermKind.TheVariants as kind
use Rattle.text_statements.specs.declared.term.Term.TheVariants.{Number}
use Rattle.text_statements.specs.CrcData.{IsData, data_fault}
use Rattle.text_statements.specs.Judged.{fault_of, first_of}
use Rattle.text_statements.specs.Means.{Means}
use Rattle.text_statements.specs.Names.{Names}
use Rattle.text_statements.specs.declared.arguments.Pair.{Pair}

-- the part means this whole number
abbrev pub IsNumber : Names → Tree → Expr → Type 0
IsNumber s part e = Means s part (Number e)

abbrev pub AreNone : List Tree → Type 0
AreNone arguments = arguments ≡ []

abbrev pub IsSingle : Names → List Tree → Expr → Type 0
IsSingle s arguments e = (x : Tree) × (arguments ≡ x ∷ []) × IsNumber s x e

abbrev pub ArePair : Names → List Tree → Pair → Type 0
ArePair s arguments p = (x : Tree) × (y : Tree) × (arguments ≡ x ∷ y ∷ []) × IsNumber s x p.first × IsNumber s y p.second

pub record AreFive (s : Names) (bits polynomial initial data_part length_part : Tree) (crc : CrcArguments) : Type 0 where
  pub bits_is : IsNumber s bits crc.bits
  pub polynomial_is : IsNumber s polynomial crc.polynomial
  pub initial_is : IsNumber s initial crc.initial
  pub data_is : IsData s data_part record { subject = crc.subject; side = crc.side }
  pub length_is : IsNumber s length_part crc.length

-- five, of which the fourth is data
pub data AreCrc (s : Names) : List Tree → CrcArguments → Type 0 where
  are_crc : {bits polynomial initial data_part length_part : Tree} {crc : CrcArguments} → AreFive s bits polynomial initial data_part length_part crc
      → AreCrc s (bits ∷ polynomial ∷ initial ∷ data_part ∷ length_part ∷ []) crc

abbrev pub AreMany : Names → ℕ → List Tree → List Expr → Type 0
AreMany s count arguments es = (length arguments ≡ count) × AllZip (IsNumber s) arguments es

-- ---- faults

abbrev pub wrong_count : Span → ProfileFault
wrong_count name = about kinds.ArgumentCount name

-- there are more or fewer of them
abbrev pub count_fault : Span → ℕ → List Tree → Option ProfileFault
count_fault name count arguments = if nat_eq (length arguments) count then None else Some (wrong_count name)

-- there are more or fewer, or else the first fault of one
abbrev pub numbers_fault : Names → Span → ℕ → List Tree → Option ProfileFault
numbers_fault s name count arguments = option_or (count_fault name count arguments) (first_of (fault_of kind.Number s) arguments)

-- the first fault of one, the fourth as data
abbrev pub five_fault : Names → Tree → Tree → Tree → Tree → Tree → Option ProfileFault
five_fault s bits polynomial initial data_part length_part =
    option_or (fault_of kind.Number s bits) (option_or (fault_of kind.Number s polynomial) (option_or (fault_of kind.Number s initial)
    (option_or (data_fault s data_part) (fault_of kind.Number s length_part))))

-- there are more or fewer than five, or else the first fault of one
abbrev pub crc_fault : Names → Span → List Tree → Option ProfileFault
crc_fault s name (bits ∷ polynomial ∷ initial ∷ data_part ∷ length_part ∷ []) = five_fault s bits polynomial initial data_part length_part
crc_fault s name _ = Some (wrong_count name)
