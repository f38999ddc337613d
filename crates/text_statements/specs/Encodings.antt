-- What an encoding of the tree means (RFC 4997, section 4.11), and its first fault.
use Rattle.std.specs.Prelude.{◌≡◌, ℕ, pos, List, Option, None, Some}
use Rattle.text_source.specs.declared.span.Span.{Span}
use Rattle.text_tree.specs.declared.tree.Expr.{Expr as Tree}
use Rattle.text_tree.specs.declared.tree.Encoding.{Encoding as TreeEncoding}
use Rattle.text_tree.specs.declared.tree.Encoding.TheVariants as given
use Rattle.sem_expr.specs.declared.expr.Expr.{Expr}
use Rattle.sem_expr.specs.declared.expr.Expr.TheVariants as expr
use Rattle.sem_profile.specs.declared.fault.ProfileFault.{ProfileFault}
use Rattle.sem_profile.specs.declared.fault.ProfileFaultKind.TheVariants as kinds
use Rattle.sem_profile.specs.declared.profile.CrcArguments.{CrcArguments}
use Rattle.sem_profile.specs.declared.profile.Encoding.{Encoding}
use Rattle.sem_profile.specs.declared.profile.Encoding.TheVariants as encoding
use Rattle.sem_profile.specs.declared.profile.Library.{Library}
use Rattle.sem_profile.specs.declared.profile.Library.TheVariants as library
use Rattle.sem_profile.specs.Faults.{about}
use Rattle.sem_profile.specs.Words.{word}
use Rattle.text_statements.specs.Names.{Names}
use Rattle.text_statements.specs.declared.arguments.Pair.{Pair}
use Rattle.text_statements.specs.declared.callee.Callee.{Callee}
use Rattle.text_statements.specs.declared.callee.Callee.TheVariants as callees
use Rattle.text_statements.specs.declared.callee.Methods.{Methods}
use Rattle.text_statements.specs.Arguments.{AreNone, IsSingle, ArePair, AreCrc, AreMany, count_fault, numbers_fault, crc_fault}
use Rattle.text_statements.specs.Callees.{callee, arity}

-- a bit text is a compressed_value of its digits
abbrev pub bit_text : Span → ℕ → ℕ → Library
bit_text at count value = library.CompressedValue (expr.Number at (pos count)) (expr.Number at (pos value))

-- what a name with these arguments means, by what the name stands for
pub data Calls (s : Names) (methods : Methods) : Callee → List Tree → Encoding → Type 0 where
  uncompressed_value : {arguments : List Tree} (p : Pair) → ArePair s arguments p
      → Calls s methods callees.UncompressedValue arguments (encoding.Library (library.UncompressedValue p.first p.second))
  compressed_value : {arguments : List Tree} (p : Pair) → ArePair s arguments p
      → Calls s methods callees.CompressedValue arguments (encoding.Library (library.CompressedValue p.first p.second))
  irregular : {arguments : List Tree} {e : Expr} → IsSingle s arguments e → Calls s methods callees.Irregular arguments (encoding.Library (library.Irregular e))
  static : {arguments : List Tree} → AreNone arguments → Calls s methods callees.Static arguments (encoding.Library library.Static)
  lsb : {arguments : List Tree} (p : Pair) → ArePair s arguments p → Calls s methods callees.Lsb arguments (encoding.Library (library.Lsb p.first p.second))
  crc : {arguments : List Tree} {c : CrcArguments} → AreCrc s arguments c → Calls s methods callees.Crc arguments (encoding.Library (library.Crc c))
  own : {k : ℕ} {arguments : List Tree} {es : List Expr} → AreMany s (arity methods (callees.Own k)) arguments es → Calls s methods (callees.Own k) arguments (encoding.Call k es)

pub data Means (s : Names) (methods : Methods) : TreeEncoding → Encoding → Type 0 where
  bits : {at : Span} {count value : ℕ} → Means s methods (given.Bits at count value) (encoding.Library (bit_text at count value))
  call : {name : Span} {arguments : List Tree} {e : Encoding} (c : Callee) → callee methods (word s.text name) ≡ Some c → Calls s methods c arguments e
      → Means s methods (given.Call name arguments) e

-- ---- faults

abbrev pub unknown : Span → ProfileFault
unknown name = about kinds.UnknownName name

abbrev pub call_fault : Names → Methods → Span → Callee → List Tree → Option ProfileFault
call_fault s methods name callees.UncompressedValue arguments = numbers_fault s name 2 arguments
call_fault s methods name callees.CompressedValue arguments = numbers_fault s name 2 arguments
call_fault s methods name callees.Irregular arguments = numbers_fault s name 1 arguments
call_fault s methods name callees.Static arguments = count_fault name 0 arguments
call_fault s methods name callees.Lsb arguments = numbers_fault s name 2 arguments
call_fault s methods name callees.Crc arguments = crc_fault s name arguments
call_fault s methods name (callees.Own k) arguments = numbers_fault s name (arity methods (callees.Own k)) arguments

abbrev pub callee_fault : Names → Methods → Span → Option Callee → List Tree → Option ProfileFault
callee_fault s methods name (Some c) arguments = call_fault s methods name c arguments
callee_fault s methods name None arguments = Some (unknown name)

-- the name is not known, or else the first fault by what it stands for
abbrev pub fault_of : Names → Methods → TreeEncoding → Option ProfileFault
fault_of s methods (given.Bits at count value) = None
fault_of s methods (given.Call name arguments) = callee_fault s methods name (callee methods (word s.text name)) arguments
