-- Normal forms without the boxes that hold the parts of expressions: two normal forms that are equal so differ in nothing that the notation speaks of.
use Rattle.std.specs.Prelude.{◌≡◌, ℕ, ℤ, Bool, List, Option, map}
use Rattle.text_source.specs.declared.span.Span.{Span}
use Rattle.text_tree.specs.declared.tree.Part.{Part}
use Rattle.text_tree.specs.declared.tree.Section.{Section}
use Rattle.sem_expr.specs.declared.expr.Attribute.{Attribute}
use Rattle.sem_expr.specs.declared.expr.Comparison.{Comparison}
use Rattle.sem_expr.specs.declared.expr.Cond.{Cond}
use Rattle.sem_expr.specs.declared.expr.Cond.TheVariants.{Constant, Compare, Not', And', Or'}
use Rattle.sem_expr.specs.declared.expr.Expr.{Expr}
use Rattle.sem_expr.specs.declared.expr.Expr.TheVariants as exprs
use Rattle.sem_expr.specs.declared.expr.Expr.TheVariants.{Number, Parameter, Binary'}
use Rattle.sem_expr.specs.declared.expr.Operator.{Operator}
use Rattle.sem_expr.specs.declared.expr.Side.{Side}
use Rattle.sem_expr.specs.declared.expr.Subject.{Subject}
use Rattle.sem_profile.specs.declared.profile.Constraint.{Constraint}
use Rattle.sem_profile.specs.declared.profile.Constraint.TheVariants.{Bracket, Enforce}
use Rattle.sem_profile.specs.declared.profile.Declared.{Declared}
use Rattle.sem_profile.specs.declared.profile.Encoding.{Encoding}
use Rattle.sem_profile.specs.declared.profile.Encoding.TheVariants as encodings
use Rattle.sem_profile.specs.declared.profile.Field.{Field}
use Rattle.sem_profile.specs.declared.profile.Format.{Format}
use Rattle.sem_profile.specs.declared.profile.Library.{Library}
use Rattle.sem_profile.specs.declared.profile.Library.TheVariants as libraries
use Rattle.sem_profile.specs.declared.profile.Method.{Method}
use Rattle.text_methods.specs.declared.drafts.Setting.{Setting}
use Rattle.text_methods.specs.Formats.{IsFormat}
use Rattle.text_resolve.specs.Methods.{HaveForm}

pub data PlainExpr : Type 0 where
  number : Span → ℤ → PlainExpr
  parameter : Span → ℕ → PlainExpr
  attribute : Span → Attribute → PlainExpr
  binary : Span → Operator → PlainExpr → PlainExpr → PlainExpr

abbrev pub plain_expr : Expr → PlainExpr
plain_expr (Number at n) = number at n
plain_expr (Parameter at i) = parameter at i
plain_expr (exprs.Attribute at t) = attribute at t
plain_expr (Binary' at op p x q y) = binary at op (plain_expr x) (plain_expr y)

pub data PlainCond : Type 0 where
  constant : Span → Bool → PlainCond
  compare : Span → Comparison → PlainExpr → PlainExpr → PlainCond
  denial : Span → PlainCond → PlainCond
  conjunction : Span → PlainCond → PlainCond → PlainCond
  disjunction : Span → PlainCond → PlainCond → PlainCond

abbrev pub plain_cond : Cond → PlainCond
plain_cond (Constant at b) = constant at b
plain_cond (Compare at op x y) = compare at op (plain_expr x) (plain_expr y)
plain_cond (Not' at p x) = denial at (plain_cond x)
plain_cond (And' at p x q y) = conjunction at (plain_cond x) (plain_cond y)
plain_cond (Or' at p x q y) = disjunction at (plain_cond x) (plain_cond y)

pub data PlainEncoding : Type 0 where
  bare : PlainEncoding
  uncompressed_value : PlainExpr → PlainExpr → PlainEncoding
  compressed_value : PlainExpr → PlainExpr → PlainEncoding
  irregular : PlainExpr → PlainEncoding
  static : PlainEncoding
  lsb : PlainExpr → PlainExpr → PlainEncoding
  crc : PlainExpr → PlainExpr → PlainExpr → Subject → Side → PlainExpr → PlainEncoding
  call : ℕ → List PlainExpr → PlainEncoding

abbrev pub plain_library : Library → PlainEncoding
plain_library (libraries.UncompressedValue length value) = uncompressed_value (plain_expr length) (plain_expr value)
plain_library (libraries.CompressedValue length value) = compressed_value (plain_expr length) (plain_expr value)
plain_library (libraries.Irregular length) = irregular (plain_expr length)
plain_library libraries.Static = static
plain_library (libraries.Lsb bits offset) = lsb (plain_expr bits) (plain_expr offset)
plain_library (libraries.Crc c) = crc (plain_expr c.bits) (plain_expr c.polynomial) (plain_expr c.initial) c.subject c.side (plain_expr c.length)

abbrev pub plain_encoding : Encoding → PlainEncoding
plain_encoding encodings.Bare = bare
plain_encoding (encodings.Library l) = plain_library l
plain_encoding (encodings.Call k arguments) = call k (map plain_expr arguments)

pub data PlainConstraint : Type 0 where
  bracket : ℕ → Side → List PlainExpr → Span → PlainConstraint
  enforce : PlainCond → Span → PlainConstraint

abbrev pub plain_constraint : Constraint → PlainConstraint
plain_constraint (Bracket i side lengths place) = bracket i side (map plain_expr lengths) place
plain_constraint (Enforce c place) = enforce (plain_cond c) place

pub record PlainField : Type 0 where
  pub declared : Declared
  pub encoding : PlainEncoding
  pub initial : Option (List Bool)

abbrev pub plain_field : Field → PlainField
plain_field d = record { declared = d.declared; encoding = plain_encoding d.encoding; initial = d.initial }

pub record PlainFormat : Type 0 where
  pub name : Option (List ℕ)
  pub fields : List PlainField
  pub listing : List ℕ
  pub constraints : List PlainConstraint

abbrev pub plain_format : Format → PlainFormat
plain_format f = record { name = f.name; fields = map plain_field f.fields; listing = f.listing; constraints = map plain_constraint f.constraints }

pub record PlainMethod : Type 0 where
  pub name : List ℕ
  pub place : Span
  pub parameters : List (List ℕ)
  pub formats : List PlainFormat

abbrev pub plain_method : Method → PlainMethod
plain_method m = record { name = m.name; place = m.place; parameters = m.parameters; formats = map plain_format m.formats }

-- the methods of a file have one normal form, up to boxes
abbrev pub OneForm : Type 0
OneForm = (text : List ℕ) (parts : List Part) (top : Option ℕ) (methods others : List Method) → HaveForm text parts top methods → HaveForm text parts top others
    → map plain_method methods ≡ map plain_method others

-- under one setting a section gives one format, up to boxes
abbrev pub OneFormat : Type 0
OneFormat = (x : Setting) (number : ℕ) (section : Section) (f g : Format) → IsFormat x number section f → IsFormat x number section g → plain_format f ≡ plain_format g
