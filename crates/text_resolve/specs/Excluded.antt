-- A file with a normal form has no cause for a fault.
use Rattle.std.specs.Prelude.{◌≡◌, ℕ, List, Some, None, length}
use Rattle.text_tree.specs.declared.tree.Part.{Part}
use Rattle.sem_expr.specs.declared.interval.Interval.{Interval}
use Rattle.sem_profile.specs.declared.fault.ProfileFault.{ProfileFault}
use Rattle.sem_profile.specs.declared.profile.Method.{Method}
use Rattle.sem_profile.specs.declared.profile.MethodSizes.{MethodSizes}
use Rattle.sem_profile.specs.declared.extent.Extent.{Extent}
use Rattle.sem_profile.specs.Methods.{IsOrder, SizedBefore}
use Rattle.sem_profile.specs.Outcome.{IsFaulty}
use Rattle.sem_profile.specs.Parameters.{RangedFrom}
use Rattle.sem_profile.specs.Resolved.{Resolved}
use Rattle.sem_profile.specs.Uses.{AreReached}
use Rattle.text_resolve.specs.Parts.{method_places}
use Rattle.text_resolve.specs.FileNames.{HeadCause}
use Rattle.text_resolve.specs.ProfileLimits.{IsTooLarge}
use Rattle.text_resolve.specs.Methods.{HaveForm, FormCause}
use Rattle.text_resolve.specs.declared.passes.ReadError.{ReadError}
use Rattle.text_resolve.specs.declared.passes.ReadError.TheVariants as errors
use Rattle.text_resolve.specs.Passes.{Reads, Refuses}
use Rattle.text_resolve.specs.Recursion.{IsRecursive}
use Rattle.text_resolve.specs.Resolved.{top_of, IsNormalForm, Cause}

-- no name is defined twice, and each constant has a value
abbrev pub NoCauseOfHead : Type 0
NoCauseOfHead = (text : List ℕ) (parts : List Part) (name : List ℕ) (p : Resolved) → IsNormalForm text parts name p → (f : ProfileFault) → HeadCause text parts f → ⊥

-- each method has a normal form
abbrev pub NoCauseOfMethods : Type 0
NoCauseOfMethods = (text : List ℕ) (parts : List Part) (name : List ℕ) (p : Resolved) → IsNormalForm text parts name p → (f : ProfileFault) → FormCause text parts f → ⊥

-- there is a top
abbrev pub NoCauseOfTop : Type 0
NoCauseOfTop = (text : List ℕ) (parts : List Part) (name : List ℕ) (p : Resolved) → IsNormalForm text parts name p → top_of text parts name ≡ None → ⊥

-- no call leads back to the method that makes it
abbrev pub NoCauseOfCalls : Type 0
NoCauseOfCalls = (text : List ℕ) (parts : List Part) (name : List ℕ) (p : Resolved) → IsNormalForm text parts name p → (f : ProfileFault) → IsRecursive text parts f → ⊥

-- no call chain, format or message is too large, whatever boxes the normal forms of the methods have
abbrev pub NoCauseOfLimits : Type 0
NoCauseOfLimits = (text : List ℕ) (parts : List Part) (name : List ℕ) (p : Resolved) → IsNormalForm text parts name p
    → (all : List Method) (top : ℕ) → top_of text parts name ≡ Some top → HaveForm text parts (Some top) all → (f : ProfileFault) → IsTooLarge (method_places parts) all top f → ⊥

-- no method that the top reaches is too wide, and no expression in it has a fault, whatever boxes the normal forms have, in whatever order their bounds are found,
-- and whatever stands for the range of a parameter that has none
abbrev pub NoCauseOfBounds : Type 0
NoCauseOfBounds = (text : List ℕ) (parts : List Part) (name : List ℕ) (p : Resolved) → IsNormalForm text parts name p
    → (all kept : List Method) (top : ℕ) (order : List ℕ) → top_of text parts name ≡ Some top → HaveForm text parts (Some top) all → AreReached all top kept → IsOrder kept order
    → (table : List MethodSizes) (none : Interval) → SizedBefore kept order (length order) table → RangedFrom none kept order 0 table → (x : Extent) (f : ProfileFault) → IsFaulty x kept table f → ⊥

-- nothing at all
abbrev pub NoCause : Type 0
NoCause = (text : List ℕ) (parts : List Part) (name : List ℕ) (p : Resolved) → IsNormalForm text parts name p → (f : ProfileFault) → Cause text parts name f → ⊥

-- octets that have a reading are refused only where memory is out
abbrev pub NoRefusal : Type 0
NoRefusal = (octets top : List ℕ) (p : Resolved) → Reads octets top p → (e : ReadError) → Refuses octets top e → e ≡ errors.OutOfMemory
