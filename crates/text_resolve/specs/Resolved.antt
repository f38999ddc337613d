-- The normal form of a file, and why a file has none (docs/NOTATION.md).
use Rattle.std.specs.Prelude.{◌≡◌, ℕ, List, Option, Some, None, length, position}
use Rattle.text_source.specs.declared.span.Span.{Span}
use Rattle.text_tree.specs.declared.tree.Part.{Part}
use Rattle.sem_profile.specs.declared.profile.Method.{Method}
use Rattle.sem_profile.specs.declared.fault.ProfileFault.{ProfileFault}
use Rattle.sem_graph.specs.Calls.{Calls}
use Rattle.sem_graph.specs.Order.{IsOrder}
use Rattle.sem_profile.specs.Methods as bounds
use Rattle.sem_profile.specs.Outcome as sizes
use Rattle.text_resolve.specs.Parts.{methods_of, method_names, method_places}
use Rattle.text_resolve.specs.Twice.{AreDistinct}
use Rattle.text_resolve.specs.FileNames.{HeadCause}
use Rattle.text_resolve.specs.Methods.{HaveForm, FormCause}
use Rattle.text_resolve.specs.Top.{is_top, no_top}
use Rattle.text_resolve.specs.Calls.{graph_of}
use Rattle.text_resolve.specs.Recursion.{IsRecursive}
use Rattle.sem_profile.specs.Asked.{asked_of}
use Rattle.sem_profile.specs.Limits.{IsWithinLimits}
use Rattle.text_resolve.specs.ProfileLimits.{IsTooLarge}
use Rattle.sem_profile.specs.Resolved.{Resolved}
use Rattle.sem_profile.specs.Uses.{AreReached}

-- the place of the top method of this name
abbrev pub top_of : List ℕ → List Part → List ℕ → Option ℕ
top_of text parts name = position (is_top text name) (methods_of parts)

-- an order in which callees come first, by all calls of the text
abbrev pub OrderOfText : List ℕ → List Part → List ℕ → Type 0
OrderOfText text parts order = IsOrder (Calls (graph_of text (method_names text parts) parts)) (length (methods_of parts)) order

-- the profile of methods in their normal forms
pub record IsProfile (all : List Method) (top : ℕ) (p : Resolved) : Type 0 where
  pub top_is : p.top ≡ top
  -- no call chain, format or message is too large
  pub limits : IsWithinLimits all top
  pub reached : AreReached all top p.methods
  pub sized : sizes.AreSizes p.methods p.sizes
  -- the asked fields of the top, with their lengths
  pub asked_are : p.asked ≡ asked_of p.methods p.top

-- why methods in their normal forms, whose names stand at these places, make no profile
pub data ProfileCause (names : List Span) (all : List Method) (top : ℕ) : ProfileFault → Type 0 where
  -- a call chain, a format or a message is too large
  too_large : {f : ProfileFault} → IsTooLarge names all top f → ProfileCause names all top f
  -- a value is too wide or an expression has no range, or a header is too large, in a method that the top reaches
  no_bounds : {f : ProfileFault} (kept : List Method) (order : List ℕ) → AreReached all top kept → bounds.IsOrder kept order → sizes.Cause kept order f → ProfileCause names all top f

-- the normal form of a file with the top of this name
pub record IsNormalForm (text : List ℕ) (parts : List Part) (name : List ℕ) (p : Resolved) : Type 0 where
  -- constants and methods have names of their own
  pub distinct : AreDistinct text parts
  pub top_is : top_of text parts name ≡ Some p.top
  -- each method of the file has its normal form
  pub all : List Method
  pub forms : HaveForm text parts (Some p.top) all
  -- no call leads back
  pub order : List ℕ
  pub ordered : OrderOfText text parts order
  -- those that the top reaches have bounds
  pub profile : IsProfile all p.top p

-- why a file has no normal form
pub data Cause (text : List ℕ) (parts : List Part) (name : List ℕ) : ProfileFault → Type 0 where
  -- a name is defined twice, or a constant has no value
  in_head : {f : ProfileFault} → HeadCause text parts f → Cause text parts name f
  -- a method has no normal form
  in_methods : {f : ProfileFault} → FormCause text parts f → Cause text parts name f
  -- no method without parameters has the name
  has_no_top : top_of text parts name ≡ None → Cause text parts name no_top
  -- a call leads back to the method that makes it
  calls_back : {f : ProfileFault} → IsRecursive text parts f → Cause text parts name f
  -- the methods make no profile
  in_profile : {f : ProfileFault} (all : List Method) (top : ℕ) → top_of text parts name ≡ Some top → HaveForm text parts (Some top) all → ProfileCause (method_places parts) all top f → Cause text parts name f
