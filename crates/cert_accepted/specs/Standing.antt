-- Where a walk fills a method (docs/DEFINITIONS.md, The steps of a walk).
use Rattle.std.specs.Prelude.{◌≡◌, ℕ, ◌+◌, ◌<◌, ◌≤◌, List, length, slice_get, Some, option_and_then}
use Rattle.sem_context.specs.Entries.{bits_at}
use Rattle.sem_filling.specs.declared.filling.Filling.{Filling, out-Filling}
use Rattle.sem_expr.specs.declared.expr.Expr.{Expr}
use Rattle.sem_filling.specs.Bounded.{sizes_at}
use Rattle.sem_filling.specs.Fits.{Fits, format_at}
use Rattle.sem_filling.specs.Ready.{ArgumentsLieAt}
use Rattle.sem_profile.specs.declared.profile.Encoding.TheVariants as encoding
use Rattle.sem_profile.specs.declared.profile.Field.{Field}
use Rattle.sem_profile.specs.declared.profile.Format.{Format}
use Rattle.sem_profile.specs.declared.profile.Method.{Method}
use Rattle.sem_profile.specs.Limits.{Chain}
use Rattle.sem_profile.specs.Uses.{used_graph}
use Rattle.cert_compiled.specs.declared.looks.Looks.{Looks}
use Rattle.cert_compiled.specs.Compiled.{IsLookedBy}
use Rattle.cert_compiled.specs.Single.{IsSingle}
use Rattle.cert_types.specs.declared.certificate.Plans.{Plans}
use Rattle.cert_rules.specs.Counts.{entry_at}
use Rattle.cert_rules.specs.Reading.{start_slots}
use Rattle.cert_rules.specs.Valid.{plans_at}
use Rattle.walk_steps.specs.Partial.{Reached}
use Rattle.walk_steps.specs.declared.level_frame.LevelFrame.{LevelFrame}
use Rattle.cert_accepted.specs.declared.frame.AcceptedFrame.{AcceptedFrame}
use Rattle.cert_accepted.specs.Accepted.{Accepting}

-- the frame is of the accepted profile, the method is one of that, and its arguments lie in the ranges of its parameters
pub record Stands (place : AcceptedFrame) : Type 0 where
  pub profile_is : place.frame.profile.now ≡ place.accepted.now.profile
  pub within : place.frame.method < length place.accepted.now.profile.methods
  pub lie : ArgumentsLieAt place.accepted.now.profile place.frame.method place.frame.arguments.now

-- no chain of calls from the method has more methods, itself among them
abbrev pub HasDepth : AcceptedFrame → ℕ → Type 0
HasDepth place depth = (j n : ℕ) → Chain (used_graph place.accepted.now.profile.methods) place.frame.method n j → n ≤ depth

-- the level is that of a format of the method
pub record IsLevelFrameOf (place : AcceptedFrame) (n : ℕ) (level_frame : LevelFrame) : Type 0 where
  pub profile_is : level_frame.frame.profile.now ≡ place.accepted.now.profile
  pub context_is : level_frame.frame.context.now ≡ place.frame.context.now
  pub method_is : level_frame.frame.method ≡ place.frame.method
  pub arguments_are : level_frame.frame.arguments.now ≡ place.frame.arguments.now
  pub format_is : level_frame.format ≡ n
  pub path_is : level_frame.frame.path.now ≡ place.frame.path.now

-- the level is that of the format at the start of a walk
pub record IsAtStart (place : AcceptedFrame) (n : ℕ) (l : Reached) : Type 0 where
  pub format_is : format_at place.accepted.now.profile.methods place.frame.method n ≡ Some l.format
  pub sizes_are : sizes_at place.accepted.now.profile.sizes place.frame.method n ≡ Some l.sizes
  pub args_are : l.args ≡ place.frame.arguments.now
  pub slots_are : l.slots ≡ start_slots l.format.listing 0 l.format.fields

-- what a look goes over is of that format of the method, both by their indices, of what is accepted
abbrev pub AreLooksOf : Accepting → ℕ → ℕ → Looks → Type 0
AreLooksOf a k n l = (format : Format) → format_at a.profile.methods k n ≡ Some format → IsLookedBy format (sizes_at a.profile.sizes k n) l

-- the format of the method, both by their indices, has one candidate for an item, where it has a write plan
abbrev pub IsSingleOf : Accepting → ℕ → ℕ → Type 0
IsSingleOf a k n =
    (format : Format) (plans : Plans) → format_at a.profile.methods k n ≡ Some format → option_and_then (λ entry. plans_at entry n) (entry_at a.certificate.methods k) ≡ Some plans → IsSingle a.profile.methods a.certificate.methods format plans.write

-- no filling of the format fits here
abbrev pub NeverFits : AcceptedFrame → ℕ → Type 0
NeverFits place n = (f : Filling) → Fits place.accepted.now.profile.methods (bits_at place.frame.context.now) place.frame.method place.frame.arguments.now place.frame.path.now f → (out-Filling f).format ≡ n → ⊥

-- a method that is called has chains of fewer methods than so many, which are two or more
pub record IsShallower (methods : List Method) (j n : ℕ) : Type 0 where
  pub least : 2 ≤ n
  pub below : (i m : ℕ) → Chain (used_graph methods) j m i → m + 1 ≤ n

-- Where no chain of calls from a method has more than so many methods, a method that a field of one of its formats calls has shorter ones.
abbrev pub CallsAreShallower : Type 0
CallsAreShallower = (methods : List Method) (k n : ℕ) → ((j m : ℕ) → Chain (used_graph methods) k m j → m ≤ n) →
    (method : Method) (f i j : ℕ) (format : Format) (d : Field) (es : List Expr) → slice_get methods k ≡ Some method → slice_get method.formats f ≡ Some format →
    slice_get format.fields i ≡ Some d → d.encoding ≡ encoding.Call j es → IsShallower methods j n
