-- Where a level stands, and that no filling fits a format that can't start.
use Rattle.std.proofs.Common.{◌≡◌, ◌∙◌, ap, ℕ, ◌<◌, ◌≤◌, List, length, arith}
use Rattle.std.specs.Prelude.{Option, Some, None, Result, Ok, Err, IfOk, IfNone, slice_get, ℤ}
use Rattle.std.proofs.lemmas.Option.{slice_get_within}
use Rattle.sem_profile.specs.declared.profile.Format.{Format}
use Rattle.sem_profile.specs.declared.profile.FormatSizes.{FormatSizes}
use Rattle.sem_profile.specs.declared.profile.Method.{Method}
use Rattle.sem_profile.specs.declared.profile.MethodSizes.{MethodSizes}
use Rattle.sem_profile.specs.Outcome.{AreSizes}
use Rattle.sem_profile.proofs.FieldsRuling.{there}
use Rattle.sem_filling.specs.declared.filling.Filling.{Filling, out-Filling}
use Rattle.sem_filling.specs.Fillings.{level}
use Rattle.sem_filling.specs.Entries.{Path}
use Rattle.sem_context.specs.Entries.{bits_at}
use Rattle.sem_filling.specs.Bounded.{sizes_at}
use Rattle.sem_filling.specs.Fits.{Context, Fits, format_at}
use Rattle.sem_filling.proofs.Bounding.{lie-in-bounds, count_sizes}
use Rattle.sem_filling.proofs.FitsInverted.{length-level}
use Rattle.sem_filling.specs.Ready.{ArgumentsLieAt}
use Rattle.sem_filling.proofs.FitsJudged.{fitting, placed, sized}
use Rattle.sem_filling.proofs.FitsLimits.{at_level}
use Rattle.walk_steps.specs.Partial.{IsPlaced, AreUnsent}
use Rattle.sem_profile.specs.Resolved.{Resolved}
use Rattle.cert_accepted.specs.declared.frame.AcceptedFrame.{AcceptedFrame}
use Rattle.cert_accepted.specs.Standing.{NeverFits}

-- the format with its bounds, under arguments in their ranges
pub is_placed : (p : Resolved) → AreSizes p.methods p.sizes → (k n : ℕ) (args : List ℤ) (format : Format) (sizes : FormatSizes) → ArgumentsLieAt p k args →
    format_at p.methods k n ≡ Some format → sizes_at p.sizes k n ≡ Some sizes → IsPlaced format sizes args
is_placed p are k n args format sizes lie at there_is =
    let m = placed p.methods k n format at in
    let s = sized p.sizes k n sizes there_is in
    record {
      methods = p.methods;
      table = p.sizes;
      are_sizes = are;
      method = m.method;
      whole = s.whole;
      at = at_level p.methods p.sizes k n format sizes m s;
      lie = lie s.whole s.whole_at;
    }

-- a fitting filling of the format has no packed bits of a field that isn't listed, so its bounds allow none
pub unsent : (methods : List Method) (table : List MethodSizes) → AreSizes methods table → (ctx : Context) (k n : ℕ) (args : List ℤ) (path : Path) (format : Format) (sizes : FormatSizes) →
    format_at methods k n ≡ Some format → sizes_at table k n ≡ Some sizes → (f : Filling) → Fits methods ctx k args path f → (out-Filling f).format ≡ n → AreUnsent format sizes
unsent methods table are ctx k n args path format sizes at there_is f fit is i b bounds_at unlisted =
    let m = placed methods k n format at in
    let s = sized table k n sizes there_is in
    let here = at_level methods table k n format sizes m s in
    let lf = (fitting format (ap (format_at methods k) is ∙ at) fit).level_fits in
    let lie = (lie-in-bounds methods table are ctx k args path f fit s.whole sizes s.whole_at (ap (slice_get s.whole.formats) is ∙ s.sizes_is)).0 in
    let within : i < length (level f) = omega (arith, slice_get_within sizes.fields i b bounds_at, count_sizes methods table are m.method format s.whole sizes here, length-level format f lf.shaped) in
    let x = there (level f) i within in
    let least : b.compressed.least ≤ length x.0.compressed = (lie.fields i x.0 b x.1 bounds_at).compressed_lies.least in
    omega (arith, least, ap length (lf.unlisted i x.0 x.1 unlisted))

-- a start that answers that there is no level is right: no filling fits
pub never_started : {L E : Type 0} (place : AcceptedFrame) (n : ℕ) (format : Format) (sizes : FormatSizes) → AreSizes place.accepted.now.profile.methods place.accepted.now.profile.sizes →
    format_at place.accepted.now.profile.methods place.frame.method n ≡ Some format → sizes_at place.accepted.now.profile.sizes place.frame.method n ≡ Some sizes → (r : Result (Option L) E) →
    IfOk r (λ o. IfNone o (AreUnsent format sizes → ⊥)) → IfOk r (λ o. IfNone o (NeverFits place n))
never_started place n format sizes are at there_is (Err e) h = tt
never_started place n format sizes are at there_is (Ok (Some l)) h = tt
never_started place n format sizes are at there_is (Ok None) h = λ f fit is.
    h (unsent place.accepted.now.profile.methods place.accepted.now.profile.sizes are (bits_at place.frame.context.now) place.frame.method n place.frame.arguments.now place.frame.path.now format sizes at there_is f fit is)
