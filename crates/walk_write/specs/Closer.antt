-- What a closer look tells of a candidate: what is inside its calls is walked by itself.
use Rattle.std.specs.Prelude.{◌≡◌, ℕ, ℤ, true, List, [], drop, slice_get, Some}
use Rattle.sem_expr.specs.declared.expr.Expr.{Expr}
use Rattle.sem_expr.specs.declared.interval.Interval.{Interval}
use Rattle.sem_expr.specs.Rules.{IsIn}
use Rattle.sem_profile.specs.declared.profile.Encoding.TheVariants as encoding
use Rattle.sem_profile.specs.declared.profile.FormatSizes.{FormatSizes}
use Rattle.sem_profile.specs.Resolved.{IsSound}
use Rattle.sem_filling.specs.Bounded.{sizes_at}
use Rattle.sem_filling.specs.Fillings.{is_header}
use Rattle.sem_filling.specs.Fits.{format_at}
use Rattle.cert_accepted.specs.declared.frame.AcceptedFrame.{AcceptedFrame}
use Rattle.walk_write.specs.declared.foresight.CalledField.{CalledField}
use Rattle.walk_write.specs.declared.foresight.Outlook.{Outlook}
use Rattle.walk_write.specs.Foresight.{IsPlaceInside}
use Rattle.cert_compiled.specs.Offsets.{HaveBefore}
use Rattle.walk_write.specs.Sources.{front}
use Rattle.walk_write.specs.Walking.{Fails}

-- it is a header field of the format, and calls the method
pub record IsHeaderCall (o : Outlook) (x : CalledField) : Type 0 where
  pub sound : IsSound o.place.now.accepted.now.profile
  pub format_is : format_at o.place.now.accepted.now.profile.methods o.place.now.frame.method o.index ≡ Some o.format.now
  pub field_is : slice_get o.format.now.fields x.index ≡ Some x.field.now
  pub exprs : List Expr
  pub encoding_is : x.field.now.encoding ≡ encoding.Call x.method exprs
  pub in_header : is_header x.field.now.declared.part ≡ true

-- where the field begins, no filling of the called method that begins the header's bits there has one of so many numbers from c on
pub record FailsInside (o : Outlook) (x : CalledField) (c many : ℕ) : Type 0 where
  pub sizes : FormatSizes
  pub sizes_are : sizes_at o.place.now.accepted.now.profile.sizes o.place.now.frame.method o.index ≡ Some sizes
  pub offset : ℕ
  pub before : HaveBefore o.format.now.fields sizes.fields x.index offset
  pub there : AcceptedFrame
  pub placed : IsPlaceInside o.place.now x.field.now x.method x.arguments.now there
  pub fails : Fails there (drop offset (front o.source.now)) [] c many

-- the number at the place, if there is one, lies in the range there
abbrev pub LiesAt : List Interval → List ℤ → ℕ → Type 0
LiesAt ranges numbers i = (r : Interval) (v : ℤ) → slice_get ranges i ≡ Some r → slice_get numbers i ≡ Some v → IsIn r v
