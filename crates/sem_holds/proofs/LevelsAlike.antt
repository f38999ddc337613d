-- Under numbers that give a format's expressions the same values, the same fields fit.
use Rattle.std.proofs.Common.{◌≡◌, ◌∙◌, refl, sym, ap, subst, ℕ, List, [], ◌∷◌, Bool}
use Rattle.std.specs.Prelude.{slice_get, Some, ℤ, IsTrue, ◌↔◌, option_map}
use Rattle.sem_expr.specs.declared.expr.Expr.{Expr}
use Rattle.sem_expr.specs.declared.expr.Side.{Side}
use Rattle.sem_expr.specs.declared.expr.Subject.{Subject}
use Rattle.sem_expr.specs.declared.known.Known.{Known}
use Rattle.sem_expr.specs.Values.{Assignment, val}
use Rattle.sem_expr.specs.Known.{assignment_of}
use Rattle.sem_library.specs.Methods as lib
use Rattle.sem_profile.specs.declared.profile.Library.{Library}
use Rattle.sem_profile.specs.declared.profile.Library.TheVariants as library
use Rattle.sem_profile.specs.declared.profile.Encoding.{Encoding}
use Rattle.sem_profile.specs.declared.profile.Encoding.TheVariants as encoding
use Rattle.sem_profile.specs.declared.profile.Field.{Field}
use Rattle.sem_profile.specs.declared.profile.Format.{Format}
use Rattle.sem_profile.specs.declared.profile.Method.{Method}
use Rattle.sem_profile.specs.BoundsLaws.{library_exprs, encoding_exprs, in_encoding}
use Rattle.sem_profile.specs.Resolved.{Resolved, IsSound}
use Rattle.sem_filling.specs.declared.filling.Filling.{Filling}
use Rattle.sem_filling.specs.declared.filling.FilledField.{FilledField}
use Rattle.sem_filling.specs.Fillings.{level}
use Rattle.sem_filling.specs.Entries.{Path}
use Rattle.sem_filling.specs.Fits.{Context, Fits, FieldFits, LevelFits, side_of, assigned, method_of, two_values, crc_values, fits, bare, coded, called}
use Rattle.sem_filling.specs.Ready.{AllFit, HasLevel, ArgumentsLieAt}
use Rattle.sem_filling.proofs.FitsValues.{vals_same}
use Rattle.sem_filling.proofs.FitsJudged.{fitting}
use Rattle.sem_holds.proofs.LevelsFit.{ready_level}

pub method_alike : (side : Subject → Side → List Bool) (a b : Assignment) (l : Library) → ((n : ℕ) (e : Expr) → slice_get (library_exprs l) n ≡ Some e → val a e ≡ val b e)
    → method_of side a l ≡ method_of side b l
method_alike side a b (library.UncompressedValue len v) same = λ i. two_values lib.uncompressed_value (same 0 len refl i) (same 1 v refl i)
method_alike side a b (library.CompressedValue len v) same = λ i. two_values lib.compressed_value (same 0 len refl i) (same 1 v refl i)
method_alike side a b (library.Irregular len) same = λ i. option_map lib.irregular (same 0 len refl i)
method_alike side a b library.Static same = refl
method_alike side a b (library.Lsb k offset) same = λ i. two_values lib.lsb (same 0 k refl i) (same 1 offset refl i)
method_alike side a b (library.Crc crc) same =
    ap (crc_values (side crc.subject crc.side)) (vals_same a b (crc.bits ∷ crc.polynomial ∷ crc.initial ∷ crc.length ∷ []) same)

field_alike : {methods : List Method} {ctx : Context} {side : Subject → Side → List Bool} {path : Path} {d : Field} {g : FilledField} (a b : Assignment) (e : Encoding)
    → ((n : ℕ) (x : Expr) → slice_get (encoding_exprs e) n ≡ Some x → val a x ≡ val b x) → FieldFits methods ctx side a path d e g → FieldFits methods ctx side b path d e g
field_alike a b encoding.Bare same (bare short none outer) = bare short none outer
field_alike {side = side} a b (encoding.Library l) same (coded m is related outer) = coded m (sym (method_alike side a b l same) ∙ is) related outer
field_alike a b (encoding.Call k es) same (called args inner values inside fit up down) = called args inner (sym (vals_same a b es same) ∙ values) inside fit up down

-- a level that fits, and all of whose fields fit, is a filling that fits
pub filling_fits : (p : Resolved) → IsSound p → (k : ℕ) (args : List ℤ) (f : Filling) (format : Format) (known : Known) → HasLevel p k args f format known → ArgumentsLieAt p k args
    → (ctx : Context) (path : Path) → LevelFits format f args → (b : Bool) → (IsTrue b ↔ AllFit p.methods ctx path format f (assignment_of known)) → IsTrue b ↔ Fits p.methods ctx k args path f
filling_fits p sound k args f format known has lies ctx path level_fits b same =
    let at = has.level.place.format_is in
    let listing = has.level.place.shaped.listing_is in
    let can = (ready_level p sound k args f format known has lies).1 in
    let a = assignment_of known in
    let whole = assigned format.listing (level f) args in (
      λ t. fits format at level_fits (λ i d g here there.
          field_alike a whole d.encoding (λ n x stands. can.value_is x (in_encoding i n here stands))
          (subst (λ xs. FieldFits p.methods ctx (side_of xs (level f)) a path d d.encoding g) listing (same.0 t i g there d here))),
      λ fit. same.1 (λ i g there d here.
          subst (λ xs. FieldFits p.methods ctx (side_of xs (level f)) a path d d.encoding g) (sym listing)
          (field_alike whole a d.encoding (λ n x stands. sym (can.value_is x (in_encoding i n here stands))) ((fitting format at fit).each i d g here there))),
    )

-- all fields of a filling that fits fit, under the numbers of its level
pub all_fit : (p : Resolved) → IsSound p → (k : ℕ) (args : List ℤ) (f : Filling) (format : Format) (known : Known) → HasLevel p k args f format known → ArgumentsLieAt p k args
    → (ctx : Context) (path : Path) → Fits p.methods ctx k args path f → AllFit p.methods ctx path format f (assignment_of known)
all_fit p sound k args f format known has lies ctx path fit =
    let at = has.level.place.format_is in
    let listing = has.level.place.shaped.listing_is in
    let can = (ready_level p sound k args f format known has lies).1 in
    let a = assignment_of known in
    let whole = assigned format.listing (level f) args in
    λ i g there d here.
    subst (λ xs. FieldFits p.methods ctx (side_of xs (level f)) a path d d.encoding g) (sym listing)
    (field_alike whole a d.encoding (λ n x stands. sym (can.value_is x (in_encoding i n here stands))) ((fitting format at fit).each i d g here there))
