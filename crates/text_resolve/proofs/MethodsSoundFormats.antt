-- A format in its normal form is sound.
use Rattle.std.proofs.Common.{◌≡◌, ◌∙◌, ap, ℕ, ◌<◌, ◌≤◌, List, ◌++◌, length, sym, subst, arith}
use Rattle.std.specs.Prelude.{Some, slice_get, map, true}
use Rattle.std.specs.List.{AllByRecursion}
use Rattle.std.proofs.lemmas.List.{length-map}
use Rattle.text_tree.specs.declared.tree.Section.{Section}
use Rattle.sem_expr.specs.declared.expr.Expr.{Expr}
use Rattle.sem_expr.specs.Inputs.{inputs_of, condition_inputs_of}
use Rattle.sem_profile.specs.declared.profile.Constraint.TheVariants.{Bracket, Enforce}
use Rattle.sem_profile.specs.declared.profile.Encoding.{Encoding}
use Rattle.sem_profile.specs.declared.profile.Encoding.TheVariants as encoding
use Rattle.sem_profile.specs.declared.profile.Field.{Field}
use Rattle.sem_profile.specs.declared.profile.Format.{Format}
use Rattle.sem_profile.specs.declared.profile.Method.{Method}
use Rattle.sem_profile.specs.Words.{word}
use Rattle.text_sections.specs.declared.mention.Mention.{Mention}
use Rattle.text_sections.specs.declared.mention.Group.TheVariants as groups
use Rattle.text_sections.specs.Fields.{place}
use Rattle.text_sections.specs.Mentions.{is_in, mentions_in, names_of}
use Rattle.text_statements.specs.declared.callee.Callee.TheVariants as callees
use Rattle.text_statements.specs.declared.callee.Methods.{Methods}
use Rattle.text_statements.specs.Callees.{arity}
use Rattle.sem_profile.specs.BoundsLaws.{encoding_exprs, StandsIn, in_encoding, in_bracket}
use Rattle.text_methods.specs.declared.drafts.Setting.{Setting}
use Rattle.text_methods.specs.Constraints.{statements}
use Rattle.text_methods.specs.Drafts.{own, fields, scope, chosen}
use Rattle.text_methods.specs.Formats.{IsFormat}
use Rattle.sem_profile.specs.WellFormed.{IsWithin, FormatIsSound}
use Rattle.text_resolve.proofs.MethodsWithin.{ScopeIsWithin, are_within, all_at}
use Rattle.text_resolve.proofs.MethodsConstrained.{ExprIsWithin, ConstraintIsWithin, AreConstrained, constraints_are_within}
use Rattle.text_resolve.proofs.MethodsEncoded.{EncodingIsWithin, AreEncoded, fields_are_encoded, joined_length}
use Rattle.text_resolve.proofs.MethodsFirstNames.{last_are_placed}
use Rattle.text_resolve.proofs.MethodsChosen.{field_of}
use Rattle.text_resolve.proofs.MethodsFielded.{IsJudged, IsOwn, choice, listed_once, listed_encoded, initial_kept, refers_kept}

-- each method of a name is there, with as many parameters as its name takes arguments
abbrev pub AreThere : Methods → List Method → Type 0
AreThere named methods = (k : ℕ) → k < length named.names.now → (callee : Method) × (slice_get methods k ≡ Some callee) × (arity named (callees.Own k) ≡ length callee.parameters)

exprs_are_within : (fields parameters : ℕ) (named : Methods) (r : Encoding) → EncodingIsWithin fields parameters named r → AllByRecursion (ExprIsWithin fields parameters) (encoding_exprs r)
exprs_are_within fields parameters named encoding.Bare within = tt
exprs_are_within fields parameters named (encoding.Library l) within = within.0
exprs_are_within fields parameters named (encoding.Call k es) within = within.0

stands_within : (fields parameters : ℕ) (named : Methods) (f : Format) → AreConstrained fields parameters f.constraints → AreEncoded fields parameters named f.fields → (e : Expr) → StandsIn f e
    → IsWithin fields parameters e
stands_within fields parameters named f constrained encodings e (in_encoding {d = d} i n at here) =
    let there = all_at (λ (d : Field). EncodingIsWithin fields parameters named d.encoding) f.fields encodings i d at in
    are_within fields parameters (inputs_of e) (all_at (ExprIsWithin fields parameters) (encoding_exprs d.encoding) (exprs_are_within fields parameters named d.encoding there) n e here)
stands_within fields parameters named f constrained encodings e (in_bracket {field = i} {side = side} {lengths = lengths} {place = at_place} j n at here) =
    let there = all_at (ConstraintIsWithin fields parameters) f.constraints constrained j (Bracket i side lengths at_place) at in
    are_within fields parameters (inputs_of e) (all_at (ExprIsWithin fields parameters) lengths there.1 n e here)

-- what the format lists, and its fields, are those of its section
record HasFields (x : Setting) (number : ℕ) (section : Section) (f : Format) : Type 0 where
  judged : IsJudged x
  at : slice_get x.sections.now number ≡ Some section
  kind : is_in groups.Formats section.kind ≡ true
  listing : f.listing ≡ map (place x.text.now (names_of x.text.now (fields x number section))) (own x number section)
  each : (i : ℕ) (d : Field) → slice_get f.fields i ≡ Some d → IsOwn x number section i d

sound_by_parts : (x : Setting) (number : ℕ) (section : Section) (methods : List Method) (parameters : ℕ) (named : Methods) (f : Format) → HasFields x number section f → AreThere named methods
    → AllByRecursion (λ i. i < length f.fields) f.listing → AreConstrained (length f.fields) parameters f.constraints → AreEncoded (length f.fields) parameters named f.fields → FormatIsSound methods parameters f
sound_by_parts x number section methods parameters named f has there listed constrained encodings =
    let constraint = all_at (ConstraintIsWithin (length f.fields) parameters) f.constraints constrained in
    let encoded_at = all_at (λ (d : Field). EncodingIsWithin (length f.fields) parameters named d.encoding) f.fields encodings in
    let stated = λ (n : ℕ). ap (λ is. slice_get is n) (sym has.listing) in
    record {
      listed = λ n i at. all_at (λ i. i < length f.fields) f.listing listed n i at;
      once = λ n m i at_n at_m. listed_once x number section n m i has.judged has.at has.kind (stated n ∙ at_n) (stated m ∙ at_m);
      encoded = λ n i d at_n at bare. listed_encoded x number section n i d has.judged has.at has.kind (stated n ∙ at_n) (has.each i d at) bare;
      initials = λ i d bits at is. initial_kept x number section i d bits has.judged (has.each i d at) is;
      referring = λ i d at refer local. refers_kept x number section i d has.judged has.at has.kind (has.each i d at) refer local;
      bracketed = λ n i side lengths at_place at. (constraint n (Bracket i side lengths at_place) at).0;
      expressions = λ e stands. stands_within (length f.fields) parameters named f constrained encodings e stands;
      conditions = λ n c at_place at. are_within (length f.fields) parameters (condition_inputs_of c) (constraint n (Enforce c at_place) at);
      crcs = λ i n d c at is. (subst (EncodingIsWithin (length f.fields) parameters named) is (encoded_at i d at)).1 n;
      calls = λ i k d arguments at is.
          let call = subst (EncodingIsWithin (length f.fields) parameters named) is (encoded_at i d at) in
          let callee = there k call.1.0 in
          (callee.0, callee.1, call.1.1 ∙ callee.2);
    }

pub format_is_sound : (x : Setting) (number : ℕ) (section : Section) (f : Format) (methods : List Method) (parameters : ℕ) → length x.parameters.now ≤ parameters → AreThere x.methods.now methods
    → IsJudged x → slice_get x.sections.now number ≡ Some section → is_in groups.Formats section.kind ≡ true → IsFormat x number section f → FormatIsSound methods parameters f
format_is_sound x number section f methods parameters few there judged at kind form =
    let text = x.text.now in
    let all = fields x number section in
    let s = scope x number section in
    let chosen_for = choice x number section in
    let count : length f.fields ≡ length all = ap length form.fields_are ∙ joined_length x all form.encodings in
    let within : ScopeIsWithin s (length f.fields) parameters =
    record { of_fields = omega (arith, count, length-map all (λ (m : Mention). word text m.name)); of_parameters = few } in
    let listed = last_are_placed text (mentions_in text groups.Header 0 x.sections.now ++ mentions_in text groups.Control 0 x.sections.now) (own x number section) in
    let has : HasFields x number section f = record {
      judged = judged;
      at = at;
      kind = kind;
      listing = form.listing_is;
      each = λ i d here. field_of x s x.methods.now x.sections.now chosen_for all form.encodings form.encoded i d (ap (λ ds. slice_get ds i) (sym form.fields_are) ∙ here);
    } in
    sound_by_parts x number section methods parameters x.methods.now f has there
    (subst (λ ns. AllByRecursion (λ i. i < length f.fields) ns) (sym form.listing_is)
    (subst (λ n. AllByRecursion (λ i. i < n) (map (place text (names_of text all)) (own x number section))) (sym count) listed))
    (constraints_are_within s (length f.fields) parameters within (statements s (chosen x number section) x.sections.now section.items) f.constraints form.constraints_are)
    (subst (AreEncoded (length f.fields) parameters x.methods.now) (sym form.fields_are)
    (fields_are_encoded x s (length f.fields) parameters x.methods.now x.sections.now within chosen_for all form.encodings form.encoded))
