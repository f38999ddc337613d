-- What the number of candidates and the greatest length say of the top.
use Rattle.std.proofs.Common.{◌≡◌, ◌∙◌, refl, sym, ap, subst, ℕ, ◌<◌, ◌≤◌, Bool, true, false, List, min, arith}
use Rattle.std.specs.Prelude.{slice_get, Option, Some, None, option_map, nat_lt}
use Rattle.std.proofs.lemmas.Option.{slice_get-map}
use Rattle.std.proofs.lemmas.Bool.Decides.{nat_tests}
use Rattle.sem_profile.specs.declared.profile.Method.{Method}
use Rattle.sem_profile.specs.declared.profile.MethodSizes.{MethodSizes}
use Rattle.cert_types.specs.declared.certificate.Version.{Version}
use Rattle.cert_types.specs.Kept.{Certified, Entries, candidate_limit}
use Rattle.cert_rules.specs.declared.fault.CheckFault.{CheckFault}
use Rattle.cert_rules.specs.declared.fault.CheckFault.TheVariants as check
use Rattle.cert_rules.specs.Refusals as refusals
use Rattle.cert_rules.specs.Capped.{AreCapped, capped}
use Rattle.cert_check.specs.Blaming.{HasFew, IsFirstFault}
use Rattle.cert_check.specs.Right.{AreEntriesRight}
use Rattle.cert_check.specs.Judged.{is_above, is_many, is_long, top_fault, IsTopRight}

is_more : (limit n : ℕ) → nat_lt limit n ≡ true → limit < n
is_more limit n e = grind (arith, nat_tests)

is_no_more : (limit n : ℕ) → nat_lt limit n ≡ false → n ≤ limit
is_no_more limit n e = grind (arith, nat_tests)

above : (limit : ℕ) (o : Option ℕ) → is_above limit o ≡ true → (n : ℕ) × (o ≡ Some n) × (limit < n)
above limit None e = absurd cc
above limit (Some n) e = (n, refl, is_more limit n e)

within : (limit n : ℕ) (o : Option ℕ) → is_above limit o ≡ false → o ≡ Some n → n ≤ limit
within limit n None e is = absurd cc
within limit n (Some m) e is = let same : m ≡ n = cc in subst (λ x. x ≤ limit) same (is_no_more limit m e)

module _ (methods : List Method) (table : List MethodSizes) (top : ℕ) (cert : Entries) (told : List ℕ) (are : AreCapped methods cert told) where
  told_at : slice_get told top ≡ option_map capped (slice_get are.counts top)
  told_at = ap (λ xs. slice_get xs top) are.each ∙ slice_get-map capped are.counts top

  counted_at : (c : ℕ) (o : Option ℕ) → slice_get are.counts top ≡ o → option_map capped o ≡ Some c → (n : ℕ) × (slice_get are.counts top ≡ Some n) × (capped n ≡ c)
  counted_at c None at is = absurd cc
  counted_at c (Some n) at is = (n, at, cc)

  many_refuse : (version : Version) → is_many told top ≡ true → refusals.IsRefused methods table top (record { version = version; methods = cert }) check.TooMany
  many_refuse version e =
      let a = above _ (slice_get told top) e in
      let n = counted_at a.0 (slice_get are.counts top) refl (sym told_at ∙ a.1) in
      let below : min n.0 18446744073709551615 ≡ a.0 = n.2 in
      let more : candidate_limit < a.0 = a.2 in
      refusals.counts_above are.counts n.0 are.are_counts n.1 (omega (arith, below, more))

  few_told : is_many told top ≡ false → (n : ℕ) → slice_get are.counts top ≡ Some n → n ≤ candidate_limit
  few_told e n at =
      let low : min n 18446744073709551615 ≤ candidate_limit = within _ (capped n) (slice_get told top) e (told_at ∙ ap (option_map capped) at) in
      omega (arith, low)

  top_right : is_many told top ≡ false → is_long table top ≡ false → IsTopRight methods table top cert told
  top_right many long = record {
    counted = are;
    few = few_told many;
    short = λ s at. within _ s.whole.compressed.most _ long (ap (option_map (λ (z : MethodSizes). z.whole.compressed.most)) at);
  }

long_refuses : (methods : List Method) (table : List MethodSizes) (top : ℕ) (cert : Certified) → is_long table top ≡ true → refusals.IsRefused methods table top cert check.TooLong
long_refuses methods table top cert e = by (slice_get table top) refl e
  where
    by : (o : Option MethodSizes) → slice_get table top ≡ o → is_above 8192 (option_map (λ (s : MethodSizes). s.whole.compressed.most) o) ≡ true → refusals.IsRefused methods table top cert check.TooLong
    by None at wrong = absurd cc
    by (Some s) at more = refusals.bits_above s at (is_more 8192 s.whole.compressed.most more)

-- ---- as the code has them, where the entries are right

many_refuse_as : (version : Version) (methods : List Method) (table : List MethodSizes) (top : ℕ) (cert : Entries) (told shown : List ℕ) → AreCapped methods cert told → shown ≡ told → true ≡ is_many shown top →
    AreEntriesRight methods table (record { version = version; methods = cert }) → IsFirstFault methods table top (record { version = version; methods = cert }) check.TooMany
many_refuse_as version methods table top cert told shown are same e right = record { refused = many_refuse methods table top cert told are version (ap (λ xs. is_many xs top) (sym same) ∙ sym e); before = right }

has_few : (version : Version) (methods : List Method) (table : List MethodSizes) (top : ℕ) (cert : Entries) (told : List ℕ) → AreCapped methods cert told → is_many told top ≡ false → HasFew methods top (record { version = version; methods = cert })
has_few version methods table top cert told are few = record { counts = are.counts; are_counts = are.are_counts; few = few_told methods table top cert told are few }

long_refuses_as : (version : Version) (methods : List Method) (table : List MethodSizes) (top : ℕ) (cert : Entries) (told shown : List ℕ) → AreCapped methods cert told → shown ≡ told → false ≡ is_many shown top → true ≡ is_long table top →
    AreEntriesRight methods table (record { version = version; methods = cert }) → IsFirstFault methods table top (record { version = version; methods = cert }) check.TooLong
long_refuses_as version methods table top cert told shown are same few e right = record {
  refused = long_refuses methods table top (record { version = version; methods = cert }) (sym e);
  before = record { entries = right; counted = has_few version methods table top cert told are (ap (λ xs. is_many xs top) (sym same) ∙ sym few) };
}

pub top_faulty : (version : Version) (methods : List Method) (table : List MethodSizes) (top : ℕ) (cert : Entries) (told shown : List ℕ) (o : Option CheckFault) (fault : CheckFault) → AreCapped methods cert told → shown ≡ told →
    o ≡ top_fault (is_many shown top) (is_long table top) → o ≡ Some fault → AreEntriesRight methods table (record { version = version; methods = cert }) → IsFirstFault methods table top (record { version = version; methods = cert }) fault
top_faulty version methods table top cert told shown o fault are same found is right = by (is_many shown top) (is_long table top) refl refl (sym found ∙ is)
  where
    whole : Certified
    whole = record { version = version; methods = cert }

    by : (many long : Bool) → is_many shown top ≡ many → is_long table top ≡ long → top_fault many long ≡ Some fault → IsFirstFault methods table top whole fault
    by true long e h f = let at : check.TooMany ≡ fault = cc in subst (IsFirstFault methods table top whole) at (many_refuse_as version methods table top cert told shown are same (sym e) right)
    by false true e h f = let at : check.TooLong ≡ fault = cc in subst (IsFirstFault methods table top whole) at (long_refuses_as version methods table top cert told shown are same (sym e) (sym h) right)
    by false false e h f = absurd cc

pub top_right_as : (methods : List Method) (table : List MethodSizes) (top : ℕ) (cert : Entries) (told shown : List ℕ) (o : Option CheckFault) → AreCapped methods cert told → shown ≡ told → o ≡ top_fault (is_many shown top) (is_long table top) → o ≡ None → IsTopRight methods table top cert told
top_right_as methods table top cert told shown o are same found is = by (is_many shown top) (is_long table top) refl refl (sym found ∙ is)
  where
    by : (many long : Bool) → is_many shown top ≡ many → is_long table top ≡ long → top_fault many long ≡ None → IsTopRight methods table top cert told
    by true long e h f = absurd cc
    by false true e h f = absurd cc
    by false false e h f = top_right methods table top cert told are (ap (λ xs. is_many xs top) (sym same) ∙ e) h
