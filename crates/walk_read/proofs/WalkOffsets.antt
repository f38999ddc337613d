-- Where a listed field stands, once all listed before it are done.
use Rattle.std.proofs.Common.{◌≡◌, refl, sym, ℕ, Bool, true, false, List, [], ◌∷◌, length}
use Rattle.std.specs.Prelude.{◌&&◌, Some, None, map, if◌then◌else◌}
use Rattle.sem_expr.specs.declared.expr.Side.TheVariants.{Compressed}
use Rattle.sem_profile.specs.declared.profile.Format.{Format}
use Rattle.cert_types.specs.declared.rule.Fact.TheVariants.{Done}
use Rattle.cert_rules.specs.declared.slots.Learnt.{Learnt}
use Rattle.cert_rules.specs.declared.slots.Learnt.TheVariants.{Nothing, Length, Whole}
use Rattle.cert_rules.specs.declared.slots.Slot.{Slot}
use Rattle.cert_rules.specs.Facts.{before}
use Rattle.cert_rules.specs.Rules.{listed_before}
use Rattle.cert_rules.specs.Slots.{has_length, has_bits, learnt_at, knows_all}
use Rattle.cert_rules.specs.Reading.{offset_of}
use Rattle.walk_steps.specs.Joined.{are_measured, joined_length}
use Rattle.walk_steps.proofs.JoinedParts.{whole_joined}

whole_is_measured : (l : Learnt) (x y : Bool) → (has_bits l && x) && y ≡ true → has_length l ≡ true
whole_is_measured Nothing x y h = absurd (cc)
whole_is_measured (Length n) x y h = refl
whole_is_measured (Whole bits) x y h = refl

second : (a b : Bool) → a && b ≡ true → b ≡ true
second true b h = h
second false b h = absurd (cc)

-- fields that are done have known lengths
done_measured : (format : Format) (slots : List Slot) (fields : List ℕ) → knows_all format slots (map Done fields) ≡ true → are_measured slots Compressed fields ≡ true
done_measured format slots [] h = refl
done_measured format slots (i ∷ is) h =
    λ j. whole_is_measured (learnt_at slots i Compressed) _ _ h j && done_measured format slots is (second _ _ h) j

-- The lengths of the fields listed before a field, as a level joins them, are its offset.
pub joined_offset : (format : Format) (slots : List Slot) (i : ℕ) → length slots ≡ length format.fields → knows_all format slots (listed_before format i) ≡ true →
    joined_length slots Compressed (before i format.listing) ≡ Some (offset_of format slots i)
joined_offset format slots i count known =
    let bits = whole_joined (record format { listing = before i format.listing }) slots count Compressed in
    (λ j. if done_measured format slots (before i format.listing) known j then Some (length (sym bits j)) else None)
