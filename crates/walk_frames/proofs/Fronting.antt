-- What stands at the front of octets.
use Rattle.std.proofs.Common.{◌≡◌, ◌∙◌, refl, sym, ap, subst, ℕ, zero, suc, ◌+◌, ◌-◌, ◌*◌, ◌/◌, ◌%◌, ◌<◌, ◌≤◌, ◌^◌, ◌⊎◌, inl, inr, Bool, true, false, nat_lt, List, [], ◌∷◌, ◌++◌, length, take, drop, replicate, arith}
use Rattle.std.specs.Prelude.{Option, Some, None, slice_get, slice_range}
use Rattle.std.proofs.lemmas.Bool.{cases_lt, ltb-true, lt-ltb}
use Rattle.std.proofs.lemmas.List.{append-nil, length-append, length-replicate, length-take-le, take-append-drop}
use Rattle.walk_frames.specs.Frames.{Frame, packet, overlong, reset, frame_octets, length_octets, reset_octet, flow_limit, IsFrame, IsBegun, IsNoFlow}
use Rattle.walk_frames.specs.Fronts.{StandsTo, BeginsNone, body}

pub is_not : (a b : ℕ) → b ≤ a → nat_lt a b ≡ false
is_not a b above = by (nat_lt a b) refl
  where
    by : (is : Bool) → nat_lt a b ≡ is → nat_lt a b ≡ false
    by true e = let under = ltb-true a b e in absurd (omega (arith, under, above))
    by false e = e

-- ---- lengths

pub short_octets : (n : ℕ) → n < 128 → length_octets n ≡ n ∷ []
short_octets n under = rw (lt-ltb n 128 under) refl

pub long_octets : (n h l : ℕ) → 128 ≤ n → 128 ≤ h → l < 256 → n ≡ (h - 128) * 256 + l → length_octets n ≡ h ∷ l ∷ []
long_octets n h l long high low is =
    let first : 128 + n / 256 ≡ h = omega (arith, is, high, low) in
    let second : n % 256 ≡ l = omega (arith, is, high, low) in
    rw (is_not n 128 long) (λ i. first i ∷ second i ∷ [])

-- ---- the first octet

pub begun_none : (xs : List ℕ) → slice_get xs 0 ≡ None → IsBegun xs
begun_none [] none = record { frame = reset 0; is_frame = omega arith; more = 128 ∷ []; some = omega arith; octets_are = refl }
begun_none (x ∷ xs) none = absurd (cc)

pub reset_stands : (xs : List ℕ) (x : ℕ) → slice_get xs 0 ≡ Some x → 128 ≤ x → x - 128 < 64 → StandsTo xs (reset (x - 128)) 1
reset_stands [] x at above under = absurd (cc)
reset_stands (y ∷ xs) x at above under =
    let same : y ≡ x = cc in
    let is : y ≡ 128 + (x - 128) = omega (arith, same, above) in
    record { is_frame = under; rest = xs; octets_are = ap (λ z. z ∷ xs) is; to_is = refl }

pub no_flow : (xs : List ℕ) (x : ℕ) → slice_get xs 0 ≡ Some x → 64 ≤ x → ((flow : ℕ) → flow < 64 → x ≡ 128 + flow → ⊥) → BeginsNone xs
no_flow [] x at above none = absurd (cc)
no_flow (y ∷ xs) x at above none = let same : x ≡ y = cc in record { octet = x; rest = xs; octets_are = ap (λ z. z ∷ xs) (sym same); none = (above, none) }

pub first_is : (xs : List ℕ) (x : ℕ) → slice_get xs 0 ≡ Some x → (rest : List ℕ) × (xs ≡ x ∷ rest)
first_is [] x at = absurd (cc)
first_is (y ∷ xs) x at = let same : y ≡ x = cc in (xs, ap (λ z. z ∷ xs) same)

-- ---- a packet

begun_by : (xs more : List ℕ) (frame : Frame) → IsFrame frame → 0 < length more → frame_octets frame ≡ xs ++ more → IsBegun xs
begun_by xs more frame is some are = record { frame = frame; is_frame = is; more = more; some = some; octets_are = are }

second_is : (xs rest : List ℕ) (flow n : ℕ) → xs ≡ flow ∷ rest → slice_get xs 1 ≡ Some n → (more : List ℕ) × (xs ≡ flow ∷ n ∷ more)
second_is xs rest flow n is at = by rest is (subst (λ z. slice_get z 1 ≡ Some n) is at)
  where
    by : (rest : List ℕ) → xs ≡ flow ∷ rest → slice_get (flow ∷ rest) 1 ≡ Some n → (more : List ℕ) × (xs ≡ flow ∷ n ∷ more)
    by [] is at = absurd (cc)
    by (x ∷ more) is at = let same : x ≡ n = cc in (more, is ∙ ap (λ z. flow ∷ z ∷ more) same)

third_is : (xs more : List ℕ) (flow n l : ℕ) → xs ≡ flow ∷ n ∷ more → slice_get xs 2 ≡ Some l → (last : List ℕ) × (xs ≡ flow ∷ n ∷ l ∷ last)
third_is xs more flow n l is at = by more is (subst (λ z. slice_get z 2 ≡ Some l) is at)
  where
    by : (more : List ℕ) → xs ≡ flow ∷ n ∷ more → slice_get (flow ∷ n ∷ more) 2 ≡ Some l → (last : List ℕ) × (xs ≡ flow ∷ n ∷ l ∷ last)
    by [] is at = absurd (cc)
    by (x ∷ last) is at = let same : x ≡ l = cc in (last, is ∙ ap (λ z. flow ∷ n ∷ z ∷ last) same)

pub begun_one : (xs rest : List ℕ) (flow : ℕ) → flow < 64 → xs ≡ flow ∷ rest → slice_get xs 1 ≡ None → IsBegun xs
begun_one xs rest flow under is none = by rest is (subst (λ z. slice_get z 1 ≡ None) is none)
  where
    by : (rest : List ℕ) → xs ≡ flow ∷ rest → slice_get (flow ∷ rest) 1 ≡ None → IsBegun xs
    by [] is none = subst IsBegun (sym is) (begun_by (flow ∷ []) (0 ∷ []) (packet flow []) (under, omega arith) (omega arith) refl)
    by (x ∷ more) is none = absurd (cc)

-- the octets of a packet of up to 127
module _ (flow n : ℕ) (small : flow < 64) (under : n < 128) where
  short_is : (b : List ℕ) → length b ≡ n → frame_octets (packet flow b) ≡ flow ∷ n ∷ b
  short_is b count = ap (λ k. flow ∷ length_octets k ++ b) count ∙ ap (λ h. flow ∷ h ++ b) (short_octets n under)

  short_frame : (b : List ℕ) → length b ≡ n → IsFrame (packet flow b)
  short_frame b count = (small, omega (arith, count, under))

-- and of a longer one
module _ (flow h l : ℕ) (small : flow < 64) (above : 128 ≤ h) (octet : h < 256) (low : l < 256) where
  long_is : (b : List ℕ) → length b ≡ (h - 128) * 256 + l → 128 ≤ (h - 128) * 256 + l → frame_octets (packet flow b) ≡ flow ∷ h ∷ l ∷ b
  long_is b count long = ap (λ k. flow ∷ k ++ b) (long_octets (length b) h l (omega (arith, count, long)) above low count)

  long_frame : (b : List ℕ) → length b ≡ (h - 128) * 256 + l → IsFrame (packet flow b)
  long_frame b count = (small, omega (arith, count, above, octet, low))

  over_is : (b : List ℕ) → length b ≡ (h - 128) * 256 + l → (h - 128) * 256 + l < 128 → frame_octets (overlong flow b) ≡ flow ∷ h ∷ l ∷ b
  over_is b count short =
      let first : 128 ≡ h = omega (arith, short, above) in
      let second : length b ≡ l = omega (arith, short, above, count) in
      λ i. flow ∷ first i ∷ second i ∷ b

  over_frame : (b : List ℕ) → length b ≡ (h - 128) * 256 + l → (h - 128) * 256 + l < 128 → IsFrame (overlong flow b)
  over_frame b count short = (small, omega (arith, count, short))

  -- octets of which more would make one of these
  long_begun : (xs b more : List ℕ) → xs ++ more ≡ flow ∷ h ∷ l ∷ b → length b ≡ (h - 128) * 256 + l → 0 < length more → IsBegun xs
  long_begun xs b more is count some =
      elim (cases_lt ((h - 128) * 256 + l) 128) [
        | inl short ↦ begun_by xs more (overlong flow b) (over_frame b count short) some (over_is b count short ∙ sym is)
        | inr long ↦ begun_by xs more (packet flow b) (long_frame b count) some (long_is b count long ∙ sym is)
      ]

filled : (xs : List ℕ) (n : ℕ) → length xs ≤ n → length (xs ++ replicate (n - length xs) 0) ≡ n
filled xs n under = length-append xs (replicate (n - length xs) 0) ∙ ap (λ k. length xs + k) (length-replicate (n - length xs) 0) ∙ (omega (arith, under))

pub short_stands : (xs rest : List ℕ) (flow n to : ℕ) → flow < 64 → xs ≡ flow ∷ rest → slice_get xs 1 ≡ Some n → n < 128 → to ≡ 2 + n → to ≤ length xs → StandsTo xs (packet flow (body xs 2 to)) to
short_stands xs rest flow n to small is at under to_is inside =
    let r = second_is xs rest flow n is at in
    let part : body xs 2 to ≡ take n r.0 = ap (λ k. body xs 2 k) to_is ∙ ap (λ z. body z 2 (2 + n)) r.1 ∙ ap (λ k. take k r.0) (omega arith) in
    let e = ap length r.1 in
    let long : 2 + length r.0 ≡ length xs = omega (arith, e) in
    let count : length (take n r.0) ≡ n = length-take-le n r.0 (omega (arith, long, inside, to_is)) in
    let whole : frame_octets (packet flow (take n r.0)) ≡ flow ∷ n ∷ take n r.0 = short_is flow n small under (take n r.0) count in
    subst (λ b. StandsTo xs (packet flow b) to) (sym part) (record {
      is_frame = short_frame flow n small under (take n r.0) count;
      rest = drop n r.0;
      octets_are = r.1 ∙ ap (λ z. flow ∷ n ∷ z) (sym (take-append-drop n r.0)) ∙ ap (λ z. z ++ drop n r.0) (sym whole);
      to_is = let w = ap length whole in omega (arith, to_is, count, w);
    })

pub short_begun : (xs rest : List ℕ) (flow n to : ℕ) → flow < 64 → xs ≡ flow ∷ rest → slice_get xs 1 ≡ Some n → n < 128 → to ≡ 2 + n → length xs < to → IsBegun xs
short_begun xs rest flow n to small is at under to_is outside =
    let r = second_is xs rest flow n is at in
    let e = ap length r.1 in
    let long : 2 + length r.0 ≡ length xs = omega (arith, e) in
    let more : List ℕ = replicate (n - length r.0) 0 in
    let count : length (r.0 ++ more) ≡ n = filled r.0 n (omega (arith, long, outside, to_is)) in
    let some : length more ≡ n - length r.0 = length-replicate (n - length r.0) 0 in
    begun_by xs more (packet flow (r.0 ++ more)) (short_frame flow n small under (r.0 ++ more) count) (omega (arith, some, long, outside, to_is))
    (short_is flow n small under (r.0 ++ more) count ∙ ap (λ z. z ++ more) (sym r.1))

pub begun_two : (xs rest : List ℕ) (flow h : ℕ) → flow < 64 → xs ≡ flow ∷ rest → slice_get xs 1 ≡ Some h → 128 ≤ h → h < 256 → slice_get xs 2 ≡ None → IsBegun xs
begun_two xs rest flow h small is at above octet none = by r.0 r.1 (subst (λ z. slice_get z 2 ≡ None) r.1 none)
  where
    r : (more : List ℕ) × (xs ≡ flow ∷ h ∷ more)
    r = second_is xs rest flow h is at

    by : (more : List ℕ) → xs ≡ flow ∷ h ∷ more → slice_get (flow ∷ h ∷ more) 2 ≡ None → IsBegun xs
    by [] is none =
        let b : List ℕ = replicate ((h - 128) * 256) 0 in
        let count : length b ≡ (h - 128) * 256 + 0 = length-replicate ((h - 128) * 256) 0 ∙ omega arith in
        long_begun flow h 0 small above octet (omega arith) xs b (0 ∷ b) (ap (λ z. z ++ 0 ∷ b) is) count (omega arith)
    by (x ∷ more) is none = absurd (cc)

module _ (xs rest : List ℕ) (flow h l count : ℕ) (small : flow < 64) (is : xs ≡ flow ∷ rest) (at : slice_get xs 1 ≡ Some h) (above : 128 ≤ h) (octet : h < 256) (at_low : slice_get xs 2 ≡ Some l) (low : l < 256) (count_is : count ≡ (h - 128) * 256 + l) where
  last : (last : List ℕ) × (xs ≡ flow ∷ h ∷ l ∷ last)
  last = let r = second_is xs rest flow h is at in third_is xs r.0 flow h l r.1 at_low

  pub begun_long : length xs < 3 + count → IsBegun xs
  begun_long outside =
      let e = ap length last.1 in
      let long : 3 + length last.0 ≡ length xs = omega (arith, e) in
      let more : List ℕ = replicate (count - length last.0) 0 in
      let all : length (last.0 ++ more) ≡ count = filled last.0 count (omega (arith, long, outside)) in
      let some : length more ≡ count - length last.0 = length-replicate (count - length last.0) 0 in
      long_begun flow h l small above octet low xs (last.0 ++ more) more (ap (λ z. z ++ more) last.1) (all ∙ count_is) (omega (arith, some, long, outside))

  stands : (frame : Frame) (inside : 3 + count ≤ length xs) → IsFrame frame → frame_octets frame ≡ flow ∷ h ∷ l ∷ take count last.0 → StandsTo xs frame (3 + count)
  stands frame inside is_frame are =
      let e = ap length last.1 in
      let long : 3 + length last.0 ≡ length xs = omega (arith, e) in
      let all : length (take count last.0) ≡ count = length-take-le count last.0 (omega (arith, long, inside)) in
      record {
        is_frame = is_frame;
        rest = drop count last.0;
        octets_are = last.1 ∙ ap (λ z. flow ∷ h ∷ l ∷ z) (sym (take-append-drop count last.0)) ∙ ap (λ z. z ++ drop count last.0) (sym are);
        to_is = let w = ap length are in omega (arith, all, w);
      }

  part : body xs 3 (3 + count) ≡ take count last.0
  part = ap (λ z. body z 3 (3 + count)) last.1 ∙ ap (λ k. take k last.0) (omega arith)

  taken : 3 + count ≤ length xs → length (take count last.0) ≡ (h - 128) * 256 + l
  taken inside = let e = ap length last.1 in let long : 3 + length last.0 ≡ length xs = omega (arith, e) in length-take-le count last.0 (omega (arith, long, inside)) ∙ count_is

  pub over_stands : 3 + count ≤ length xs → count < 128 → StandsTo xs (overlong flow (body xs 3 (3 + count))) (3 + count)
  over_stands inside short =
      let under : (h - 128) * 256 + l < 128 = omega (arith, count_is, short) in
      subst (λ b. StandsTo xs (overlong flow b) (3 + count)) (sym part)
      (stands (overlong flow (take count last.0)) inside (over_frame flow h l small above octet low (take count last.0) (taken inside) under) (over_is flow h l small above octet low (take count last.0) (taken inside) under))

  pub long_stands : 3 + count ≤ length xs → 128 ≤ count → StandsTo xs (packet flow (body xs 3 (3 + count))) (3 + count)
  long_stands inside long =
      let over : 128 ≤ (h - 128) * 256 + l = omega (arith, count_is, long) in
      subst (λ b. StandsTo xs (packet flow b) (3 + count)) (sym part)
      (stands (packet flow (take count last.0)) inside (long_frame flow h l small above octet low (take count last.0) (taken inside)) (long_is flow h l small above octet low (take count last.0) (taken inside) over))
