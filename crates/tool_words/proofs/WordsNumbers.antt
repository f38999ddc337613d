-- The numbers that texts spell.
use Rattle.std.proofs.Common.{◌≡◌, ◌≢◌, ◌∙◌, sym, ap, subst, refl, ℕ, ◌<◌, ◌&&◌, Bool, true, false, List, Option, Some, None, nat_lt, arith, if◌then◌else◌, codes, option_map}
use Rattle.std.specs.Prelude.{decimal, option_and_then}
use Rattle.std.specs.Str.{bytes_eq}
use Rattle.std.specs.Str.Parse.{digits_value}
use Rattle.std.proofs.lemmas.Bool.{ltb-true, lt-ltb}
use Rattle.std.proofs.lemmas.Fmt.{decimal_is_IsNumeral}
use Rattle.std.proofs.lemmas.Slice.Eq.{bytes_eq-Decides}
use Rattle.clap.specs.Words.{Row, first_of}
use Rattle.tool_words.specs.declared.words.Command.{Command}
use Rattle.tool_words.specs.declared.words.Command.TheVariants.{Run, Stats, Loss, Why, RobustPack, RobustStats, RobustLoss, RobustWhy, SendFrames}
use Rattle.tool_words.specs.declared.words.Direction.TheVariants.{Pack}
use Rattle.tool_words.specs.declared.words.Counting.{Counting}
use Rattle.tool_words.specs.Words.{Asked, ReadsLost, ReadsMost, ReadsRobust, asked_by, asked_in, bits_spelled, command_asked, command_named, counting_in, counting_of, form_asked, is_set, lost_in, lost_spelled, robust_by, robust_command, why_named, line_named}

both_true : (a b : Bool) → (a && b) ≡ true → (a ≡ true) × (b ≡ true)
both_true true b h = (refl, h)
both_true false b h = absurd cc

given : {A : Type 0} (b : Bool) (x y : A) → (if b then Some x else None) ≡ Some y → (b ≡ true) × (x ≡ y)
given true x y h = (refl, cc)
given false x y h = absurd cc

not_given : {A : Type 0} (b : Bool) (x : A) → ¬ (b ≡ true) → (if b then Some x else None) ≡ None
not_given true x h = absurd (h refl)
not_given false x h = refl

spelled_at : (limit n v : ℕ) (text : List ℕ) → v ≡ n → n < limit → decimal n ≡ text → (if bytes_eq (decimal v) text && nat_lt v limit then Some v else None) ≡ Some n
spelled_at limit n v text e below d =
    subst (λ w. (if bytes_eq (decimal w) text && nat_lt w limit then Some w else None) ≡ Some n) (sym e)
    (λ i. if (bytes_eq-Decides (decimal n) text).1 d i && lt-ltb n limit below i then Some n else None)

-- the digits of a number below 64 spell it
pub spelled_some : (n : ℕ) (text : List ℕ) → n < 64 → decimal n ≡ text → lost_spelled text ≡ Some n
spelled_some n text below d = spelled_at 64 n (digits_value 10 text) text (ap (digits_value 10) (sym d) ∙ (decimal_is_IsNumeral n (omega arith)).1) below d

-- what spells a number is its digits
pub spelled_means : (n : ℕ) (text : List ℕ) → lost_spelled text ≡ Some n → (text ≡ decimal n) × (n < 64)
spelled_means n text h =
    let w = given _ _ _ h in
    let b = both_true _ _ w.0 in
    (sym ((bytes_eq-Decides _ _).0 b.0) ∙ ap decimal w.1, subst (λ x. x < 64) w.1 (ltb-true _ _ b.1))

-- what is the digits of no number below 64 spells none
pub spelled_none : (text : List ℕ) → ((n : ℕ) → n < 64 → text ≡ decimal n → ⊥) → lost_spelled text ≡ None
spelled_none text h = not_given _ _ (λ t.
    let b = both_true _ _ t in
    h (digits_value 10 text) (ltb-true _ _ b.1) (sym ((bytes_eq-Decides _ _).0 b.0)))

-- the same of bits
pub bits_some : (n : ℕ) (text : List ℕ) → n < 65537 → decimal n ≡ text → bits_spelled text ≡ Some n
bits_some n text below d = spelled_at 65537 n (digits_value 10 text) text (ap (digits_value 10) (sym d) ∙ (decimal_is_IsNumeral n (omega arith)).1) below d

bits_mean : (n : ℕ) (text : List ℕ) → bits_spelled text ≡ Some n → (text ≡ decimal n) × (n < 65537)
bits_mean n text h =
    let w = given _ _ _ h in
    let b = both_true _ _ w.0 in
    (sym ((bytes_eq-Decides _ _).0 b.0) ∙ ap decimal w.1, subst (λ x. x < 65537) w.1 (ltb-true _ _ b.1))

pub bits_none : (text : List ℕ) → ((n : ℕ) → n < 65537 → text ≡ decimal n → ⊥) → bits_spelled text ≡ None
bits_none text h = not_given _ _ (λ t.
    let b = both_true _ _ t in
    h (digits_value 10 text) (ltb-true _ _ b.1) (sym ((bytes_eq-Decides _ _).0 b.0)))

number_asked : (rows : List Row) (n : ℕ) (top : List ℕ) → n < 64 → first_of (codes "lost") rows ≡ Some (decimal n) → first_of (codes "robust") rows ≡ None → first_of (codes "top") rows ≡ Some top → command_asked (codes "loss") rows ≡ Some (Loss n)
number_asked rows n top below l plain t =
    let lost : lost_in (first_of (codes "lost") rows) ≡ Some n = ap lost_in l ∙ spelled_some n (decimal n) below refl in
    λ i. option_map (λ (a : Asked). a.command) (asked_by (option_and_then (robust_by (plain i)) (option_map Loss (lost i))) (t i) rows)

other_refused : (rows : List Row) (text : List ℕ) → first_of (codes "lost") rows ≡ Some text → ((n : ℕ) → n < 64 → text ≢ decimal n) → asked_in (Some (codes "loss", rows)) ≡ None
other_refused rows text l other =
    let lost : lost_in (first_of (codes "lost") rows) ≡ None = ap lost_in l ∙ spelled_none text other in
    λ i. asked_by (option_and_then (robust_by (first_of (codes "robust") rows)) (option_map Loss (lost i))) (first_of (codes "top") rows) rows

pub lost_is_read : ReadsLost
lost_is_read = record {
  spelled = λ text n. (spelled_means n text, λ h. spelled_some n text h.1 (sym h.0));
  asks = number_asked;
  refuses = other_refused;
}

-- ---- of the robust sender

-- with the digits of a number the command is that of the robust sender
robust_number : (rows : List Row) (n : ℕ) (command : Command) → n < 64 → first_of (codes "robust") rows ≡ Some (decimal n) → robust_by (first_of (codes "robust") rows) command ≡ robust_command command n
robust_number rows n command below r =
    ap (λ text. robust_by text command) r ∙ ap (option_and_then (robust_command command)) (spelled_some n (decimal n) below refl)

robust_packs : (rows : List Row) (n : ℕ) (top : List ℕ) → n < 64 → first_of (codes "robust") rows ≡ Some (decimal n) → first_of (codes "top") rows ≡ Some top → command_asked (codes "pack") rows ≡ Some (RobustPack n)
robust_packs rows n top below r t =
    let command = robust_number rows n (Run Pack) below r in
    λ i. option_map (λ (a : Asked). a.command) (asked_by (command i) (t i) rows)

robust_counts : (rows : List Row) (n : ℕ) (top : List ℕ) (counting : Counting) → n < 64 → first_of (codes "robust") rows ≡ Some (decimal n) → counting_in rows ≡ Some counting → first_of (codes "top") rows ≡ Some top → command_asked (codes "stats") rows ≡ Some (RobustStats n counting)
robust_counts rows n top counting below r wants t =
    let command : option_and_then (robust_by (first_of (codes "robust") rows)) (option_map Stats (counting_in rows)) ≡ Some (RobustStats n counting) =
    ap (λ x. option_and_then (robust_by (first_of (codes "robust") rows)) (option_map Stats x)) wants ∙ robust_number rows n (Stats counting) below r in
    λ i. option_map (λ (a : Asked). a.command) (asked_by (command i) (t i) rows)

robust_loses : (rows : List Row) (most n : ℕ) (top : List ℕ) → most < 64 → n < 64 → first_of (codes "lost") rows ≡ Some (decimal most) → first_of (codes "robust") rows ≡ Some (decimal n) → first_of (codes "top") rows ≡ Some top → command_asked (codes "loss") rows ≡ Some (RobustLoss most n)
robust_loses rows most n top few below l r t =
    let lost : lost_in (first_of (codes "lost") rows) ≡ Some most = ap lost_in l ∙ spelled_some most (decimal most) few refl in
    let command : option_and_then (robust_by (first_of (codes "robust") rows)) (option_map Loss (lost_in (first_of (codes "lost") rows))) ≡ Some (RobustLoss most n) =
    ap (λ x. option_and_then (robust_by (first_of (codes "robust") rows)) (option_map Loss x)) lost ∙ robust_number rows n (Loss most) below r in
    λ i. option_map (λ (a : Asked). a.command) (asked_by (command i) (t i) rows)

robust_tells : (rows : List Row) (n : ℕ) (top : List ℕ) → n < 64 → first_of (codes "robust") rows ≡ Some (decimal n) → first_of (codes "items") rows ≡ Some (codes "true") → first_of (codes "not") rows ≡ None → first_of (codes "top") rows ≡ Some top → command_asked (codes "why") rows ≡ Some (RobustWhy n)
robust_tells rows n top below r items alone t =
    let command : option_and_then (robust_by (first_of (codes "robust") rows)) (why_named (is_set (first_of (codes "items") rows)) (first_of (codes "not") rows)) ≡ Some (RobustWhy n) =
    (λ i. option_and_then (robust_by (first_of (codes "robust") rows)) (why_named (is_set (items i)) (alone i))) ∙ robust_number rows n (Why Pack) below r in
    λ i. option_map (λ (a : Asked). a.command) (asked_by (command i) (t i) rows)

robust_frames : (rows : List Row) (n : ℕ) (top : List ℕ) → n < 64 → first_of (codes "robust") rows ≡ Some (decimal n) → first_of (codes "frames") rows ≡ Some (codes "true") → first_of (codes "receive") rows ≡ None → first_of (codes "wide") rows ≡ None → first_of (codes "top") rows ≡ Some top → command_asked (codes "line") rows ≡ Some (SendFrames n)
robust_frames rows n top below r frames sends narrow t =
    let command : option_and_then (robust_by (first_of (codes "robust") rows)) (line_named (is_set (first_of (codes "receive") rows)) (is_set (first_of (codes "frames") rows)) (is_set (first_of (codes "wide") rows))) ≡ Some (SendFrames n) =
    (λ i. option_and_then (robust_by (first_of (codes "robust") rows)) (line_named (is_set (sends i)) (is_set (frames i)) (is_set (narrow i)))) ∙ robust_number rows n (SendFrames 0) below r in
    λ i. option_map (λ (a : Asked). a.command) (asked_by (command i) (t i) rows)

-- with another text none is asked for
unspelled : (text : List ℕ) (command : Option Command) → lost_spelled text ≡ None → option_and_then (robust_by (Some text)) command ≡ None
unspelled text None none = refl
unspelled text (Some command) none = ap (option_and_then (robust_command command)) none

robust_refused : (name text : List ℕ) (rows : List Row) → first_of (codes "robust") rows ≡ Some text → ((n : ℕ) → n < 64 → text ≢ decimal n) → asked_in (Some (name, rows)) ≡ None
robust_refused name text rows r other =
    let plain : Option Command = command_named name rows in
    let command : option_and_then (robust_by (first_of (codes "robust") rows)) plain ≡ None = ap (λ x. option_and_then (robust_by x) plain) r ∙ unspelled text plain (spelled_none text other) in
    λ i. asked_by (command i) (first_of (codes "top") rows) rows

pub robust_is_read : ReadsRobust
robust_is_read = record {
  packs = robust_packs;
  counts = robust_counts;
  loses = robust_loses;
  tells = robust_tells;
  frames = robust_frames;
  refuses = robust_refused;
}

-- ---- of the greatest mean

most_asked : (rows : List Row) (n : ℕ) (top : List ℕ) → n < 65537 → first_of (codes "at-most") rows ≡ Some (decimal n) → first_of (codes "robust") rows ≡ None → first_of (codes "top") rows ≡ Some top
    → command_asked (codes "stats") rows ≡ Some (Stats (record { lists_items = is_set (first_of (codes "by-item") rows); needs_all = is_set (first_of (codes "all") rows); most = Some n; form = form_asked (is_set (first_of (codes "json") rows)) }))
most_asked rows n top below m plain t =
    let list = is_set (first_of (codes "by-item") rows) in
    let all = is_set (first_of (codes "all") rows) in
    let form = form_asked (is_set (first_of (codes "json") rows)) in
    let wants : counting_in rows ≡ Some (record { lists_items = list; needs_all = all; most = Some n; form = form }) =
    ap (counting_of form list all) m ∙ ap (option_map (λ bits. record { lists_items = list; needs_all = all; most = Some bits; form = form })) (bits_some n (decimal n) below refl) in
    λ i. option_map (λ (a : Asked). a.command) (asked_by (option_and_then (robust_by (plain i)) (option_map Stats (wants i))) (t i) rows)

most_refused : (rows : List Row) (text : List ℕ) → first_of (codes "at-most") rows ≡ Some text → ((n : ℕ) → n < 65537 → text ≢ decimal n) → asked_in (Some (codes "stats", rows)) ≡ None
most_refused rows text m other =
    let list = is_set (first_of (codes "by-item") rows) in
    let all = is_set (first_of (codes "all") rows) in
    let form = form_asked (is_set (first_of (codes "json") rows)) in
    let wants : counting_in rows ≡ None = ap (counting_of form list all) m ∙ ap (option_map (λ bits. record { lists_items = list; needs_all = all; most = Some bits; form = form })) (bits_none text other) in
    λ i. asked_by (option_and_then (robust_by (first_of (codes "robust") rows)) (option_map Stats (wants i))) (first_of (codes "top") rows) rows

pub most_is_read : ReadsMost
most_is_read = record {
  spelled = λ text n. (bits_mean n text, λ h. bits_some n text h.1 (sym h.0));
  asks = most_asked;
  refuses = most_refused;
}
