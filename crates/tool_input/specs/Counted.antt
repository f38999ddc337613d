-- What a reader may keep of its reads, and a writer of its writes.
use Rattle.std.specs.Prelude.{◌≡◌, ◌==◌, ℕ, ◌+◌, ◌<◌, ◌≤◌, Bool, true, false, Option, Some, None, Result, Ok, Err}

-- the octets that it gave so far, whether it is over, since it has ended or failed, and whether it has failed
pub record Account : Type 0 where
  pub given : ℕ
  pub is_over : Bool
  pub has_failed : Bool

-- 4 MiB
abbrev pub most_octets : ℕ
most_octets = 4194304

-- the reads so far gave so many octets, and the reader isn't over
abbrev pub IsSoFar : Option Account → ℕ → Type 0
IsSoFar None count = Unit {0}
IsSoFar (Some a) count = (a.given ≡ count) × (a.is_over ≡ false)

-- it may be asked for so many octets more: it isn't over, and gives no more than 4 MiB and one octet in all
abbrev pub MayGive : Option Account → ℕ → Type 0
MayGive None room = Unit {0}
MayGive (Some a) room = (a.is_over ≡ false) × (0 < room) × (a.given + room ≤ most_octets + 1)

-- a read that gave so many octets, none at the end, or that failed
abbrev pub after_read : {E : Type 0} → Account → Result ℕ E → Account
after_read a (Ok count) = record { given = a.given + count; is_over = count == 0; has_failed = a.has_failed }
after_read a (Err e) = record { given = a.given; is_over = true; has_failed = true }

-- the account goes on by a read, and none stays none
abbrev pub Counts : {E : Type 0} → Option Account → Option Account → Result ℕ E → Type 0
Counts None new r = new ≡ None
Counts (Some a) new r = new ≡ Some (after_read a r)

-- a read has failed, where that is counted
abbrev pub HasFailed : Option Account → Type 0
HasFailed None = Unit {0}
HasFailed (Some a) = a.has_failed ≡ true

-- ---- writes: whether one failed or took nothing

-- the writer may be asked: none has
abbrev pub MayTake : Option Bool → Type 0
MayTake None = Unit {0}
MayTake (Some is_over) = is_over ≡ false

-- a write that took so many octets, or that failed
abbrev pub after_write : {E : Type 0} → Result ℕ E → Bool
after_write (Ok count) = count == 0
after_write (Err e) = true

-- what is counted goes on by a write, and nothing stays nothing
abbrev pub CountsWrite : {E : Type 0} → Option Bool → Option Bool → Result ℕ E → Type 0
CountsWrite None new r = new ≡ None
CountsWrite (Some is_over) new r = new ≡ Some (after_write r)

-- a write has failed or took nothing, where that is counted
abbrev pub HasStopped : Option Bool → Type 0
HasStopped None = Unit {0}
HasStopped (Some is_over) = is_over ≡ true
