-- Why no session was opened.
use Rattle.std.proofs.Common.{◌≡◌, subst, ℕ, List}
use Rattle.std.specs.Prelude.{Option, None, Result, Ok}
use Rattle.std.specs.declared.alloc.AllocError.{AllocError}
use Rattle.cert_accepted.specs.Accepted.{Accepting}
use Rattle.rohcfn_c.specs.Opening.{IsRefused, Judges}

pub not_opened : (top profile certificate line line_new : List ℕ) (said said_new : ℕ) (r : Result (Option Accepting) AllocError) → r ≡ Ok None → said ≡ 0 → Judges top profile certificate r line line_new said said_new →
    IsRefused top profile certificate line line_new said_new
not_opened top profile certificate line line_new said said_new r is zero says =
    let here : Judges top profile certificate (Ok None) line line_new said said_new = subst (λ z. Judges top profile certificate z line line_new said said_new) is says in here zero
