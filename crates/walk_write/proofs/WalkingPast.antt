-- Candidates that looks pass by, some after others.
use Rattle.std.proofs.Common.{◌≡◌, refl, sym, subst, ℕ, zero, suc, ◌+◌, ◌<◌, ◌≤◌, Bool, List, inl, inr, arith}
use Rattle.std.proofs.lemmas.Bool.{cases_lt}
use Rattle.std.specs.Prelude.{Some, slice_get}
use Rattle.sem_filling.specs.declared.filling.AskedValue.{AskedValue}
use Rattle.cert_candidates.specs.Codes.{number}
use Rattle.cert_accepted.specs.declared.frame.AcceptedFrame.{AcceptedFrame}
use Rattle.walk_write.specs.Walking.{Fails, Passes}

module _ (place : AcceptedFrame) (source : List Bool) (asked : List AskedValue) where
  pub none_passed : (c : ℕ) → Passes place source asked c c
  none_passed c = record { many = 0; next_is = omega arith; fail = λ l. absurd (omega (arith, l)) }

  -- those that fail are passed
  pub passed : (c many : ℕ) → Fails place source asked c many → Passes place source asked c (c + many)
  passed c many h = record { many = many; next_is = refl; fail = λ l. h }

  -- those up to a number, and those from it on
  pub passed_on : (c next last : ℕ) → Passes place source asked c next → Passes place source asked next last → Passes place source asked c last
  passed_on c next last p q = record {
    many = p.many + q.many;
    next_is = let e = p.next_is in let f = q.next_is in omega (arith, e, f);
    fail = λ l. record {
      some = l;
      within = λ m at. within m at q.many refl l;
      none = λ f begins from to.
          let e = p.next_is in
          elim (cases_lt (number place.accepted.now.profile.methods place.accepted.now.certificate.methods place.accepted.now.counts f place.frame.method) next) [
            | inl below ↦ (p.fail (omega (arith, from, below, e))).none f begins from (omega (arith, below, e))
            | inr over ↦ (q.fail (omega (arith, over, to, e))).none f begins over (omega (arith, to, e))
          ];
    };
  }
    where
      within : (m : ℕ) → slice_get place.accepted.now.counts place.frame.method ≡ Some m → (k : ℕ) → q.many ≡ k → 0 < p.many + q.many → c + (p.many + q.many) ≤ m
      within m at zero is l = let room = (p.fail (omega (arith, l, is))).within m at in omega (arith, room, is)
      within m at (suc k) is l = let e = p.next_is in let room = (q.fail (omega (arith, is))).within m at in omega (arith, room, e)

  -- all from the first number up to the next
  pub fail_between : (c next many : ℕ) → Passes place source asked c next → 0 < many → c + many ≡ next → Fails place source asked c many
  fail_between c next many p some is = let e = p.next_is in let same : p.many ≡ many = omega (arith, e, is) in subst (Fails place source asked c) same (p.fail (subst (λ z. 0 < z) (sym same) some))
