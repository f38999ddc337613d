use Rattle.std.proofs.Common.{◌≡◌, ◌≢◌, ℕ, List, ◌+◌, ◌-◌, ◌<◌, ◌≤◌, ◌∷◌, take, drop, length, arith, add-one, get_or}
use Rattle.std.proofs.lemmas.List.{length-take-le}
use Rattle.std.proofs.Math.Seq.{drop-length}
use Rattle.tool_input.specs.Bundle.{full_lines}
use Rattle.tool_input.proofs.BundleLines.{one_line, last_line}
use Rattle.tool_input.proofs.bundle.first_line.Goals as goal

-- the first line ends at the first line feed
up_to : (xs : List ℕ) (n : ℕ) → ((k : ℕ) → k < n → get_or xs k 0 ≢ 10) → n < length xs → get_or xs n 0 ≡ 10 → full_lines xs ≡ take (n + 1) xs ∷ full_lines (drop (length (take (n + 1) xs)) xs)
up_to xs n before within is =
    let fits : n + 1 ≤ length xs = omega (arith, within) in
    let line : full_lines xs ≡ take (n + 1) xs ∷ full_lines (drop (n + 1) xs) = rw add-one (one_line xs n before within is) in
    rw (length-take-le (n + 1) xs fits) line

pub returns-then-input-from-eq10-clause-line : goal.returns-then-input-from-eq10-clause-line
returns-then-input-from-eq10-clause-line c =
    let long : 8 ≤ length c.args.input.now - c.loop-from.from = c.loop-from-test.true in
    let few : c.loop-k.k < 8 = c.loop-k-test.true in
    up_to c.args.input.now (c.loop-from.from + c.loop-k.k) c.loop-k.invariant (omega (arith, long, few)) c.if-input-from-eq10.true

pub returns-then-input-at-eq10-clause-line : goal.returns-then-input-at-eq10-clause-line
returns-then-input-at-eq10-clause-line c = up_to c.args.input.now c.loop-at.at c.loop-at.invariant c.loop-at-test.true c.if-input-at-eq10.true

pub returns-clause-line : goal.returns-clause-line
returns-clause-line c = rw (drop-length) (last_line c.args.input.now (λ k h. c.loop-at.invariant k (omega (arith, h, c.loop-at-test.false))) c.requires)
