use Rattle.std.proofs.Common.{◌≡◌, ◌∙◌, ◌++◌, ap, length, take, append_assoc}
use Rattle.std.specs.Prelude.{nat_lt, string_bytes}
use Rattle.std.proofs.lemmas.Result.{on_ok_weaker}
use Rattle.tool_items.specs.Why.{lines_text, rest_text}
use Rattle.tool_items.proofs.WhyLines.{taken}
use Rattle.tool_items.proofs.why.push_reasons.Goals as goal

pub returns : goal.returns
returns c =
    let xs = c.args.lines.now in
    let p = c.args.profile.now in
    let asked = c.args.asked.now in
    let old = string_bytes c.args.output.now in
    let told = lines_text c.args.octets.now p asked (take 4096 xs) in
    let rest = rest_text (nat_lt 4096 (length xs)) in
    let so : string_bytes c.push_lines.new.output ≡ old ++ told = c.in_ok-push_lines.ensures ∙ (λ i. old ++ lines_text (c.in_ok-places.ensures i) p asked (taken 4096 c.min-end.result xs c.min-end.ensures i)) in
    on_ok_weaker c.push_rest.result (λ e. e ∙ (ap (λ z. z ++ rest) so ∙ append_assoc old told rest)) c.push_rest.ensures
