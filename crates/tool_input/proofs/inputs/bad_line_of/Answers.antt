use Rattle.tool_input.proofs.inputs.bad_line_of.Goals as goal

pub returns-in-NotText : goal.returns-in-NotText
returns-in-NotText c = λ octets h. let g = rw c.in-NotText.is at h in (g.0, g.1)
