use Rattle.tool_words.specs.Words.{program}
use Rattle.tool_words.proofs.command_line.program.Goals as goal

pub returns : goal.returns
unfolding program
returns c =
    let one = c.added-one.ensures _ _ c.header_program.ensures c.with_top-show.ensures in
    let two = c.added-two.ensures _ _ one c.with_strict-lint.ensures in
    let three = c.added-three.ensures _ _ two c.with_drawing-draw.ensures in
    let four = c.added-four.ensures _ _ three c.with_explain-check.ensures in
    let five = c.added-five.ensures _ _ four c.with_explain-prove.ensures in
    c.added.ensures _ _ five c.with_line-line.ensures
