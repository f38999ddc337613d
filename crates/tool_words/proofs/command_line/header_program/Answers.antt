use Rattle.tool_words.proofs.command_line.header_program.Goals as goal

pub returns : goal.returns
returns c =
    let one = c.added-one.ensures _ _ c.bare_program.ensures c.with_sending-pack.ensures in
    let two = c.added-two.ensures _ _ one c.with_flags-unpack.ensures in
    let three = c.added-three.ensures _ _ two c.with_items-fields.ensures in
    let four = c.added-four.ensures _ _ three c.with_reasons-why.ensures in
    let five = c.added-five.ensures _ _ four c.with_checks-stats.ensures in
    let six = c.added-six.ensures _ _ five c.with_losses-loss.ensures in
    c.added.ensures _ _ six c.with_lost-advise.ensures
