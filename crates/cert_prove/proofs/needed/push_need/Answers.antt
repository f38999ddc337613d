use Rattle.cert_prove.proofs.needed.push_need.Goals as goal

pub returns-in-Inputs : goal.returns-in-Inputs
returns-in-Inputs c = rw c.in-Inputs.is c.push_inputs.ensures

pub returns-in-Arguments : goal.returns-in-Arguments
returns-in-Arguments c = rw c.in-Arguments.is (rw c.as_slice.ensures at c.push_all.ensures)

pub returns-in-Crc : goal.returns-in-Crc
returns-in-Crc c = rw c.in-Crc.is c.push_crc.ensures
