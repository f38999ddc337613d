use Rattle.std.proofs.Common.{arith}
use Rattle.sem_bits.proofs.Octets.{IsBytes-nil}
use Rattle.std.specs.Prelude.{◌/◌, ◌%◌}
use Rattle.sem_bits.proofs.NumberWindows.{cut_even, cut_over}
use Rattle.sem_bits.proofs.long.cut.Goals as goal
use Rattle.sem_bits.proofs.long.cut.Goals.{then-over-gt0, else-over-gt0}

pub returns : goal.returns
returns c =
    let e = c.in_ok-found.ensures.items in
    let whole = rw e at c.gather.ensures.bits in
    let fits = (rw e at c.gather.ensures.fits) IsBytes-nil in
    elim c.if-over-gt0.branch [
      | then-over-gt0 w ↦
          let h = cut_over c.args.octets.now _ w.push_reserved.new.self.items c.args.from c.args.count (c.args.count / 8) (c.args.count % 8) w.octet_at.result w.front_of.result fits (omega arith) whole w.octet_at.ensures w.front_of.ensures w.push_reserved.ensures.items (omega arith) (omega arith) (omega arith) c.requires.within in
          rw w.found-is h
      | else-over-gt0 w ↦
          let h = cut_even c.args.octets.now c.gather.new.into.items c.args.from c.args.count (c.args.count / 8) fits whole (omega arith) c.requires.within in
          rw w.found-is h
    ]
