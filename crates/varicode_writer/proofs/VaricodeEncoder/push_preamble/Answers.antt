-- `varicode_writer::VaricodeEncoder::push_preamble`: n zeros where they fit. Assumes nothing.
use Rattle.varicode_writer.specs.Writer.{opening, first_after}
use Rattle.varicode_writer.proofs.Puts.{opening_not_high, puts_refused, puts_done, length-opening, opening_split}
use Rattle.varicode_writer.proofs.VaricodeEncoder.push_preamble.Goals as goal

pub returns-in-Ok : goal.returns-in-Ok
unfolding first_after
returns-in-Ok c =
    let args = c.args in
    puts_done args.self (opening args.n) _ (opening_not_high args.n) (length-opening args.self.first args.n)
    c.in-Ok.ensures _ (opening_split args.self.first args.n) c.put_run.ensures c.done.ensures

pub returns-in-Err : goal.returns-in-Err
returns-in-Err c =
    let args = c.args in
    puts_refused args.self (opening args.n) _ (opening_not_high args.n) (length-opening args.self.first args.n)
    _ c.in-Err.ensures c.refused.ensures
