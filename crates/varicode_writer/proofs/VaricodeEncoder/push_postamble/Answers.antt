-- `varicode_writer::VaricodeEncoder::push_postamble`: the gap and the ones where they fit. Assumes nothing.
use mathlib.Core.Path.{sym, ap, ◌∙◌}
use Prim.Native.Nat.{ℕ, ◌+◌}
use Rattle.varicode_writer.specs.Writer.{closing, first_after}
use Rattle.varicode_writer.proofs.Puts.{closing_not_high, puts_refused, puts_done, length-closing, closing_split}
use Rattle.varicode_writer.proofs.VaricodeEncoder.push_postamble.Goals as goal

pub returns-in-Ok : goal.returns-in-Ok
unfolding first_after
returns-in-Ok c =
    let args = c.args in
    puts_done args.self (closing args.n) _ (closing_not_high args.n)
    (length-closing args.self.first args.n ∙ ap (λ (k : ℕ). k + args.n) (sym c.gap_len.ensures))
    c.in-Ok.ensures _ (closing_split args.self.first args.n _ c.gap_len.ensures) c.put_run.ensures c.done.ensures

pub returns-in-Err : goal.returns-in-Err
returns-in-Err c =
    let args = c.args in
    puts_refused args.self (closing args.n) _ (closing_not_high args.n)
    (length-closing args.self.first args.n ∙ ap (λ (k : ℕ). k + args.n) (sym c.gap_len.ensures))
    _ c.in-Err.ensures c.refused.ensures
