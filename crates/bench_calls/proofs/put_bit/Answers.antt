-- `bench_calls::put_bit`, by the kind of the answer. Assumes nothing.
use mathlib.Core.Path.{◌≡◌, ap, ◌∙◌}
use native.Mathlib.Omega.{arith}
use Rattle.std.specs.Prelude.{Some, None, Ok}
use Rattle.bench_calls.proofs.Streamed.{bit_put, nothing_put, refusal_put}
use Rattle.bench_calls.proofs.put_bit.Goals as goal

pub returns-in-Ok-Some : goal.returns-in-Ok-Some
returns-in-Ok-Some c =
    let inner : c.in-Ok-Some.field-0 ≡ Some c.in-Ok-Some.bit = rw c.in-Ok-Some.is at c.in-Ok-Some.field-0-is in
    let whole : c.args.answer ≡ Ok (Some c.in-Ok-Some.bit) = c.in-Ok-Some.is ∙ ap Ok inner in
    bit_put whole (omega arith)

pub returns-in-Ok-None : goal.returns-in-Ok-None
returns-in-Ok-None c =
    let inner : c.in-Ok-None.field-0 ≡ None = rw c.in-Ok-None.is at c.in-Ok-None.field-0-is in
    let whole : c.args.answer ≡ Ok None = c.in-Ok-None.is ∙ ap Ok inner in
    nothing_put whole (omega arith)

pub returns-in-Err : goal.returns-in-Err
returns-in-Err c = refusal_put c.in-Err.is (omega arith)
