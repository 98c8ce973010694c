-- `encoder::encode_at`: each way the code and the pattern are those of the numbers. Assumes nothing.
use mathlib.Core.Path.{◌≡◌, refl}
use native.Mathlib.Omega.{arith}
use Rattle.encoder.proofs.Selected.{same_choice, chosen_ready, chosen_sends}
use Rattle.encoder.proofs.encode_at.Goals as goal

-- K5 at rate 1/2
pub encode-requires : goal.encode-requires
encode-requires c =
    let is-k5 : 0 ≡ c.args.code = omega arith in
    let is-half : 0 ≡ c.args.rate = omega arith in
    chosen_ready (same_choice is-k5 is-half c.choose.ensures) c.requires.room

pub returns-then-code-eq0 : goal.returns-then-code-eq0
returns-then-code-eq0 c =
    let is-k5 : 0 ≡ c.args.code = omega arith in
    let is-half : 0 ≡ c.args.rate = omega arith in
    chosen_sends (same_choice is-k5 is-half c.choose.ensures) c.encode.ensures

-- any code at rate 1/2
pub encode-requires-else-code-eq0 : goal.encode-requires-else-code-eq0
encode-requires-else-code-eq0 c =
    let is-half : 0 ≡ c.args.rate = omega arith in
    chosen_ready (same_choice refl is-half c.choose-else-code-eq0.ensures) c.requires.room

pub returns-else-code-eq0 : goal.returns-else-code-eq0
returns-else-code-eq0 c =
    let is-half : 0 ≡ c.args.rate = omega arith in
    chosen_sends (same_choice refl is-half c.choose-else-code-eq0.ensures) c.encode-else-code-eq0.ensures

-- any
pub encode-requires-else-rate-eq0 : goal.encode-requires-else-rate-eq0
encode-requires-else-rate-eq0 c =
    chosen_ready c.requires.chooses c.requires.room

pub returns-else-rate-eq0 : goal.returns-else-rate-eq0
returns-else-rate-eq0 c =
    chosen_sends c.requires.chooses c.encode-else-rate-eq0.ensures
