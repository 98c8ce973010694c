-- `encoder::conv_encode`: K5 at rate 1/2 for as many steps as inputs. Assumes nothing.
use mathlib.Core.Path.{refl}
use native.Mathlib.Omega.{arith}
use lib.ListN.{length}
use Rattle.refusal.proofs.Over.{writes_accepted}
use Rattle.encoder.proofs.Checks.{plain_fits}
use Rattle.encoder.proofs.Selected.{length-plain, plain_left}
use Rattle.encoder.proofs.conv_encode.Goals as goal

pub encode_at-requires : goal.encode_at-requires
encode_at-requires c =
    record { chooses = c.choose.ensures; room = omega (arith, length-plain (length c.args.bits.now)) }

pub returns : goal.returns
returns c =
    writes_accepted (plain_fits _ _ (omega arith) (omega arith)) refl (plain_left c.encode_at.ensures)
