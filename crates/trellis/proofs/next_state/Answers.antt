-- `trellis::next_state`: the window halved. Assumes nothing.
use mathlib.Core.Path.{sym, ap, ◌∙◌}
use Prim.Native.Nat.{ℕ, ◌/◌}
use Rattle.trellis.proofs.States.{next_window_half}
use Rattle.trellis.proofs.next_state.Goals as goal

pub returns : goal.returns
returns c =
    let a = c.args in
    ap (λ (n : ℕ). n / 2) c.window_of.ensures ∙ sym (next_window_half a.code c.requires.held.some a.s a.b)
