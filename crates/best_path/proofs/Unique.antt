-- Of each function that other crates may call, any two outcomes that its contract allows are equal; of a butterfly they stand for
-- the same new states, whatever the order, and of a number that stands for no metric nothing more is said. `Post` is the contract:
-- of what the call is given, what it returns, and what it leaves in each argument. Assumes nothing.
use mathlib.Core.Path.{◌≡◌, sym, ◌∙◌}
use denote.RattleType.{RattleType}
use Rattle.best_path.specs.Pair.{cell_held}
use Rattle.best_path.specs.declared.pair.Wing.{Wing}
use Rattle.best_path.specs.declared.select.Order.{Ghosts}
use Rattle.best_path.proofs.trace.Reads as trace
use Rattle.best_path.proofs.select.better_of.Reads as better_of
use Rattle.best_path.proofs.select.butterfly.Reads as butterfly

pub trace_determined :
    (κs code half rows steps last info out r r' left left' : _) →
    trace.Post κs (code, (half, (rows, (steps, (last, (info, (out, tt))))))) r
    (code, (half, (rows, (steps, (last, (info, (left, tt))))))) →
    trace.Post κs (code, (half, (rows, (steps, (last, (info, (out, tt))))))) r'
    (code, (half, (rows, (steps, (last, (info, (left', tt))))))) →
    left.now ≡ left'.now
trace_determined κs code half rows steps last info out r r' left left' p q = p ∙ sym q

module _
    (O Met : RattleType) (O_laws Met_laws copied : _) (order : Ghosts O.Denot Met.Denot) (order_dict clones clones_dict κs : _) where
  pub better_of_once :
      (z x : _) (r r' : Met.Denot) →
      better_of.Post O Met O_laws Met_laws copied order order_dict clones clones_dict κs (z, (x, tt)) r (z, (x, tt)) →
      better_of.Post O Met O_laws Met_laws copied order order_dict clones clones_dict κs (z, (x, tt)) r' (z, (x, tt)) → r ≡ r'
  better_of_once z x r r' p q = p ∙ sym q

  pub butterfly_once :
      (m0 m1 s x y : _) (r r' : Wing Met.Denot) →
      butterfly.Post O Met O_laws Met_laws copied order order_dict clones clones_dict κs (m0, (m1, (s, (x, (y, tt))))) r
      (m0, (m1, (s, (x, (y, tt))))) →
      butterfly.Post O Met O_laws Met_laws copied order order_dict clones clones_dict κs (m0, (m1, (s, (x, (y, tt))))) r'
      (m0, (m1, (s, (x, (y, tt))))) →
      (cell_held order.held r.low ≡ cell_held order.held r'.low) × (cell_held order.held r.high ≡ cell_held order.held r'.high)
  butterfly_once m0 m1 s x y r r' p q = (p.led.low ∙ sym q.led.low, p.led.high ∙ sym q.led.high)
