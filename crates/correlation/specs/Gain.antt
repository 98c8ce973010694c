-- What a branch brings: how its coded pair correlates with what its two places read. Over any arithmetic. Definitions
-- only.
use Rattle.std.specs.Prelude.{cond, List, map, ℕ, eqb}
use Rattle.best_path.specs.Step.{Cell, step}
use Rattle.trellis.specs.declared.ConvCode.{ConvCode}
use Rattle.trellis.specs.Keep.{Keep}
use Rattle.trellis.specs.Places.{value_of, place0, place1}
use Rattle.trellis.specs.State.{window, parity_of}
use Rattle.correlation.specs.Arithmetic.{Arithmetic, Kind}

module _ {A : Type 0} (on : Arithmetic A) where
  -- a+b, a-b, (-a)+b, (-a)-b for the coded pairs 00, 01, 10, 11
  unfoldable pub correlation : A → A → ℕ → ℕ → A
  correlation a b c0 c1 =
      cond (eqb c0 0) (cond (eqb c1 0) (on.plus a b) (on.minus a b))
      (cond (eqb c1 0) (on.plus (on.negative a) b) (on.minus (on.negative a) b))

  -- what the branch from the state s on the input i brings, where a step reads a and b
  unfoldable pub brings : ConvCode → A → A → ℕ → ℕ → A
  unfolding correlation parity_of
  brings code a b s i = correlation a b (parity_of code.g0 (window code s i)) (parity_of code.g1 (window code s i))

  -- what a place reads: 0 where it was deleted or is missing
  abbrev pub read0 : Keep → List A → ℕ → A
  read0 p readings t = value_of on.zero (place0 p readings t)

  abbrev pub read1 : Keep → List A → ℕ → A
  read1 p readings t = value_of on.zero (place1 p readings t)

  -- what the branches of step t bring
  unfoldable pub gain : ConvCode → Keep → List A → ℕ → ℕ → ℕ → A
  unfolding brings place0 place1
  gain code p readings t = brings code (read0 p readings t) (read1 p readings t)

-- a step that reads a and b, from the metrics `old`: the new metrics, and the survivors
module _ {A M : Type 0} (kind : Kind A M) (code : ConvCode) (old : ℕ → M) (a b : A) where
  abbrev stepped : List (Cell M)
  stepped = step kind.op code old (brings kind.on code a b)

  abbrev pub new_mets : List M
  new_mets = map (λ (c : Cell M). c.met) stepped

  abbrev pub new_froms : List ℕ
  new_froms = map (λ (c : Cell M). c.from) stepped
