-- A step from the metrics as a decoder holds them, in a list that may be longer and with any default, is the run's. Assumes nothing.
use mathlib.Core.List.{List, ◌++◌, map}
use mathlib.Core.Path.{◌≡◌, sym, ap, ◌∙◌}
use Prim.Native.Nat.{ℕ, ◌+◌, ◌^◌, ◌≤◌, ◌<◌}
use native.Mathlib.Numerals.{add-one}
use native.Mathlib.Omega.{arith}
use lib.ListN.{length, get_or, get_or-append}
use Rattle.trellis.specs.declared.ConvCode.{ConvCode}
use Rattle.best_path.specs.Metric.{Metric}
use Rattle.best_path.specs.Step.{Cell, step}
use Rattle.best_path.specs.Run.{step_from, mets_after, survivors}
use Rattle.best_path.proofs.Survivors.{any-default, step_same, length-mets}

module _ {M B : Type 0} (op : Metric M B) (code : ConvCode) (gains : ℕ → ℕ → ℕ → B) (start : List M) (d : M) where
  -- the list has the metrics after t steps
  abbrev pub Held : List M → ℕ → Type 0
  Held pm t = (s : ℕ) → s < 2 ^ code.width → get_or pm s d ≡ get_or (mets_after op code gains start t) s op.mark

  pub held_whole : (pm : List M) (t : ℕ) → pm ≡ mets_after op code gains start t → 2 ^ code.width ≤ length pm → Held pm t
  held_whole pm t e room s h = any-default pm s d op.mark (omega arith) ∙ ap (λ (l : List M). get_or l s op.mark) e

  module _ (pm : List M) (t : ℕ) (held : Held pm t) (gain : ℕ → ℕ → B) (same : gain ≡ gains t) where
    abbrev stepped : List (Cell M)
    stepped = step op code (λ (s : ℕ). get_or pm s d) gain

    stepped_run : stepped ≡ step_from op code (mets_after op code gains start t) (gains t)
    unfolding step_from
    stepped_run =
        step_same op code (λ (s : ℕ). get_or pm s d) (λ (s : ℕ). get_or (mets_after op code gains start t) s op.mark) gain held
        ∙ ap (step op code (λ (s : ℕ). get_or (mets_after op code gains start t) s op.mark)) same

    pub held_mets : map (λ (c : Cell M). c.met) stepped ≡ mets_after op code gains start (t + 1)
    unfolding mets_after
    held_mets = ap (map (λ (c : Cell M). c.met)) stepped_run ∙ ap (mets_after op code gains start) (sym (add-one t))

    pub held_froms : map (λ (c : Cell M). c.from) stepped ≡ survivors op code gains start t
    unfolding survivors
    held_froms = ap (map (λ (c : Cell M). c.from)) stepped_run

    -- and where the new metrics stand at the front of a list, that holds them
    pub held_next : 0 < code.width → (next rest : List M) → next ≡ map (λ (c : Cell M). c.met) stepped ++ rest → Held next (t + 1)
    held_next some next rest e s h =
        let after = mets_after op code gains start (t + 1) in
        let sized : length after ≡ 2 ^ code.width =
        ap (λ (n : ℕ). length (mets_after op code gains start n)) (add-one t) ∙ length-mets op code some gains start t in
        let within : s < length after = omega (arith, sized, h) in
        ap (λ (l : List M). get_or l s d) (e ∙ ap (λ (l : List M). l ++ rest) held_mets) ∙ get_or-append after rest d s within
        ∙ any-default after s d op.mark within
