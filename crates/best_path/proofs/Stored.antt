-- The butterfly's loop: its turn k stores something of the new states k and k + half. Cut at half, either part of the list
-- gets one store a turn, at k, so in the end the parts begin with the halves of the step. For any list: the metrics are one,
-- the survivors another. Assumes nothing.
use mathlib.Core.List.{List, ◌++◌, map, append-nil, append_assoc}
use mathlib.Core.Path.{◌≡◌, refl, sym, ◌∙◌}
use Prim.Native.Nat.{ℕ, zero, suc, ◌+◌, ◌-◌, ◌*◌, ◌^◌, ◌≤◌, ◌<◌}
use native.Mathlib.Nat.{add_comm}
use native.Mathlib.Numerals.{add-one}
use native.Mathlib.Omega.{arith}
use lib.ListN.{length, get_or, set, take, drop, length-drop, length-map, take-append-drop, drop_of_length-le, get_or-map}
use lib.Seq.{length-take-le, take_all, take-suc, take-set-le, take-set-lt, get_or-take}
use lib.Seq.{drop-cons, drop-drop, drop-set-lt, drop-set-add, get_or-drop, set_at}
use Rattle.trellis.specs.declared.ConvCode.{ConvCode}
use Rattle.trellis.proofs.States.{states_two_halves}
use Rattle.best_path.specs.Metric.{Metric}
use Rattle.best_path.specs.Step.{Cell, unreached, step, best}
use Rattle.best_path.proofs.Visiting.{length-step, step_best}

-- what is stored of a new state
abbrev pub met_of : {M : Type 0} → Cell M → M
met_of c = c.met

abbrev pub cell_from : {M : Type 0} → Cell M → ℕ
cell_from c = c.from

-- `value k b` is stored at k + b * half
unfoldable pub stored : {A : Type 0} → ℕ → (ℕ → ℕ → A) → List A → ℕ → List A
stored half value old zero = old
stored half value old (suc k) = set (set (stored half value old k) k (value k 0)) (k + half) (value k 1)

module _ {A : Type 0} (half : ℕ) (value : ℕ → ℕ → A) (old : List A) where
  pub stored_none : old ≡ stored half value old 0
  unfolding stored
  stored_none = refl

  -- a turn, from what the list is before it
  pub stored_turn :
      (k : ℕ) (list : List A) (x y : A) → list ≡ stored half value old k → x ≡ value k 0 → y ≡ value k 1 →
      set (set list k x) (k + half) y ≡ stored half value old (k + 1)
  unfolding stored
  stored_turn k list x y e p q = rw (add-one k, e, p, q)

-- One part: its turn k stores element k of `new` at k.
module _
    {A : Type 0} (d : A) (n : ℕ) (new : List A) (sized : length new ≡ n) (part : ℕ → List A) (room : n ≤ length (part 0))
    (turn : (k : ℕ) → k < n → part (suc k) ≡ set (part k) k (get_or new k d)) where
  begins_with : (k : ℕ) → k ≤ n → part k ≡ take k new ++ drop k (part 0)
  begins_with zero h = refl
  begins_with (suc k) h =
      let done : length (take k new) ≡ k = length-take-le k new (omega arith) in
      turn k h
      ∙ rw (begins_with k (omega arith), drop-cons (part 0) k d (omega arith), set_at, take-suc new k d (omega arith), append_assoc)

  begins_with_all : part n ≡ new ++ drop n (part 0)
  begins_with_all = begins_with n (omega arith) ∙ rw (take_all n new (omega arith))

module _
    {M B A : Type 0} (op : Metric M B) (code : ConvCode) (some : 0 < code.width) (old : ℕ → M) (gain : ℕ → ℕ → B)
    (of : Cell M → A) where
  abbrev half : ℕ
  half = 2 ^ (code.width - 1)

  abbrev best_of : ℕ → ℕ → A
  best_of k b = of (best op code old gain k b)

  abbrev cells : List (Cell M)
  cells = step op code old gain

  abbrev new : List A
  new = map of cells

  abbrev none : A
  none = of (unreached op)

  two_halves : 2 ^ code.width ≡ half + half
  two_halves = omega (arith, states_two_halves code some)

  length-new : length new ≡ half + half
  length-new = length-map cells of ∙ length-step op code some old gain ∙ two_halves

  best_at : (i k b : ℕ) → i ≡ k + b * half → k < half → b < 2 → best_of k b ≡ get_or new i none
  best_at i k b e h g = rw (e, get_or-map of cells (k + b * half) (unreached op), step_best op code some old gain k b)

  module _ (list : List A) (room : 2 ^ code.width ≤ length list) where
    abbrev after : ℕ → List A
    after = stored half best_of list

    length-lower : length (take half list) ≡ half
    length-lower = length-take-le half list (omega (arith, two_halves))

    -- a turn's second store is past this part
    lower_begins : take half (after half) ≡ take half new ++ drop half (take half list)
    unfolding stored
    lower_begins =
        begins_with_all none half (take half new) (length-take-le half new (omega (arith, length-new))) (λ (k : ℕ). take half (after k))
        (omega (arith, length-lower))
        (λ k h. let past : half ≤ k + half = omega arith in
        rw (take-set-le half, take-set-lt half, get_or-take half, best_at k k 0 (omega arith) h (omega arith)))

    -- its first store is before this one
    upper_begins : drop half (after half) ≡ drop half new ++ drop half (drop half list)
    unfolding stored
    upper_begins =
        begins_with_all none half (drop half new) (omega (arith, length-new, length-drop half new)) (λ (k : ℕ). drop half (after k))
        (omega (arith, two_halves, length-drop half list))
        (λ k h.
        rw (
          add_comm k half,
          drop-set-add half,
          drop-set-lt half,
          get_or-drop half,
          best_at (half + k) k 1 (omega arith) h (omega arith),
        ))

    -- the butterfly's loop comes to the step
    pub stored_step : stored half best_of list half ≡ map of cells ++ drop (2 ^ code.width) list
    stored_step =
        let no_rest = drop_of_length-le (take half list) {i = half} (omega (arith, length-lower)) in
        sym (take-append-drop half (after half))
        ∙ rw (lower_begins, upper_begins, no_rest, append-nil, ← append_assoc, take-append-drop, drop-drop, two_halves)
