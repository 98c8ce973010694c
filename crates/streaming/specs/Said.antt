-- What `feed_symbol` and `flush` answer, and what they leave, for every state and symbol. Definitions only.
use Rattle.std.specs.Prelude.{cond, List, [], ◌∷◌, ◌≡◌, ℕ, ltb, Float, length, Option, Some, None, Result, Ok, Err}
use Rattle.f32s.specs.Single.{within}
use Rattle.refusal.specs.declared.Refusal.{Refusal}
use Rattle.refusal.specs.Answer.{Said, accepted, refused, refuse_when, number_of, place_of}
use Rattle.refusal.specs.Numbers.{short_output, bad_component}
use Rattle.trellis.specs.declared.ConvCode.{ConvCode}
use Rattle.streaming.specs.Stream.{State, fed, given}
use Rattle.streaming.specs.Run.{flushed, flush_gives}

-- one thing for an accepted symbol, or one for a bad re, or for a bad im
abbrev pub of_symbol : {A : Type 0} → (re im : Float) → (good bad_re bad_im : A) → A
of_symbol re im good bad_re bad_im = cond (within re) (cond (within im) good bad_im) bad_re

module _ (code : ConvCode) (lag : ℕ) (st : State) where
  -- no bit or one; or refusal 7, where re is place 0 and im place 1
  unfoldable pub feed_said : Float → Float → Said (List ℕ)
  unfolding fed given
  feed_said re im =
      of_symbol re im (accepted (given code lag (fed code lag st re im))) (refused bad_component 0)
      (refused bad_component 1)

  -- a refusal leaves the state as it was
  unfoldable pub feed_leaves : Float → Float → State
  unfolding fed
  feed_leaves re im = of_symbol re im (fed code lag st re im) st st

  -- how many bits were written; or refusal 4, where there is room for fewer than the lag
  unfoldable pub flush_said : ℕ → Said ℕ
  unfolding flush_gives
  flush_said room = refuse_when (ltb room lag) short_output (accepted (length (flush_gives code lag st)))

  unfoldable pub flush_leaves : ℕ → State
  unfolding flushed
  flush_leaves room = cond (ltb room lag) st (flushed code lag st)

-- no bit, or one, or the refusal's number and place
abbrev pub emitted_said : Result (Option ℕ) Refusal → Said (List ℕ)
emitted_said (Ok (Some b)) = accepted (b ∷ [])
emitted_said (Ok None) = accepted []
emitted_said (Err r) = refused (number_of r) (place_of r)

-- the bits of an answer: none of a refused symbol
abbrev pub bits_in : Said (List ℕ) → List ℕ
bits_in (accepted bits) = bits
bits_in (refused number place) = []

-- how a promise reads a symbol's answer
abbrev pub Emits : Result (Option ℕ) Refusal → Said (List ℕ) → Type 0
Emits r said = emitted_said r ≡ said
