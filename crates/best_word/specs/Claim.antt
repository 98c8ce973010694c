-- Demand 3: the best word wins, first among equals, and it stays. What is claimed of a word and of a call. Definitions
-- only.
use Rattle.std.specs.Prelude.{false, cond, List, [], ◌∷◌, ◌⊎◌, ◌≡◌, ℕ, ◌^◌, ◌≤◌, Result}
use Rattle.std.specs.Prelude.{◌<◌, eqb, Float, ℤ, pos, neg_ℤ, ◌+ℤ◌, length, get_or, take}
use Rattle.std.specs.Int.Signed.{lt_z}
use Rattle.best_path.specs.Path.{passes, Ahead}
use Rattle.f32s.specs.Whole.{float_of}
use Rattle.forward.specs.Decode.{word}
use Rattle.refusal.specs.declared.Refusal.{Refusal}
use Rattle.refusal.specs.Answer.{answer_said, accepted, refused}
use Rattle.refusal.specs.Numbers.{bad_reading}
use Rattle.trellis.specs.declared.ConvCode.{ConvCode}
use Rattle.trellis.specs.Choice.{code_of, pattern_of}
use Rattle.trellis.specs.Codeword.{steps_of, zero_tailed, codeword}
use Rattle.trellis.specs.Keep.{Keep, coded_length}
use Rattle.best_word.specs.Wholes.{WholeReadings, abs_sum}

-- 01's score: over the kept places the sum of the reading where the codeword has 0, and of its negative where it has 1.
-- Missing readings are 0.
unfoldable pub agreement : List ℕ → List ℤ → ℤ
agreement [] zs = pos 0
agreement (c ∷ cs) [] = pos 0
agreement (c ∷ cs) (z ∷ zs) = cond (eqb c 0) z (neg_ℤ z) +ℤ agreement cs zs

-- an info word: so many bits
pub record InfoWord (info : ℕ) (u : List ℕ) : Type 0 where
  pub sized : length u ≡ info
  pub bits : (i : ℕ) → get_or u i 0 < 2

-- The used readings are the whole numbers zs, and their absolute values sum to at most 2^24.
pub record Exact (code : ConvCode) (p : Keep) (info : ℕ) (readings : List Float) (zs : List ℤ) : Type 0 where
  pub whole : WholeReadings (take (coded_length p (steps_of code info)) readings) zs
  pub small : abs_sum zs ≤ 2 ^ 24

-- Readings moved towards a codeword: not smaller where it has 0, and not larger where it has 1.
pub record Towards (sent : List ℕ) (zs moved : List ℤ) : Type 0 where
  pub at_zero :
      (i : ℕ) → i < length sent →
      get_or sent i 0 ≡ 0 → lt_z (get_or moved i (pos 0)) (get_or zs i (pos 0)) ≡ false
  pub at_one :
      (i : ℕ) → i < length sent →
      get_or sent i 0 ≡ 1 → lt_z (get_or zs i (pos 0)) (get_or moved i (pos 0)) ≡ false

module _ (code : ConvCode) (p : Keep) (info : ℕ) where
  -- how well the codeword of an info word agrees with readings
  abbrev pub score_of : List ℕ → List ℤ → ℤ
  score_of u zs = agreement (codeword code p u) zs

  -- the states that an info word passes through, last step first
  abbrev pub states_of : List ℕ → List ℕ
  states_of u = passes code (zero_tailed code u) (steps_of code info)

  -- what is claimed of a word v for the whole numbers zs
  pub record Wins (zs : List ℤ) (v : List ℕ) : Type 0 where
    pub is_word : InfoWord info v
    -- no equally long word's codeword agrees better
    pub wins : (u : List ℕ) → InfoWord info u → lt_z (score_of v zs) (score_of u zs) ≡ false
    -- among equals it is the one that the tie rule puts first
    pub first :
        (u : List ℕ) → InfoWord info u → score_of u zs ≡ score_of v zs → (v ≡ u) ⊎ Ahead (states_of v) (states_of u)

  -- and of a word v and a score s that came of readings which are these
  pub record Claim (zs : List ℤ) (v : List ℕ) (s : Float) : Type 0 where
    pub best : Wins zs v
    -- the score is the f32 of that score, bit for bit: 0 is +0.0
    pub scored : s ≡ float_of (score_of v zs)
    -- readings moved further towards the word leave it as it is
    pub stays :
        (others : List Float) (moved : List ℤ) → Exact code p info others moved → Towards (codeword code p v) zs moved →
        word code p others info ≡ v

-- Of a call on whole readings within the sum, by what it was given, what it returned and what it left in the output:
pub record ClaimOfCall
    (code rate info : ℕ) (readings : List Float) (r : Result Float Refusal) (out : List ℕ) : Type 0 where
  -- accepted, the front of the output is a word, and the answer a score, of which the claim holds
  pub accepts :
      (zs : List ℤ) → Exact (code_of code) (pattern_of code rate) info readings zs → (s : Float) →
      answer_said r ≡ accepted s →
      Claim (code_of code) (pattern_of code rate) info zs (take info out) s
  -- and it is not for a reading that a call is refused
  pub never_6 :
      (zs : List ℤ) → Exact (code_of code) (pattern_of code rate) info readings zs →
      (place : ℕ) → answer_said r ≡ refused bad_reading place → ⊥
