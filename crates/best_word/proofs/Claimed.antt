-- Demand 3: the decoded word wins, first among equals, and it stays. For any code and keep pattern, and so for those that
-- numbers select. Assumes nothing.
use mathlib.Core.Bool.{true, false, true≢false}
use mathlib.Core.List.{List, ◌++◌, append_cancel_right}
use mathlib.Core.Logic.{◌⊎◌, inl, inr, ⊎_elim}
use mathlib.Core.Path.{◌≡◌, sym, ap, ◌∙◌}
use Prim.Native.Nat.{ℕ, ◌<◌}
use lib.Ieee.{Float}
use lib.IntN.{ℤ, ◌+ℤ◌, +ℤ_comm}
use lib.ListN.{length, replicate}
use lib.Signed.{lt_z}
use Rattle.best_path.specs.Path.{total, Ahead, gained}
use Rattle.best_path.proofs.InfoWords.{BestInfo, info_leads, best_info_word}
use Rattle.best_path.proofs.Order.{AtMost, lt_z_total, lt_z_irrefl, at_most_not_below, at_most_antisym, at_most_rest, ahead_asym}
use Rattle.correlation.specs.Decode as any
use Rattle.correlation.specs.Gain.{gain}
use Rattle.correlation.specs.Whole.{whole, exactly}
use Rattle.forward.specs.Decode.{word, score}
use Rattle.trellis.specs.declared.ConvCode.{ConvCode}
use Rattle.trellis.specs.Choice.{k7, standard, pattern_in, code_of, pattern_of}
use Rattle.trellis.specs.Codeword.{steps_of, codeword}
use Rattle.trellis.specs.Keep.{Keep, Pattern, coded_length}
use Rattle.trellis.specs.Standard.{standard_code}
use Rattle.trellis.proofs.Chosen.{code_narrow, rate_pattern}
use Rattle.trellis.proofs.Sent.{length-codeword, tailed_bits}
use Rattle.best_word.specs.Claim.{InfoWord, Exact, Towards, score_of, states_of, Wins, Claim}
use Rattle.best_word.proofs.Score.{gained_codeword}
use Rattle.best_word.proofs.Towards.{codeword_bits, agreement_towards}
use Rattle.best_word.proofs.WholeRun.{word_whole, score_whole}

-- ---- the decoder in whole numbers

module _ (code : ConvCode) (some : 0 < code.width) (p : Keep) (good : Pattern p) (info : ℕ) where
  abbrev points : List ℕ → List ℤ → ℤ
  points = score_of code p info

  -- the same word, or the tie rule puts it first
  abbrev First : List ℕ → List ℕ → Type 0
  First v u = (v ≡ u) ⊎ Ahead (states_of code p info v) (states_of code p info u)

  module _ (zs : List ℤ) where
    abbrev decoded : List ℕ
    decoded = any.word exactly code p zs info

    best_decoded : (z : ℤ) × BestInfo code (gain whole code p zs) info decoded z
    unfolding any.word any.froms
    best_decoded = best_info_word code some (gain whole code p zs) info

    decoded_is_word : InfoWord info decoded
    decoded_is_word = record { sized = best_decoded.1.sized; bits = best_decoded.1.bits }

    gained_points :
        (u : List ℕ) → InfoWord info u →
        gained code (gain whole code p zs) (u ++ replicate code.width 0) (steps_of code info) ≡ points u zs
    gained_points = gained_codeword code some p good zs info

    decoded_beats :
        (u : List ℕ) → InfoWord info u →
        (lt_z (points u zs) (points decoded zs) ≡ true) ⊎ ((points u zs ≡ points decoded zs) × First decoded u)
    decoded_beats u is =
        rw (
          ← gained_points u is,
          ← gained_points decoded decoded_is_word,
          tailed_bits code u is.bits,
          tailed_bits code decoded decoded_is_word.bits,
        )
        (⊎_elim (λ h. inl h)
        (λ h. inr (h.0, ⊎_elim (λ e. inl (append_cancel_right decoded u (replicate code.width 0) e)) (λ a. inr a) h.1))
        (best_decoded.1.best.best _ (info_leads code some info u is.sized is.bits)).beats)

    decoded_not_behind : (u : List ℕ) → InfoWord info u → lt_z (points decoded zs) (points u zs) ≡ false
    decoded_not_behind u is =
        at_most_not_below (points u zs) (points decoded zs) (⊎_elim (λ h. inl h) (λ h. inr h.0) (decoded_beats u is))

    decoded_first : (u : List ℕ) → InfoWord info u → points u zs ≡ points decoded zs → First decoded u
    decoded_first u is e =
        ⊎_elim (λ h. absurd (true≢false (sym (rw e at h) ∙ lt_z_irrefl (points decoded zs)))) (λ h. h.1) (decoded_beats u is)

    pub decoded_wins : Wins code p info zs (any.word exactly code p zs info)
    decoded_wins = record { is_word = decoded_is_word; wins = decoded_not_behind; first = decoded_first }

    pub decoded_counts : any.score exactly code p zs info ≡ total (score_of code p info (any.word exactly code p zs info) zs)
    unfolding any.score any.mets
    decoded_counts =
        best_decoded.1.counted ∙ ap total (sym best_decoded.1.best.gains_it ∙ gained_points decoded decoded_is_word)

  -- After the move the two words tie, and so they did before it; each time the tie rule puts the same one first.
  pub decoded_stays :
      (zs moved : List ℤ) → Towards (codeword code p (any.word exactly code p zs info)) zs moved →
      any.word exactly code p moved info ≡ any.word exactly code p zs info
  decoded_stays zs moved near =
      let v = any.word exactly code p zs info in
      let w = any.word exactly code p moved info in
      let is-v = decoded_is_word zs in
      let is-w = decoded_is_word moved in
      let sized : length (codeword code p w) ≡ length (codeword code p v) =
      length-codeword code p good w ∙ ap (λ (n : ℕ). coded_length p (steps_of code n)) (is-w.sized ∙ sym is-v.sized)
      ∙ sym (length-codeword code p good v) in
      let nearer : AtMost (points w moved +ℤ points v zs) (points w zs +ℤ points v moved) =
      agreement_towards (codeword code p w) (codeword code p v) zs moved sized (codeword_bits code p v) near in
      let before : AtMost (points w zs) (points v zs) = lt_z_total _ _ (decoded_not_behind zs w is-w) in
      let after : AtMost (points v moved) (points w moved) = lt_z_total _ _ (decoded_not_behind moved v is-v) in
      let tied : points w zs ≡ points v zs = at_most_antisym _ _ before (at_most_rest _ _ _ _ nearer after) in
      let turned : AtMost (points v zs +ℤ points w moved) (points v moved +ℤ points w zs) =
      rw (+ℤ_comm (points v zs) (points w moved), +ℤ_comm (points v moved) (points w zs)) nearer in
      let still_tied : points v moved ≡ points w moved = at_most_antisym _ _ after (at_most_rest _ _ _ _ turned before) in
      ⊎_elim sym
      (λ a. ⊎_elim (λ e. e) (λ b. absurd (ahead_asym _ _ a b)) (decoded_first moved v is-v still_tied))
      (decoded_first zs w is-w tied)

-- ---- in f32, where nothing is rounded

pub best_word_wins :
    (code : ConvCode) → 0 < code.width → (p : Keep) → Pattern p → (info : ℕ) (readings : List Float) (zs : List ℤ) →
    Exact code p info readings zs → Claim code p info zs (word code p readings info) (score code p readings info)
unfolding any.score
best_word_wins code some p good info readings zs exact =
    rw (word_whole code some p good readings zs info exact.whole exact.small)
    (record {
      best = decoded_wins code some p good info zs;
      scored =
          score_whole code some p good readings zs info exact.whole exact.small _ (decoded_counts code some p good info zs);
      stays = λ others moved also near.
          word_whole code some p good others moved info also.whole also.small
          ∙ decoded_stays code some p good info zs moved near;
    })

-- the codes and keep patterns of the tables
pub decoded_word_wins :
    (code rate info : ℕ) (readings : List Float) (zs : List ℤ) →
    Exact (code_of code) (pattern_of code rate) info readings zs →
    Claim (code_of code) (pattern_of code rate) info zs
    (word (code_of code) (pattern_of code rate) readings info) (score (code_of code) (pattern_of code rate) readings info)
decoded_word_wins code rate = best_word_wins (code_of code) (code_narrow code).some (pattern_of code rate) (rate_pattern code rate)

-- among them K7 with the keep patterns of EN 300 744
pub standard_word_wins :
    (rate info : ℕ) (readings : List Float) (zs : List ℤ) → Exact k7 (pattern_in standard rate) info readings zs →
    Claim k7 (pattern_in standard rate) info zs
    (word k7 (pattern_in standard rate) readings info) (score k7 (pattern_in standard rate) readings info)
unfolding code_of pattern_of
standard_word_wins = decoded_word_wins standard_code
