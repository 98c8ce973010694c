-- How large the sums get: at most two readings for each step, and within the limit on info within 2^24. What depends on the limit
-- is computed from its name. Assumes nothing.
use mathlib.Core.List.{List}
use Prim.Native.Nat.{ℕ, ◌*◌, ◌^◌, ◌≤◌, ◌<◌}
use native.Mathlib.Omega.{arith}
use lib.IntN.{ℤ, pos, nat_abs}
use lib.ListN.{get_or}
use lib.Pow.{pow_pos}
use Rattle.best_path.specs.Path.{Total, none, total}
use Rattle.correlation.specs.Decode as any
use Rattle.correlation.specs.Whole.{exactly}
use Rattle.correlation.proofs.Sizes.{Within, totals_within}
use Rattle.refusal.specs.Limits.{most}
use Rattle.trellis.specs.declared.ConvCode.{ConvCode}
use Rattle.trellis.specs.Choice.{k7, code_of, pattern_of}
use Rattle.trellis.specs.Codeword.{steps_of}
use Rattle.trellis.specs.Keep.{Keep}
use Rattle.trellis.proofs.Chosen.{code_width, code_narrow}
use Rattle.signed_readings.specs.Said.{count_of, score}

count_within : (bound : ℕ) (m : Total) → Within bound m → nat_abs (count_of m) ≤ bound
count_within bound none h = omega arith
count_within bound (total z) h = h

-- the score, of readings of at most any size
pub score_within :
    (code : ConvCode) → 0 < code.width → (p : Keep) (zs : List ℤ) (bound info : ℕ) →
    ((i : ℕ) → nat_abs (get_or zs i (pos 0)) ≤ bound) → nat_abs (score code p zs info) ≤ 2 * bound * steps_of code info
unfolding any.score
score_within code some p zs bound info each =
    count_within (2 * bound * steps_of code info) (any.score exactly code p zs info)
    (totals_within code some p zs bound each (steps_of code info) 0 (pow_pos code.width))

-- ---- within the limit

pub limit_steps : (code info : ℕ) → info ≤ most → steps_of (code_of code) info ≤ steps_of k7 most
limit_steps code info h = omega (arith, h, code_width code)

-- the longest word of the widest code, each reading 127
pub limit_sums : 254 * steps_of k7 most ≤ 2 ^ 24
limit_sums = omega arith

within_up : (bound more : ℕ) (m : Total) → bound ≤ more → Within bound m → Within more m
within_up bound more none h k = tt
within_up bound more (total z) h k = omega (arith, h, k)

-- so of signed bytes but −128 every total, at every step and state, is within that
pub totals_within_limit :
    (code rate info : ℕ) (zs : List ℤ) → ((i : ℕ) → nat_abs (get_or zs i (pos 0)) ≤ 127) → info ≤ most →
    (t s : ℕ) → t ≤ steps_of (code_of code) info → s < 2 ^ (code_of code).width →
    Within (254 * steps_of k7 most) (get_or (any.mets exactly (code_of code) (pattern_of code rate) zs t) s none)
totals_within_limit code rate info zs each few t s h k =
    let here = get_or (any.mets exactly (code_of code) (pattern_of code rate) zs t) s none in
    within_up (254 * t) (254 * steps_of k7 most) here (omega (arith, h, limit_steps code info few))
    (totals_within (code_of code) (code_narrow code).some (pattern_of code rate) zs 127 each t s k)
