-- State 0's last metric is the score: the state is reached, so the metric stands for a total, and is that total. Assumes
-- nothing.
use mathlib.Core.Bool.{Bool, true, false}
use mathlib.Core.List.{List}
use mathlib.Core.Path.{◌≡◌, refl, sym, ◌∙◌}
use Prim.Native.Nat.{ℕ, ◌*◌, ◌^◌, ◌≤◌, ◌<◌}
use lib.IntN.{ℤ}
use lib.Signed.{lt_z}
use Rattle.best_path.specs.Path.{total}
use Rattle.best_path.proofs.InfoWords.{best_info_word}
use Rattle.correlation.specs.Decode as any
use Rattle.correlation.specs.Gain.{gain}
use Rattle.correlation.specs.Inner as inner
use Rattle.correlation.specs.Whole.{whole, exactly}
use Rattle.refusal.specs.Lent.{Lent}
use Rattle.signed_butterflies.specs.Held.{floor, total_of, Near}
use Rattle.signed_butterflies.proofs.Near.{near_reached}
use Rattle.trellis.specs.declared.ConvCode.{ConvCode}
use Rattle.trellis.specs.Codeword.{steps_of}
use Rattle.trellis.specs.Keep.{Keep}
use Rattle.signed_readings.specs.Inner.{Finds}
use Rattle.signed_readings.specs.Said.{score}

-- there is a score, whatever is read
pub score_counts :
    (code : ConvCode) → 0 < code.width → (p : Keep) (readings : List ℤ) (info : ℕ) →
    any.score exactly code p readings info ≡ total (score code p readings info)
unfolding any.score any.mets
score_counts code some p readings info =
    let best = best_info_word code some (gain whole code p readings) info in
    rw best.1.counted

reached_total : {x z : ℤ} → total_of x ≡ total z → (lt_z x floor ≡ false) × (total x ≡ total z)
unfolding total_of
reached_total {x} {z} e = go (lt_z x floor) refl
  where
    go : (b : Bool) → lt_z x floor ≡ b → (lt_z x floor ≡ false) × (total x ≡ total z)
    go true h = (cc, cc)
    go false h = (h, sym (rw h) ∙ e)

-- so what a way back over the rows finds with the metric, it finds with the score
pub finds_score :
    {code : ConvCode} {p : Keep} {states info : ℕ} {readings : List ℤ} {r : ℤ} {out scratch : Lent ℕ} → 0 < code.width →
    254 * steps_of code info ≤ 2 ^ 28 → Near (254 * steps_of code info) r →
    inner.Finds exactly code p states info readings (total_of r) out scratch →
    Finds code p states info readings r out scratch
finds_score {code} {p} {states} {info} {readings} {r} {out} {scratch} some few near finds =
    let known = reached_total (finds.scored ∙ score_counts code some p readings info) in
    let small = near_reached (254 * steps_of code info) few r near known.0 in
    record {
      found =
          record {
            scored = known.1 ∙ sym (score_counts code some p readings info);
            output = finds.output;
            survivors = finds.survivors;
          };
      small = small;
    }
