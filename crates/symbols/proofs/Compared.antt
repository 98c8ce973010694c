-- Metrics as states are compared by them: each is a number, a number stands for itself, and a NaN compares as the infinity in its place.
-- Assumes nothing.
use mathlib.Core.Bool.{true, false}
use mathlib.Core.Path.{◌≡◌, refl}
use Prim.Native.Nat.{ℕ, zero, suc}
use lib.Ieee.{Float, nan, inf, fin, lt, is_nan}
use Rattle.f32s.proofs.Ordered.{none_below, none_above}
use Rattle.symbols.specs.Inner.{compared}

pub compared_number : (s : ℕ) (m : Float) → is_nan (compared s m) ≡ false
unfolding compared lt is_nan
compared_number zero nan = refl
compared_number zero (inf true) = refl
compared_number zero (inf false) = refl
compared_number zero (fin t n d) = refl
compared_number (suc s) nan = refl
compared_number (suc s) (inf true) = refl
compared_number (suc s) (inf false) = refl
compared_number (suc s) (fin t n d) = refl

pub number_itself : (s : ℕ) (m : Float) → is_nan m ≡ false → compared s m ≡ m
unfolding compared lt is_nan
number_itself s nan e = cc
number_itself zero (inf true) e = refl
number_itself zero (inf false) e = refl
number_itself zero (fin t n d) e = refl
number_itself (suc s) (inf true) e = refl
number_itself (suc s) (inf false) e = refl
number_itself (suc s) (fin t n d) e = refl

-- a NaN is below nothing, as the largest is; and nothing is below a NaN, as below the least
pub smaller_alike : (s : ℕ) (m y : Float) → lt (compared (suc s) m) y ≡ lt m y
unfolding compared lt
smaller_alike s nan y = none_above y
smaller_alike s (inf true) y = refl
smaller_alike s (inf false) y = refl
smaller_alike s (fin t n d) y = refl

pub larger_alike : (x m : Float) → lt x (compared zero m) ≡ lt x m
unfolding compared lt
larger_alike nan m = refl
larger_alike (inf s) nan = none_below (inf s)
larger_alike (fin s o c) nan = none_below (fin s o c)
larger_alike (inf s) (inf true) = refl
larger_alike (inf s) (inf false) = refl
larger_alike (inf s) (fin t n d) = refl
larger_alike (fin s o c) (inf true) = refl
larger_alike (fin s o c) (inf false) = refl
larger_alike (fin s o c) (fin t n d) = refl

-- the code's tests: state 0 first
pub least_kept : {s : ℕ} {m : Float} → s ≡ 0 → lt (inf true) m ≡ true → m ≡ compared s m
unfolding compared
least_kept {m = m} z e = rw (z, e)

pub least_stands : {s : ℕ} (m : Float) → s ≡ 0 → lt (inf true) m ≡ false → inf true ≡ compared s m
unfolding compared
least_stands m z e = rw (z, e)

pub most_kept : {s : ℕ} {m : Float} → (s ≡ 0 → ⊥) → lt m (inf false) ≡ true → m ≡ compared s m
unfolding compared
most_kept {s = zero} z e = absurd (z refl)
most_kept {s = suc s} z e = rw e

pub most_stands : {s : ℕ} (m : Float) → (s ≡ 0 → ⊥) → lt m (inf false) ≡ false → inf false ≡ compared s m
unfolding compared
most_stands {s = zero} m z e = absurd (z refl)
most_stands {s = suc s} m z e = rw e
