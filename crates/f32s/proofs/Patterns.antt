-- Which bit patterns are no NaN's, by one comparison, and which are finite. Assumes nothing.
use mathlib.Core.Bool.{Bool, true, false, cond, not}
use mathlib.Core.Path.{◌≡◌, refl, sym, ap, subst, ◌∙◌}
use Prim.Native.Nat.{ℕ, zero, suc, ◌+◌, ◌/◌, ◌%◌, ◌^◌, ◌≤◌}
use native.Mathlib.Omega.{arith}
use borrow.Author.Tests.{le-ltb}
use lib.Dec.{T, eqb}
use lib.Ieee.{Float, nan, inf, fin, binary32, odd, is_nan, of_fields, of_bits, nan_bits}
use lib.Ieee.Bits.{nan_bits_is, nan_bits_above}
use Rattle.std.specs.Float.{float_is_finite}
use Rattle.f32s.specs.Single.{zero32, finite}

-- an infinity's pattern without its sign
abbrev pub infinite : ℕ
infinite = 0x7f80_0000

pub number_below : (n : ℕ) → n % 2 ^ 31 ≤ infinite → T (not (nan_bits binary32 n))
number_below n h = subst (λ (b : Bool). T (not b)) (sym (nan_bits_above binary32 n ∙ le-ltb infinite (n % 2 ^ 31) h)) tt

-- ---- a pattern is finite unless its exponent's field is all ones

written_finite : (d : ℕ) (s : Bool) (q k l : ℕ) → finite (odd d s q k l) ≡ true
unfolding odd
written_finite d s zero k l = refl
written_finite d s (suc q) k l = refl

all_ones_not_finite : (s is_zero : Bool) → finite (cond is_zero (inf s) nan) ≡ false
all_ones_not_finite s true = refl
all_ones_not_finite s false = refl

fields_finite : (s : Bool) (x t : ℕ) → finite (of_fields binary32 s x t) ≡ not (eqb x 255)
unfolding of_fields
fields_finite s zero t = written_finite 24 s t 0 149
fields_finite s (suc x) t = go (eqb (suc x) 255)
  where
    go :
        (is_ones : Bool) →
        finite (cond is_ones (cond (eqb t 0) (inf s) nan) (odd 24 s (2 ^ 23 + t) x 149)) ≡ not is_ones
    go true = all_ones_not_finite s (eqb t 0)
    go false = written_finite 24 s (2 ^ 23 + t) x 149

pub finite_pattern : (n : ℕ) → finite (of_bits binary32 n) ≡ not (eqb (n / 2 ^ 23 % 256) 255)
unfolding of_bits
finite_pattern n =
    let field : n % 2 ^ 31 / 2 ^ 23 ≡ n / 2 ^ 23 % 256 = omega arith in
    fields_finite _ (n % 2 ^ 31 / 2 ^ 23) _ ∙ ap (λ (x : ℕ). not (eqb x 255)) field

pub zero_finite : finite zero32 ≡ true
zero_finite = finite_pattern 0

-- and then it is no NaN's
finite_not_nan : (x : Float) → finite x ≡ true → T (not (is_nan x))
unfolding is_nan
finite_not_nan nan e = subst T (sym e) tt
finite_not_nan (inf s) e = tt
finite_not_nan (fin s m d) e = tt

pub finite_number : (n : ℕ) → finite (of_bits binary32 n) ≡ true → T (not (nan_bits binary32 n))
finite_number n h =
    subst (λ (b : Bool). T (not b)) (sym (nan_bits_is binary32 n)) (finite_not_nan (of_bits binary32 n) h)

-- ---- the library's test

pub finite_is : (x : Float) → float_is_finite x ≡ finite x
unfolding float_is_finite
finite_is nan = refl
finite_is (inf s) = refl
finite_is (fin s m d) = refl
