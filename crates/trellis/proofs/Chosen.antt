-- What holds of every code and keep pattern that numbers select: so much the laws over any of them ask. Each entry of
-- the table is tried by computing, so a further entry needs no line here. Assumes nothing.
use mathlib.Core.Bool.{Bool, true, false, cond, ◌&&◌}
use mathlib.Core.List.{List, [], ◌∷◌, ◌++◌}
use mathlib.Core.Logic.{◌⊎◌, inl, inr}
use mathlib.Core.Path.{◌≡◌, refl, sym, ap, ap₂, subst}
use Prim.Native.Nat.{ℕ, zero, suc, ◌-◌, ◌*◌, ◌%◌, ◌^◌, ◌≤◌, ◌<◌}
use native.Mathlib.Nat.{div-one, mod-one}
use native.Mathlib.Omega.{arith}
use borrow.Author.Tests.{ltb-true, ltb-false, leb-true, eqb-true}
use lib.Dec.{eqb, ltb, leb}
use lib.ListN.{length, get_or, replicate, length-append, get_or-eq_default}
use lib.Seq.{take_at}
use Rattle.std.specs.Result.{result_unwrap_or}
use Rattle.std.specs.Prelude.{Result, Ok, Err}
use Rattle.trellis.specs.declared.Code.{Code}
use Rattle.trellis.specs.declared.Code.TheVariants.{K5, K7, En300744}
use Rattle.trellis.specs.declared.Rate.{Rate}
use Rattle.trellis.specs.declared.Rate.TheVariants.{R1_2}
use Rattle.trellis.specs.declared.UnknownCode.{UnknownCode}
use Rattle.trellis.specs.declared.UnknownRate.{UnknownRate}
use Rattle.trellis.specs.declared.ConvCode.{ConvCode}
use Rattle.trellis.specs.Keep.{Keep, Pattern, period, ones_of, coded_length}
use Rattle.trellis.specs.Choice.{k5, k7, half, rust, standard, Coding, codings, codes, coding_of, code_of, pattern_in, pattern_of, rates_of}
use Rattle.trellis.specs.Choice.{held_of, keep_of}
use Rattle.trellis.specs.Numbers.{code_number, rate_number, NamesCode, NamesRate}
use Rattle.trellis.specs.Inner.{Narrow, Ends, Rows}
use Rattle.trellis.proofs.Columns.{rows_pattern}

-- ---- a test that every entry of a list passes

both : (a b : Bool) → a && b ≡ true → (a ≡ true) × (b ≡ true)
both true b e = (refl, e)
both false b e = absurd (let z : ◌≡◌ {A = ℕ} 0 1 = cc in omega arith)

every : {A : Type 0} → (A → Bool) → List A → Bool
every test [] = true
every test (x ∷ xs) = test x && every test xs

every_at :
    {A : Type 0} (test : A → Bool) (xs : List A) (n : ℕ) (d : A) → every test xs ≡ true → test d ≡ true →
    test (get_or xs n d) ≡ true
unfolding every
every_at test [] n d all other = other
every_at test (x ∷ xs) zero d all other = (both (test x) (every test xs) all).0
every_at test (x ∷ xs) (suc n) d all other = every_at test xs n d (both (test x) (every test xs) all).1 other

-- ---- codes

-- a tap word of which both end bits are set, and that reaches no further
abbrev reaches : ConvCode → ℕ → Bool
reaches code taps = eqb (taps % 2) 1 && (leb (2 ^ code.width) taps && ltb taps (2 * 2 ^ code.width))

record Reached (code : ConvCode) (taps : ℕ) : Type 0 where
  pub low : taps % 2 ≡ 1
  pub top : 2 ^ code.width ≤ taps
  pub within : taps < 2 * 2 ^ code.width

reached : (code : ConvCode) (taps : ℕ) → reaches code taps ≡ true → Reached code taps
reached code taps e =
    let (low, rest) = both _ _ e in
    let (top, within) = both _ _ rest in
    record { low = eqb-true _ 1 low; top = leb-true _ taps top; within = ltb-true taps _ within }

-- a code of at least one cell, no wider than K7, with such tap words
abbrev fits : ConvCode → Bool
fits code =
    (ltb 0 code.width && leb code.width k7.width) && (reaches code code.g0 && reaches code code.g1)

-- a keep pattern of at least one column and at most seven, of rows equally long
abbrev held : Keep → Bool
held p = ltb 0 (period p) && (leb (period p) 7 && eqb (length p.row1) (period p))

-- an entry of the table: such a code, with as many keep patterns as any other, all of them such
abbrev sound : Coding → Bool
sound coding = fits coding.code && (every held coding.patterns && eqb (length coding.patterns) (length rust))

record Sound (coding : Coding) : Type 0 where
  pub some : 0 < coding.code.width
  pub narrow : coding.code.width ≤ k7.width
  pub upper : Reached coding.code coding.code.g0
  pub lower : Reached coding.code coding.code.g1
  pub patterns_held : every held coding.patterns ≡ true
  pub rates : length coding.patterns ≡ length rust

sound_entry : (coding : Coding) → sound coding ≡ true → Sound coding
sound_entry coding e =
    let (code, patterns) = both _ _ e in
    let (width, taps) = both _ _ code in
    let (some, narrow) = both _ _ width in
    let (upper, lower) = both _ _ taps in
    let (all, rates) = both _ _ patterns in
    record {
      some = ltb-true 0 _ some;
      narrow = leb-true _ _ narrow;
      upper = reached _ _ upper;
      lower = reached _ _ lower;
      patterns_held = all;
      rates = eqb-true _ _ rates;
    }

coding_sound : (code : ℕ) → Sound (coding_of code)
unfolding coding_of every
coding_sound code = sound_entry (coding_of code) (every_at sound codings code _ refl refl)

pub code_width : (code : ℕ) → (code_of code).width ≤ k7.width
unfolding code_of
code_width code = (coding_sound code).narrow

-- every code has K5's width or K7's
abbrev sized : Coding → Bool
sized coding = cond (eqb coding.code.width k5.width) true (eqb coding.code.width k7.width)

either : (w m n : ℕ) (b : Bool) → eqb w m ≡ b → cond b true (eqb w n) ≡ true → (w ≡ m) ⊎ (w ≡ n)
either w m n true f e = inl (eqb-true w m f)
either w m n false f e = inr (eqb-true w n e)

pub code_sized : (code : ℕ) → ((code_of code).width ≡ k5.width) ⊎ ((code_of code).width ≡ k7.width)
unfolding code_of coding_of every
code_sized code = either _ _ _ _ refl (every_at sized codings code _ refl refl)

pub code_narrow : (code : ℕ) → Narrow (code_of code)
unfolding code_of
code_narrow code = record { some = (coding_sound code).some; narrow = omega (arith, (coding_sound code).narrow) }

pub code_ends : (code : ℕ) → Ends (code_of code)
unfolding code_of
code_ends code =
    let is = coding_sound code in
    record {
      low0 = is.upper.low;
      low1 = is.lower.low;
      top0 = is.upper.top;
      top1 = is.lower.top;
      within0 = is.upper.within;
      within1 = is.lower.within;
    }

-- every code has as many rates as any other
pub rates_same : (code : ℕ) → rates_of code ≡ length rust
unfolding rates_of
rates_same code = (coding_sound code).rates

-- ---- keep patterns

-- a keep pattern that the code's form of it holds
pub record Represented (p : Keep) : Type 0 where
  pub rows : Rows (held_of p)
  pub back : keep_of (held_of p) ≡ p

seven_long : (row : List ℕ) → length row ≤ length (row ++ replicate (7 - length row) 0)
seven_long row = omega (arith, length-append row (replicate (7 - length row) 0))

abbrev keep_of_rows : List ℕ → List ℕ → Keep
keep_of_rows row0 row1 = record { row0 = row0; row1 = row1 }

represented : (p : Keep) → held p ≡ true → Represented p
unfolding held_of keep_of
represented p e =
    let (some, rest) = both _ _ e in
    let (seven, equal) = both _ _ rest in
    let same = eqb-true (length p.row1) (period p) equal in
    record {
      rows =
          record {
            some = ltb-true 0 (period p) some;
            seven = leb-true (period p) 7 seven;
            room0 = seven_long p.row0;
            room1 = omega (arith, same, seven_long p.row1);
          };
      back = ap₂ keep_of_rows (take_at p.row0 _ (period p) refl) (take_at p.row1 _ (period p) same);
    }

pub rate_represented : (code rate : ℕ) → Represented (pattern_of code rate)
unfolding pattern_of
rate_represented code rate =
    represented (pattern_of code rate) (every_at held (coding_of code).patterns rate half (coding_sound code).patterns_held refl)

pub rate_pattern : (code rate : ℕ) → Pattern (pattern_of code rate)
rate_pattern code rate =
    let is = rate_represented code rate in
    subst Pattern is.back (rows_pattern (held_of (pattern_of code rate)) is.rows)

-- ---- what the numbers select

-- what names no code selects K5
pub code_named :
    (number : ℕ) (r : Result Code UnknownCode) → NamesCode number r →
    coding_of (code_number (result_unwrap_or r K5)) ≡ coding_of number
unfolding coding_of
code_named number (Ok code) e = ap coding_of e.numbered
code_named number (Err x) e = sym (get_or-eq_default codings _ (ltb-false number codes e.unknown))

-- equal rate numbers have equal keep patterns, in any list of them
pub rate_held : (patterns : List Keep) {rate k : ℕ} → rate ≡ k → held_of (pattern_in patterns k) ≡ held_of (pattern_in patterns rate)
rate_held patterns e = sym (ap (λ (n : ℕ). held_of (pattern_in patterns n)) e)

-- what names no rate selects 1/2
no_rate : (patterns : List Keep) (rate : ℕ) → ltb rate (length patterns) ≡ false → half ≡ pattern_in patterns rate
unfolding pattern_in
no_rate patterns rate e = sym (get_or-eq_default patterns half (ltb-false rate _ e))

pub rate_named :
    (number : ℕ) (r : Result Rate UnknownRate) → NamesRate number r → (code : Code) →
    pattern_of (code_number code) (rate_number (result_unwrap_or r R1_2)) ≡ pattern_of (code_number code) number
unfolding pattern_of coding_of pattern_in rates_of
rate_named number (Ok rate) e code = ap (pattern_of (code_number code)) e.numbered
rate_named number (Err x) e K5 = no_rate rust number (e.unknown 0)
rate_named number (Err x) e K7 = no_rate rust number (e.unknown 1)
rate_named number (Err x) e En300744 = no_rate standard number (e.unknown 2)

-- at rate 1/2 both bits of each step are sent
pub half_length : (t : ℕ) → coded_length half t ≡ 2 * t
unfolding coded_length ones_of
half_length t = rw (div-one t, mod-one t) (omega arith)
