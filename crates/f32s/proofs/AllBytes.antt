-- The f32s of many bytes, one by one, by themselves and behind others, and the loop that stores them. Assumes nothing.
use mathlib.Core.List.{List, [], ◌∷◌, ◌++◌, map}
use mathlib.Core.Path.{◌≡◌, refl, sym, ap, ap₂, ◌∙◌}
use Prim.Native.Nat.{ℕ, zero, suc, ◌+◌, ◌-◌, ◌/◌, ◌≤◌, ◌<◌, min}
use native.Mathlib.Numerals.{add-one}
use native.Mathlib.Nat.{zero-add}
use native.Mathlib.Omega.{arith}
use lib.Ieee.{Float, nan, binary32, of_bits}
use lib.ListN.{length, get_or, set, take, drop, length-append, length-take, length-set, get_or-eq_default}
use lib.Seq.{get_or-append-add, get_or-take, take-length, paste, paste-suc}
use Rattle.std.specs.Int.{w32, from_le_bytes}
use Rattle.std.specs.Simd.{first_chunks}
use Rattle.std.proofs.lemmas.List.{get_or-map}
use Rattle.f32s.specs.Single.{joined, of_bytes, all_of_bytes, values_in}
use Rattle.f32s.specs.Inner.{of_four, Fills}

pub length-all : (bytes : List ℕ) → length (all_of_bytes bytes) ≡ length bytes / 4
unfolding all_of_bytes
length-all [] = refl
length-all (b0 ∷ []) = refl
length-all (b0 ∷ b1 ∷ []) = refl
length-all (b0 ∷ b1 ∷ b2 ∷ []) = refl
length-all (b0 ∷ b1 ∷ b2 ∷ b3 ∷ rest) = omega (arith, length-all rest)

-- the library's bits of four bytes, and the definition's
pub joined_is :
    (bytes : List ℕ) →
    from_le_bytes w32 bytes ≡ joined (get_or bytes 0 0) (get_or bytes 1 0) (get_or bytes 2 0) (get_or bytes 3 0)
joined_is bytes = omega arith

abbrev value_at : List ℕ → Float
value_at bytes = of_bytes (get_or bytes 0 0) (get_or bytes 1 0) (get_or bytes 2 0) (get_or bytes 3 0)

value_at-is : (bytes : List ℕ) → value_at bytes ≡ of_four bytes
value_at-is bytes = ap (of_bits binary32) (sym (joined_is bytes))

-- the bytes cut into pieces of four
abbrev pub fours : List ℕ → List (List ℕ)
fours bytes = first_chunks 4 (length bytes / 4) bytes

pub length-fours : (k : ℕ) (bytes : List ℕ) → length (first_chunks 4 k bytes) ≡ k
length-fours zero bytes = refl
length-fours (suc k) bytes = ap suc (length-fours k (drop 4 bytes))

pub all-fours : (bytes : List ℕ) → all_of_bytes bytes ≡ map of_four (fours bytes)
unfolding all_of_bytes
all-fours [] = refl
all-fours (b0 ∷ []) = refl
all-fours (b0 ∷ b1 ∷ []) = refl
all-fours (b0 ∷ b1 ∷ b2 ∷ []) = refl
all-fours (b0 ∷ b1 ∷ b2 ∷ b3 ∷ rest) =
    let one_more : length (b0 ∷ b1 ∷ b2 ∷ b3 ∷ rest) / 4 ≡ suc (length rest / 4) = omega arith in
    rw one_more (ap₂ (λ (x : Float) (xs : List Float). x ∷ xs) (value_at-is (b0 ∷ b1 ∷ b2 ∷ b3 ∷ [])) (all-fours rest))

-- ---- behind others

pub length-values : (floats : List Float) (bytes : List ℕ) → length (values_in floats bytes) ≡ length floats + length bytes / 4
length-values floats bytes = length-append floats (all_of_bytes bytes) ∙ ap (λ (n : ℕ). length floats + n) (length-all bytes)

-- the value of a number, by the tests of the code
module _ (floats : List Float) (bytes : List ℕ) (i : ℕ) (d : Float) where
  abbrev value : Float
  value = get_or (values_in floats bytes) i d

  pub value_behind :
      {pieces : List (List ℕ)} → pieces ≡ fours bytes → length floats ≤ i → i - length floats < length bytes / 4 →
      of_four (get_or pieces (i - length floats) []) ≡ value
  value_behind cut past h =
      let j = i - length floats in
      let here : length floats + j ≡ i = omega arith in
      ap (λ (l : List (List ℕ)). of_four (get_or l j [])) cut
      ∙ sym (get_or-map of_four (fours bytes) j [] d (omega (arith, length-fours (length bytes / 4) bytes)))
      ∙ ap (λ (xs : List Float). get_or xs j d) (sym (all-fours bytes))
      ∙ sym (get_or-append-add floats (all_of_bytes bytes) j d)
      ∙ ap (λ (n : ℕ). get_or (values_in floats bytes) n d) here

  pub value_missing : length floats + length bytes / 4 ≤ i → d ≡ value
  value_missing h = sym (get_or-eq_default (values_in floats bytes) d (omega (arith, h, length-values floats bytes)))

-- ---- the loop: after i turns the first i values stand at the front, and the rest is as it was

module _ (bytes : List ℕ) (old : List Float) where
  abbrev new : List Float
  new = take (length old) (all_of_bytes bytes)

  abbrev copied : ℕ → List Float
  copied i = paste old 0 new i

-- The invariant: after i turns of `count` the first i values stand at the front, and the rest is as it was.
pub record Copied (bytes : List ℕ) (old : List Float) (count : ℕ) (values : List Float) (i : ℕ) : Type 0 where
  pub turns : i ≤ count
  pub size : length values ≡ length old
  pub front : values ≡ copied bytes old i

module _
    {bytes : List ℕ} {old : List Float} {count : ℕ} {values : List Float} {i : ℕ} (now : Copied bytes old count values i)
    {pieces : List (List ℕ)} (cut : pieces ≡ fours bytes) (counted : count ≡ min (length old) (length pieces)) where
  many : length pieces ≡ length bytes / 4
  many = ap length cut ∙ length-fours (length bytes / 4) bytes

  length-new : count ≡ length (new bytes old)
  length-new = omega (arith, counted, many, length-all bytes, length-take (length old) (all_of_bytes bytes))

  new_value : i < count → of_four (get_or (take count pieces) i []) ≡ get_or (new bytes old) i nan
  new_value h =
      ap of_four (get_or-take count pieces i [] h)
      ∙ ap (λ (l : List (List ℕ)). of_four (get_or l i [])) cut
      ∙ sym (get_or-map of_four (fours bytes) i [] nan (omega (arith, counted, many, length-fours (length bytes / 4) bytes)))
      ∙ ap (λ (xs : List Float). get_or xs i nan) (sym (all-fours bytes))
      ∙ sym (get_or-take (length old) (all_of_bytes bytes) i nan (omega (arith, counted)))

  pub copied_goes_on :
      i < length (take count pieces) → {x : Float} → x ≡ value_at (get_or (take count pieces) i []) →
      Copied bytes old count (set values i x) (i + 1)
  copied_goes_on h {x} e =
      let below : i < count = omega (arith, h, length-take count pieces) in
      record {
        turns = omega arith;
        size = simp length-set now.size;
        front =
            ap₂ (λ (l : List Float) (y : Float). set l i y) now.front (e ∙ value_at-is (get_or (take count pieces) i []) ∙ new_value below)
            ∙ ap (λ (n : ℕ). set (copied bytes old i) n (get_or (new bytes old) i nan)) (sym (zero-add i))
            ∙ paste-suc old 0 (new bytes old) i nan (omega (arith, counted)) (omega (arith, length-new))
            ∙ ap (copied bytes old) (sym (add-one i));
      }

  pub copied_ends : length (take count pieces) ≤ i → Fills bytes old values count
  copied_ends past =
      let last : i ≡ count = omega (arith, now.turns, counted, length-take count pieces) in
      record {
        counted = length-new;
        front =
            now.front
            ∙ ap (copied bytes old) last
            ∙ ap₂ (λ (front : List Float) (n : ℕ). front ++ drop n old)
            (ap (λ (n : ℕ). take n (new bytes old)) length-new ∙ take-length (new bytes old)) (zero-add count);
      }
