-- A number's digits: eight hex digits, the first one first, and decimal ones, the last behind those before it. Assumes
-- nothing.
use Rattle.std.proofs.Common.{◌≡◌, ℕ, zero, suc, ◌+◌, ◌/◌, ◌%◌, ◌^◌, ◌*◌, ◌-◌, ◌≤◌, ◌<◌, List, [], ◌∷◌, ◌++◌, length}
use Rattle.std.proofs.Common.{Bool, true, false, cond, refl, sym, ap, ◌∙◌, length-append, append-nil, append_assoc, pow-add, arith}
use Rattle.std.proofs.Common.{lit<, lit≤}
use Rattle.std.proofs.Math.Nat.{div-div-eq-div-mul}
use native.Mathlib.Decide.{dec_lt}
use native.Mathlib.Nat.{pow-suc, div-lt_iff_lt-mul}
use borrow.Author.Tests.{lt-ltb, le-ltb}
use lib.Dec.{ltb}
use Rattle.text.specs.Text.{digit, hex_digits, decimal_digits, decimal}

-- ---- eight hex digits

-- the invariant: behind what was written before stand the first digits, and as many as `place` are still to be put
pub record HexPut (n : ℕ) (old : List ℕ) (place : ℕ) (now : List ℕ) : Type 0 where
  pub turns : place ≤ 8
  pub puts : now ≡ old ++ hex_digits (8 - place) (n / 2 ^ (4 * place))

length-hex : (k n : ℕ) → length (hex_digits k n) ≡ k
unfolding hex_digits
length-hex zero n = refl
length-hex (suc k) n =
    length-append (hex_digits k (n / 16)) (digit (n % 16) ∷ [])
    ∙ ap (λ (l : ℕ). l + 1) (length-hex k (n / 16))
    ∙ omega arith

pub hex_starts : {n : ℕ} {old : List ℕ} → HexPut n old 8 old
unfolding hex_digits
hex_starts {n} {old} = record { turns = omega arith; puts = sym (append-nil old) }

-- the next digit, behind those before it
one_more :
    (n k : ℕ) → k < 8 →
    hex_digits (8 - suc k) (n / 2 ^ (4 * suc k)) ++ (digit (n / 2 ^ (4 * k) % 16) ∷ []) ≡ hex_digits (8 - k) (n / 2 ^ (4 * k))
unfolding hex_digits
one_more n k h =
    let four : 4 * suc k ≡ 4 * k + 4 = omega arith in
    let sixteen : 2 ^ (4 * suc k) ≡ 2 ^ (4 * k) * 16 = ap (λ (e : ℕ). 2 ^ e) four ∙ pow-add 2 (4 * k) 4 in
    let behind : n / 2 ^ (4 * suc k) ≡ n / 2 ^ (4 * k) / 16 =
    ap (λ (d : ℕ). n / d) sixteen ∙ sym (div-div-eq-div-mul n (2 ^ (4 * k)) 16) in
    let left : 8 - k ≡ suc (8 - suc k) = omega arith in
    rw (left, behind)

module _ {n : ℕ} {old now : List ℕ} {place : ℕ} (so_far : HexPut n old place now) (some : 0 < place) where
  pub hex_room : {room : ℕ} → length old + length (hex_digits 8 n) ≤ room → length now < room
  hex_room {room} h =
      let digits = hex_digits (8 - place) (n / 2 ^ (4 * place)) in
      omega (
        arith,
        h,
        some,
        so_far.turns,
        length-hex 8 n,
        length-hex (8 - place) (n / 2 ^ (4 * place)),
        ap length so_far.puts,
        length-append old digits,
      )

  pub hex_goes_on :
      {k d : ℕ} {next : List ℕ} → place ≡ suc k → d ≡ digit (n / 2 ^ (4 * k) % 16) → next ≡ now ++ (d ∷ []) →
      HexPut n old k next
  hex_goes_on {k} {d} {next} turn e puts =
      let few : k < 8 = omega (arith, so_far.turns) in
      let before : now ≡ old ++ hex_digits (8 - suc k) (n / 2 ^ (4 * suc k)) =
      so_far.puts ∙ ap (λ (p : ℕ). old ++ hex_digits (8 - p) (n / 2 ^ (4 * p))) turn in
      record {
        turns = omega arith;
        puts =
            puts
            ∙ rw (before, e)
            (append_assoc old (hex_digits (8 - suc k) (n / 2 ^ (4 * suc k))) (digit (n / 2 ^ (4 * k) % 16) ∷ [])
            ∙ ap (λ (l : List ℕ). old ++ l) (one_more n k few));
      }

-- ---- a decimal number

-- one digit is enough for a number below 10
one_digit : (k n : ℕ) → n < 10 → decimal_digits (suc k) n ≡ digit n ∷ []
unfolding decimal_digits
one_digit k n h = rw (lt-ltb n 10 h)

more_digits : (k n : ℕ) → 10 ≤ n → decimal_digits (suc k) n ≡ decimal_digits k (n / 10) ++ (digit (n % 10) ∷ [])
unfolding decimal_digits
more_digits k n h = rw (le-ltb n 10 h)

fewer_left : (n k : ℕ) → n < 10 ^ suc k → n / 10 < 10 ^ k
fewer_left n k h = (div-lt_iff_lt-mul (lit< tt)).1 (rw (pow-suc 10 k) at h)

-- where k digits are enough, one more changes nothing
enough_digits : (k n : ℕ) → n < 10 ^ suc k → decimal_digits (suc k) n ≡ decimal_digits (suc (suc k)) n
enough_digits zero n h = one_digit zero n h ∙ sym (one_digit 1 n h)
enough_digits (suc k) n h =
    elim (dec_lt n 10) [
      | yes one ↦ one_digit (suc k) n one ∙ sym (one_digit (suc (suc k)) n one)
      | no more ↦
          more_digits (suc k) n (omega arith)
          ∙ ap (λ (front : List ℕ). front ++ (digit (n % 10) ∷ [])) (enough_digits k (n / 10) (fewer_left n (suc k) h))
          ∙ sym (more_digits (suc (suc k)) n (omega arith))
    ]

pub decimal_one : (n : ℕ) → n < 10 → decimal n ≡ digit n ∷ []
decimal_one n h = one_digit 9 n h

pub decimal_more : (n : ℕ) → 10 ≤ n → n < 2 ^ 32 → decimal n ≡ decimal (n / 10) ++ (digit (n % 10) ∷ [])
decimal_more n more h =
    more_digits 9 n (omega arith)
    ∙ ap (λ (front : List ℕ). front ++ (digit (n % 10) ∷ [])) (enough_digits 8 (n / 10) (omega arith))

-- ---- how many digits

pub eight : (n : ℕ) → 8 ≡ length (hex_digits 8 n)
eight n = sym (length-hex 8 n)

length-cond : (b : Bool) (x y : List ℕ) (k : ℕ) → length x ≤ k → length y ≤ k → length (cond b x y) ≤ k
length-cond true x y k h g = h
length-cond false x y k h g = g

pub decimal_few : (k n : ℕ) → length (decimal_digits k n) ≤ k
unfolding decimal_digits
decimal_few zero n = lit≤ tt
decimal_few (suc k) n =
    let last = digit (n % 10) ∷ [] in
    length-cond (ltb n 10) _ _ (suc k) (omega arith) (omega (arith, length-append (decimal_digits k (n / 10)) last, decimal_few k (n / 10)))

-- a number's digits before the last leave room for it
pub decimal_room : (n : ℕ) → n < 2 ^ 32 → length (decimal (n / 10)) < 10
decimal_room n h =
    let few : length (decimal_digits 9 (n / 10)) ≤ 9 = decimal_few 9 (n / 10) in
    omega (arith, few, ap length (enough_digits 8 (n / 10) (omega arith)))
