-- A queue in an array of `cap` slots with a head and a count: it goes round the array's end. Definitions only.
use Rattle.std.specs.Prelude.{List, [], ◌∷◌, ◌≡◌, ℕ, zero, suc, ◌+◌, ◌-◌, ◌%◌, ◌≤◌, ◌<◌, length, get_or, set, replicate}

-- how many bits a queue of bits takes, and how many characters one of characters
abbrev pub bit_room : ℕ
bit_room = 256

abbrev pub char_room : ℕ
char_room = 64

pub record Ring : Type 0 where
  pub slots : List ℕ
  pub head : ℕ
  pub count : ℕ

-- as many slots as there should be, with the head and the count within them
pub record InRange (cap : ℕ) (r : Ring) : Type 0 where
  pub size : length r.slots ≡ cap
  pub head : r.head < cap
  pub count : r.count ≤ cap

abbrev pub empty : ℕ → Ring
empty cap = record { slots = replicate cap 0; head = 0; count = 0 }

-- A record may be forged: its head and its count are read modulo one more than their largest value.
abbrev pub read_as : ℕ → Ring → Ring
read_as cap r = record { slots = r.slots; head = r.head % cap; count = r.count % (cap + 1) }

-- one element more behind the others, and several
abbrev pub put_one : ℕ → Ring → ℕ → Ring
put_one cap r v = record { slots = set r.slots ((r.head + r.count) % cap) v; head = r.head; count = r.count + 1 }

unfoldable pub put_all : ℕ → Ring → List ℕ → Ring
put_all cap r [] = r
put_all cap r (v ∷ vs) = put_all cap (put_one cap r v) vs

-- the element that is taken out next, and the queue without it
abbrev pub front : Ring → ℕ
front r = get_or r.slots r.head 0

abbrev pub rest : ℕ → Ring → Ring
rest cap r = record { slots = r.slots; head = (r.head + 1) % cap; count = r.count - 1 }

-- n elements from a place on, going round the end
unfoldable pub elements : ℕ → List ℕ → ℕ → ℕ → List ℕ
elements cap slots at zero = []
elements cap slots at (suc n) = get_or slots at 0 ∷ elements cap slots ((at + 1) % cap) n

-- what is inside, in the order in which it comes out
unfoldable pub inside : ℕ → Ring → List ℕ
unfolding elements
inside cap r = elements cap r.slots r.head r.count
