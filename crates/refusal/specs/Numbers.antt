-- The refusals' numbers, one row each of document 01's table, in its order. Definitions only.
use Rattle.std.specs.Prelude.{ℕ}

-- the code number is no code's
abbrev pub unknown_code : ℕ
unknown_code = 1

-- the rate number is no rate's
abbrev pub unknown_rate : ℕ
unknown_rate = 2

-- one call brings more info bits or symbols than its limit
abbrev pub too_many : ℕ
too_many = 3

-- the output is shorter than needed
abbrev pub short_output : ℕ
short_output = 4

-- the scratch is shorter than needed
abbrev pub short_scratch : ℕ
short_scratch = 5

-- a used reading is NaN or infinite
abbrev pub bad_reading : ℕ
bad_reading = 6

-- a used symbol component is NaN or beyond ±1,024
abbrev pub bad_component : ℕ
bad_component = 7

-- the Varicode reader is given a bit above 1
abbrev pub bad_bit : ℕ
bad_bit = 8

-- the call's bits or character don't all fit in the queue
abbrev pub queue_full : ℕ
queue_full = 9

-- the program's input is too short or too long, or not 4 + 4k bytes
abbrev pub bad_input : ℕ
bad_input = 10

-- the Varicode writer is given a byte of 128 or above
abbrev pub bad_byte : ℕ
bad_byte = 11

-- a used signed byte is −128
abbrev pub bad_signed_byte : ℕ
bad_signed_byte = 12
