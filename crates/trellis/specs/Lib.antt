-- Register: the shift register and its coded bits. Keep: which coded bits are sent, and how many. Places: which reading
-- each place has. Codeword: what is sent for a list of inputs. Choice: what the code and rate numbers select. Standard:
-- what EN 300 744 says is transmitted. State: the register as a number. Inner: what the functions ask and ensure.
pub mod Register
pub mod Keep
pub mod Places
pub mod Codeword
pub mod Choice
pub mod Numbers
pub mod Standard
pub mod State
pub mod Inner
