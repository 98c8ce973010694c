-- Agree: what it is for the two block decoders of readings to agree. Claim: demand 3 of the decoder of signed bytes.
pub mod Agree
pub mod Claim
