-- Of each function, any two outcomes that its contract allows are equal. `Post` is the contract: of what the call is given, what
-- it returns, and what it leaves in each argument. Assumes nothing.
use Rattle.std.proofs.Common.{◌≡◌, sym, ◌∙◌}
use Rattle.text.proofs.Line.new.Reads as new
use Rattle.text.proofs.Line.written.Reads as written
use Rattle.text.proofs.Line.put.Reads as put
use Rattle.text.proofs.Line.put_byte.Reads as put_byte
use Rattle.text.proofs.Line.put_word.Reads as put_word
use Rattle.text.proofs.Line.put_hex.Reads as put_hex
use Rattle.text.proofs.Line.put_decimal.Reads as put_decimal

module _ (ROOM : _) (fits : _) (κs : _) where
  pub new_once : (r r' : _) → new.Post ROOM fits κs tt r tt → new.Post ROOM fits κs tt r' tt → r ≡ r'
  new_once r r' p q = p ∙ sym q

module _ (ROOM : _) (fits : _) (κs line r r' : _) where
  pub written_once :
      written.Post ROOM fits κs (line, tt) r (line, tt) → written.Post ROOM fits κs (line, tt) r' (line, tt) → r.now ≡ r'.now
  written_once (p, _) (q, _) = p ∙ sym q

module _ (ROOM : _) (fits : _) (κs line text left left' : _) where
  pub put_once :
      put.Post ROOM fits κs (line, (text, tt)) tt (left, (text, tt)) →
      put.Post ROOM fits κs (line, (text, tt)) tt (left', (text, tt)) → left.now ≡ left'.now
  put_once p q = p ∙ sym q

module _ (ROOM : _) (fits : _) (κs line byte left left' : _) where
  pub put_byte-once :
      put_byte.Post ROOM fits κs (line, (byte, tt)) tt (left, (byte, tt)) →
      put_byte.Post ROOM fits κs (line, (byte, tt)) tt (left', (byte, tt)) → left.now ≡ left'.now
  put_byte-once p q = p ∙ sym q

module _ (ROOM : _) (fits : _) (κs line word left left' : _) where
  pub put_word-once :
      put_word.Post ROOM fits κs (line, (word, tt)) tt (left, (word, tt)) →
      put_word.Post ROOM fits κs (line, (word, tt)) tt (left', (word, tt)) → left.now ≡ left'.now
  put_word-once p q = p ∙ sym q

module _ (ROOM : _) (fits : _) (κs line n left left' : _) where
  pub put_hex-once :
      put_hex.Post ROOM fits κs (line, (n, tt)) tt (left, (n, tt)) →
      put_hex.Post ROOM fits κs (line, (n, tt)) tt (left', (n, tt)) → left.now ≡ left'.now
  put_hex-once p q = p ∙ sym q

module _ (ROOM : _) (fits : _) (κs line n left left' : _) where
  pub put_decimal-once :
      put_decimal.Post ROOM fits κs (line, (n, tt)) tt (left, (n, tt)) →
      put_decimal.Post ROOM fits κs (line, (n, tt)) tt (left', (n, tt)) → left.now ≡ left'.now
  put_decimal-once p q = p ∙ sym q
