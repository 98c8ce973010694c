-- Bytes read into a room behind those that stand there. Assumes nothing.
use Rattle.std.proofs.Common.{◌≡◌, ℕ, ◌+◌, ◌≤◌, Option, List, ◌++◌, length, take, sym, ap, ◌∙◌, subst, length-take-le}
use Rattle.std.proofs.Math.Seq.{take-append-add, take-append-le}
use Rattle.std.proofs.KnownBytes.{Consumes-trans}
use Rattle.std.specs.Io.KnownBytes.{Consumes}
use borrow.Rule.Slice.PartMut.{put_mid, post_of}

-- the front with n bytes of ys behind it, where ys was read to the room behind the front
front_more :
    (done k n : ℕ) (xs ys : List ℕ) → done ≤ length xs → n ≤ length ys →
    take done xs ++ take n ys ≡ take (done + n) (put_mid done k xs ys)
front_more done k n xs ys within fits =
    let front = take done xs in
    let behind = ys ++ post_of done k xs in
    sym
    (ap (λ (m : ℕ). take (m + n) (front ++ behind)) (sym (length-take-le done xs within))
    ∙ take-append-add front behind n
    ∙ ap (λ (l : List ℕ). front ++ l) (take-append-le n ys (post_of done k xs) fits))

-- n bytes more were read
pub read_more :
    (before at after : Option (List ℕ)) (done k : ℕ) (xs ys : List ℕ) (n : ℕ) → done ≤ length xs → n ≤ length ys →
    Consumes before at (take done xs) → Consumes at after (take n ys) →
    Consumes before after (take (done + n) (put_mid done k xs ys))
read_more before at after done k xs ys n within fits so_far read =
    subst (Consumes before after) (front_more done k n xs ys within fits) (Consumes-trans before at after _ _ so_far read)
