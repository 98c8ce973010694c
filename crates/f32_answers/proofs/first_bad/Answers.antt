-- `f32_answers::first_bad`: a search from the front. Assumes nothing.
use Rattle.std.proofs.Common.{◌≡◌, true, false, get_or, rules, arith}
use Rattle.std.proofs.lemmas.Iterator.{serves_from_Range, first_from_Range}
use Rattle.f32s.specs.Readings.{values_of}
use Rattle.f32s.specs.Single.{zero32, finite}
use Rattle.f32s.proofs.AllBytes.{length-values}
use Rattle.f32_answers.proofs.Used.{used_finds}
use Rattle.f32_answers.proofs.first_bad.Goals as goal

pub find-requires-clause-callable : goal.find-requires-clause-callable
find-requires-clause-callable c =
    let sized = length-values c.args.readings.floats.now c.args.readings.bytes.now in
    serves_from_Range (λ x q r. search rules) (λ x low high y is _ _ _ _ _ _ _. omega (arith, is, high, c.requires, sized))

pub returns : goal.returns
returns c =
    used_finds _ _ c.requires _
    (first_from_Range _ _ _ _
    (λ i. finite (get_or (values_of c.args.readings) i zero32) ≡ false)
    (λ i. finite (get_or (values_of c.args.readings) i zero32) ≡ true) c.find.ensures.ran
    (λ x q r. search rules) (λ x q r. search rules))
