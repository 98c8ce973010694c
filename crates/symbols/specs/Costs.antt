-- The phasor table, and what a branch costs in f32, each operation rounded once. Definitions only.
use Rattle.std.specs.Prelude.{List, [], ◌∷◌, ℕ, ◌+◌, ◌*◌, Float, get_or}
use Rattle.std.specs.Float.{binary32}
use Rattle.std.specs.Float.Ieee.{of_bits, neg, add, sub, mul}
use Rattle.best_path.specs.Run.{started_at}
use Rattle.butterflies.specs.Smallest.{smallest}
use Rattle.f32s.specs.Single.{zero32}
use Rattle.trellis.specs.declared.ConvCode.{ConvCode}
use Rattle.trellis.specs.State.{window, parity_of}
use Rattle.symbols.specs.declared.phasors.Phasor.{Phasor}

abbrev pub one32 : Float
one32 = of_bits binary32 0x3f80_0000

-- (1,0), (0,-1), (0,1), (-1,0)
abbrev pub phasors : List Phasor
phasors =
    record { re = one32; im = zero32 }
    ∷ record { re = zero32; im = neg one32 }
    ∷ record { re = zero32; im = one32 }
    ∷ record { re = neg one32; im = zero32 }
    ∷ []

-- indexed by twice the first coded bit plus the second
abbrev pub phasor_of : (c0 c1 : ℕ) → Phasor
phasor_of c0 c1 = get_or phasors (2 * c0 + c1) (record { re = one32; im = zero32 })

-- (re-e)·(re-e) + (im-f)·(im-f)
unfoldable pub cost : Float → Float → Phasor → Float
cost re im at =
    add binary32 (mul binary32 (sub binary32 re at.re) (sub binary32 re at.re))
    (mul binary32 (sub binary32 im at.im) (sub binary32 im at.im))

-- what the branch from the state s on the input i costs, where a symbol reads re and im
unfoldable pub costs : ConvCode → Float → Float → ℕ → ℕ → Float
unfolding cost parity_of
costs code re im s i =
    cost re im (phasor_of (parity_of code.g0 (window code s i)) (parity_of code.g1 (window code s i)))

-- State 0 starts at 0.0.
abbrev pub started : ConvCode → List Float
started code = started_at smallest code zero32
