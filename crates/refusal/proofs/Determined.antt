-- Any two outcomes that a contract allows are equal: the shapes of a call, and the promises that entries share. An outcome is
-- what the call returns, and what it leaves in each thing lent to it. Each crate's `Unique` has a law for each of its
-- entries. Assumes nothing.
use mathlib.Core.List.{List}
use mathlib.Core.Path.{◌≡◌, sym, ◌∙◌}
use denote.Ref.{MutBor}
use Rattle.refusal.specs.Answer.{Said}
use Rattle.refusal.specs.Lent.{Writes, WritesBoth}

-- of a call in place, whose contract is over named records: it is lent one thing, or two
abbrev pub Determined₂ : {A B : Type 0} → (A → B → Type 0) → Type 0
Determined₂ {A} {B} Allowed = (r r' : A) (out out' : B) → Allowed r out → Allowed r' out' → (r ≡ r') × (out ≡ out')

abbrev pub Determined₃ : {A B C : Type 0} → (A → B → C → Type 0) → Type 0
Determined₃ {A} {B} {C} Allowed =
    (r r' : A) (out out' : B) (scratch scratch' : C) → Allowed r out scratch → Allowed r' out' scratch' →
    (r ≡ r') × (out ≡ out') × (scratch ≡ scratch')

-- ---- by the records that contracts cite

-- at most one answer is allowed; and at most one answer and one list left in a lent buffer
abbrev pub Once : {R : Type 0} → (R → Type 0) → Type 0
Once {R} Allowed = (r r' : R) → Allowed r → Allowed r' → r ≡ r'

abbrev pub OnceLeft : {R X : Type 0} → (R → MutBor X → Type 0) → Type 0
OnceLeft {R} {X} Allowed =
    (r r' : R) (left left' : MutBor X) → Allowed r left → Allowed r' left' → (r ≡ r') × (left.now ≡ left'.now)

abbrev pub OnceBoth : {R X Y : Type 0} → (R → MutBor X → MutBor Y → Type 0) → Type 0
OnceBoth {R} {X} {Y} Allowed =
    (r r' : R) (out out' : MutBor X) (work work' : MutBor Y) → Allowed r out work → Allowed r' out' work' →
    (r ≡ r') × (out.now ≡ out'.now) × (work.now ≡ work'.now)

-- a way to read an answer that tells any two apart
abbrev pub Telling : {R A : Type 0} → (R → Said A → Type 0) → Type 0
Telling {R} {A} Answers = (said : Said A) → Once (λ (r : R). Answers r said)

pub writes_once :
    {R A B : Type 0} (Answers : R → Said A → Type 0) → Telling Answers →
    (said : Said A) (new given : List B) →
    OnceLeft (λ (r : R) (out : MutBor (List B)). Writes (Answers r) said new (record { given = given; left = out.now }))
writes_once Answers telling said new given r r' left left' p q =
    (telling said r r' p.answer q.answer, p.output ∙ sym q.output)

pub both_once :
    {R A B : Type 0} (Answers : R → Said A → Type 0) → Telling Answers →
    (said : Said A) (new given rows given' : List B) →
    OnceBoth (λ (r : R) (out work : MutBor (List B)).
    WritesBoth (Answers r) said new (record { given = given; left = out.now }) rows (record { given = given'; left = work.now }))
both_once Answers telling said new given rows given' r r' out out' work work' p q =
    (telling said r r' p.answer q.answer, p.output ∙ sym q.output, p.scratch ∙ sym q.scratch)
