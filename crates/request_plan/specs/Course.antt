-- A plan run on a list of noted items: some requests take their answer from the next item, the others have a known one.
use Rattle.std.specs.Prelude.{◌≡◌, List, [], ◌∷◌, ◌++◌, Option, Some, None}
use Rattle.request_plan.specs.Plan.{Plan, Done, Ask}

-- Where the answer to a request comes from: it is this; or it is read from the next item, if that is one for it.
pub data Source (N X : Type 0) : Type 0 where
  Known : X → Source N X
  Noted : (N → Option X) → Source N X

-- What comes of it: the outcome, and the items left over; or a request for which none is left, and what the plan
-- leaves there; or an item that isn't one for its request.
pub data Course (N Q B A : Type 0) : Type 0 where
  Finished : A → List N → Course N Q B A
  Starved : Q → B → Course N Q B A
  Astray : Course N Q B A

-- how a course goes on from what was read
abbrev pub after_read : {N Q X B A : Type 0} → (X → Course N Q B A) → Option X → Course N Q B A
after_read go None = Astray
after_read go (Some x) = go x

-- how a course goes on from a request
abbrev pub after_source : {N Q X B A : Type 0}
    → Q → B → (X → List N → Course N Q B A) → Source N X → List N → Course N Q B A
after_source q b go (Known x) items = go x items
after_source q b go (Noted read) [] = Starved q b
after_source q b go (Noted read) (item ∷ items) = after_read (λ x. go x items) (read item)

-- The plan run on these items.
abbrev pub course : {N Q X B A : Type 0} → (Q → Source N X) → Plan Q X B A → List N → Course N Q B A
course source (Done a) items = Finished a items
course source (Ask q b k) items = after_source q b (λ x rest. course source (k x) rest) (source q) items

-- how a course goes on into the next plan: what is left by a stop in the first is put as the next has it
abbrev pub after_course : {N Q B C A D : Type 0}
    → (B → C) → (A → List N → Course N Q C D) → Course N Q B A → Course N Q C D
after_course put go (Finished a items) = go a items
after_course put go (Starved q b) = Starved q (put b)
after_course put go Astray = Astray

-- An answer is the known one and nothing is noted; or one item more is noted, from which the answer is read.
abbrev pub Notes : {N X : Type 0} → Source N X → List N → X → List N → Type 0
Notes (Known y) before x after = (after ≡ before) × (x ≡ y)
Notes {N} (Noted read) before x after = (item : N) × (after ≡ before ++ item ∷ []) × (read item ≡ Some x)

-- All items were used, each for its request.
abbrev pub UsesAll : {N Q B A : Type 0} → Course N Q B A → Type 0
UsesAll (Finished a items) = items ≡ []
UsesAll (Starved q b) = Unit {0}
UsesAll Astray = ⊥
