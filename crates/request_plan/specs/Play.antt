-- Plans against a server that answers every request: what comes of them, what records it makes, and a cut of those.
use Rattle.std.specs.Prelude.{◌≡◌, ℕ, List, [], ◌∷◌, ◌++◌, map, take}
use Rattle.request_plan.specs.Plan.{Plan, Done, Ask}

-- The outcome of a plan that is served from what is held, and what is held then.
abbrev pub served : {H Q X B A : Type 0} → (H → Q → X × H) → Plan Q X B A → H → A × H
served serve (Done a) held = (a, held)
served serve (Ask q b k) held = served serve (k ((serve held q).0)) ((serve held q).1)

-- A server of a layer's requests, made of what the layer asks and a server below.
abbrev pub joined : {H Q X P Y C G : Type 0}
    → (G → P → Y × G) → (H → Q → Plan P Y C (H × X)) → H × G → Q → X × (H × G)
joined serve layer state q =
    let below = served serve (layer (state.0) q) (state.1) in
    ((below.0).1, ((below.0).0, below.1))

-- What a server that keeps records does for a request: the records that it makes, what it holds then, and its answer.
pub record Turn (R H X : Type 0) : Type 0 where
  pub records : List R
  pub held : H
  pub answer : X

-- The records in order, each beside what the plan leaves at its request; what the server holds at the end; the outcome.
pub record Played (R H B A : Type 0) : Type 0 where
  pub records : List (R × B)
  pub held : H
  pub outcome : A

-- these records, each beside what is left
abbrev pub marked : {R B : Type 0} → B → List R → List (R × B)
marked b rs = map (λ r. (r, b)) rs

-- the records without it
abbrev pub bare : {R B : Type 0} → List (R × B) → List R
bare rs = map (λ r. r.0) rs

-- A plan played against such a server.
abbrev pub play : {R H Q X B A : Type 0} → (H → Q → Turn R H X) → Plan Q X B A → H → Played R H B A
play serve (Done a) held = record { records = []; held = held; outcome = a }
play serve (Ask q b k) held =
    let turn = serve held q in
    let rest = play serve (k (turn.answer)) (turn.held) in
    record { records = marked b (turn.records) ++ rest.records; held = rest.held; outcome = rest.outcome }

-- A play cut by a stop in one of its records: these were made before that one, and left is what the plan leaves there.
pub record IsHalt {R H B A : Type 0} (whole : Played R H B A) (done : List R) (cut : R) (left : B) : Type 0 where
  pub before : List (R × B)
  pub later : List (R × B)
  pub parts : whole.records ≡ before ++ (cut, left) ∷ later
  pub are : done ≡ bare before

-- what the last record leaves, or this where there is none
abbrev pub last_left : {R B : Type 0} → B → List (R × B) → B
last_left b [] = b
last_left b (r ∷ rs) = last_left (r.1) rs

-- The first k records of a play, and what the plan leaves at the last of them.
abbrev pub halt : {R H B A : Type 0} → B → Played R H B A → ℕ → List R × B
halt b whole k = (bare (take k (whole.records)), last_left b (take k (whole.records)))
