-- Fetches and stores, from a state that stands for counters and lines to one that does, or a forgery.
use Rattle.std.proofs.Common.{◌≡◌, ◌<◌, ◌≤◌, ◌+◌, ◌-◌, ◌/◌, ◌⊎◌, inl, inr, ℕ, zero, suc, List, [], Option, None, Some}
use Rattle.std.proofs.Common.{length, refl, sym, ap, ◌∙◌, subst, arith, append-nil}
use Rattle.std.proofs.lemmas.Bool.{cases_eq}
use Rattle.request_plan.specs.Plan.{Done, Ask, Ends}
use Rattle.asc_base.proofs.Layers.{layer_of_is, layer_of-lt, index_of-lt, parent_of-top, parent_of-below}
use Rattle.asc_base.proofs.Layers.{children_of-line}
use Rattle.asc_base.proofs.Layers.{layer_count-next, layer_first-next, layer_first-le, layer_first-zero}
use Rattle.asc_base.proofs.Layers.{layer_count-zero}
use Rattle.asc_base.proofs.Families.{parent_above}
use Rattle.asc_base.proofs.ShapeFacts.{shape_layered}
use Rattle.asc_base.specs.TreeShape.{parent_of, children_of, layer_first, layer_of, index_of, IsInLayer}
use Rattle.asc_base.specs.declared.block.Address.{Address}
use Rattle.asc_base.specs.declared.block.Line.{Line}
use Rattle.asc_base.specs.declared.shape.Shape.{Shape}
use Rattle.oram_contents.specs.Counts.{Ghost, line_at, line_by, put_at}
use Rattle.oram_contents.specs.Entries.{Keys, AreKeys}
use Rattle.oram_contents.specs.Forgery.{Forgery}
use Rattle.oram_contents.specs.Slots.{done}
use Rattle.oram_contents.proofs.Lines.{put_same, put_other}
use Rattle.oram_contents.proofs.SmallLaws.{small_more}
use Rattle.oram_walk.specs.Front.{FrontState}
use Rattle.oram_walk.specs.Plans.{visit_plan, walk_plan, request_plan, fetch_plan, store_plan}
use Rattle.oram_walk.specs.Request.{Answer, Steps}
use Rattle.oram_walk.specs.declared.slots.Access.{Access}
use Rattle.oram_walk.specs.declared.slots.Purpose.{Purpose}
use Rattle.oram_walk.specs.declared.slots.Purpose.TheVariants.{Keep, Replace}
use Rattle.oram_walk.specs.declared.slots.Seen.{Seen}
use Rattle.rate_enforcer.specs.PortStep.{PortState, Resting}
use Rattle.oram_frontend.proofs.SlotLaws.{served_answer}
use Rattle.oram_frontend.specs.Access.{SlotStep}
use Rattle.oram_lines.specs.Noted.{NotedState, NotedStep, AreAnswersIn, lines_behind, IsMemoryOf}
use Rattle.oram_lines.specs.Standing.{StandsFor, IsCalm, SameData, FitsPurpose, after_access}
use Rattle.oram_lines.proofs.BetweenLaws.{answer_known}
use Rattle.oram_lines.proofs.MoveTriples.{SameFront, keep_data}
use Rattle.oram_lines.proofs.NotedLaws.{StandsNoted, noted_on, stands_first, ends_noted, all_lines, all_outside}
use Rattle.oram_lines.proofs.RequestTriples.{IsUnder, Walked, walk_comes}
use Rattle.oram_lines.proofs.StepTriples.{Comes, comes_on}
use Rattle.oram_lines.proofs.WalkTriples.{visit_comes, front_then}

module _ (keys : Keys) (lawful : AreKeys keys) (levels : ℕ) where
  -- a parent is one layer up
  parent_layer : (a p : ℕ) → a < layer_first keys.shape.lines keys.shape.layers
      → parent_of keys.shape.lines keys.shape.layers a ≡ Some p
      → layer_of keys.shape.lines keys.shape.layers p ≡ layer_of keys.shape.lines keys.shape.layers a + 1
  parent_layer a p inside up =
      let lines = keys.shape.lines in
      let layers = keys.shape.layers in
      elim (cases_eq (layer_of lines layers a + 1) layers) [
        | inl top ↦ (let none = parent_of-top lines layers a _ refl top in
            let bad : ◌≡◌ {A = Option ℕ} None (Some p) = sym none ∙ up in absurd (cc))
        | inr below_top ↦
            (let layer = layer_of lines layers a in
            let index = index_of lines layers a in
            let found = index_of-lt lines layers a inside in
            let of_layers = layer_of-lt lines layers a inside in
            let some = parent_of-below lines layers a layer refl below_top in
            let place : p ≡ layer_first lines (layer + 1) + index / 32 = cc in
            let count = layer_count-next lines layer in
            let rise = layer_first-next lines (layer + 1) in
            let within : IsInLayer lines (layer + 1) p = record { from = omega arith; below = omega arith } in
            layer_of_is lines layers (layer + 1) p (omega arith) within)
      ]

  -- no block has more layers above it than there are
  pub under : (above a : ℕ) → a < layer_first keys.shape.lines keys.shape.layers
      → keys.shape.layers ≤ layer_of keys.shape.lines keys.shape.layers a + 1 + above
      → IsUnder keys lawful levels above a
  under zero a inside high =
      parent_of-top keys.shape.lines keys.shape.layers a _ refl
      (omega (arith, layer_of-lt keys.shape.lines keys.shape.layers a inside))
  under (suc above) a inside high = λ p up.
      under above p (parent_above keys.shape.lines keys.shape.layers a p inside up).1
      (omega (arith, parent_layer a p inside up))

  -- a data line's layer is the lowest
  pub data_layer : (line : ℕ) → line < keys.shape.lines → layer_of keys.shape.lines keys.shape.layers line ≡ 0
  data_layer line below =
      let first = layer_first-next keys.shape.lines 0 in
      let zeroth = layer_first-zero keys.shape.lines in
      let count = layer_count-zero keys.shape.lines in
      layer_of_is keys.shape.lines keys.shape.layers 0 line (shape_layered keys.shape lawful.shape).layers_from
      (record { from = omega arith; below = omega arith })

  pub data_leaf : (line : ℕ) → line < keys.shape.lines → children_of keys.shape.lines keys.shape.layers line ≡ None
  data_leaf line below =
      children_of-line keys.shape.lines keys.shape.layers line 0 (sym (data_layer line below)) refl

  pub data_inside : (line : ℕ) → line < keys.shape.lines → line < keys.shape.total
  data_inside line below =
      let first = layer_first-next keys.shape.lines 0 in
      let zeroth = layer_first-zero keys.shape.lines in
      let count = layer_count-zero keys.shape.lines in
      let facts = shape_layered keys.shape lawful.shape in
      let more = layer_first-le keys.shape.lines 1 keys.shape.layers facts.layers_from in
      omega (arith, facts.total)

  -- the same bytes in the place of one line's
  pub put_alike : (f g : ℕ → List ℕ) (a : ℕ) (l : List ℕ) (b : ℕ) → f b ≡ g b → put_at f a l b ≡ put_at g a l b
  put_alike f g a l b same = elim (cases_eq b a) [
    | inl is ↦ ap (put_at f a l) is ∙ (put_same f a l ∙ sym (ap (put_at g a l) is ∙ put_same g a l))
    | inr other ↦ put_other f a l b other ∙ (same ∙ sym (put_other g a l b other))
  ]

-- What a request comes to where it began with the lines of a memory, and each of its answers is noted.
module _ (keys : Keys) (lawful : AreKeys keys) (levels : ℕ) (began : ℕ → Line) where
  -- A request for a line was served.
  pub record Requested (front : FrontState) (g : Ghost) (line : ℕ) (purpose : Purpose) (later_front : FrontState)
      (seen : Seen) (t : NotedState) : Type 0 where
    pub h : Ghost
    pub access : Access
    pub address : access.address ≡ record { 0 = line }
    pub calm : IsCalm h
    pub stands : StandsNoted keys levels began 1 later_front (after_access keys.shape h access purpose) t
    pub bytes : seen.line.0 ≡ g.data_lines line
    pub lines : SameData keys g h
    pub front_is : SameFront front later_front

  -- A request for a line: the walk to it, and its access.
  pub request_comes : (front : FrontState) (g : Ghost) (s : NotedState) (asked line : ℕ) (purpose : Purpose)
      → StandsNoted keys levels began 0 front g s → IsCalm g → line < keys.shape.lines
      → FitsPurpose keys.shape line purpose
      → Comes keys lawful levels began (request_plan front asked (record { 0 = line }) purpose) s
      (λ later_front seen t. Requested front g line purpose later_front seen t)
  request_comes front g s asked line purpose st calm below fits =
      comes_on keys lawful levels began (walk_plan front.shape.layers front asked (record { 0 = line }))
      (λ now end. visit_plan now end (record { 0 = line }) purpose) s
      (λ now end m. Walked keys lawful levels began front g (record { 0 = line }) now m)
      (λ later_front seen t. Requested front g line purpose later_front seen t)
      (subst (λ (sh : Shape). Comes keys lawful levels began (walk_plan sh.layers front asked (record { 0 = line })) s
      (λ now end m. Walked keys lawful levels began front g (record { 0 = line }) now m)) (sym st.port.shown.shape)
      (walk_comes keys lawful levels began keys.shape.layers front g s asked (record { 0 = line }) st calm
      (data_inside keys lawful levels line below) (under keys lawful levels keys.shape.layers line
      (omega (arith, data_inside keys lawful levels line below, (shape_layered keys.shape lawful.shape).total))
      (omega (arith, data_layer keys lawful levels line below)))))
      (λ now end m x t later_front seen ends.
      elim (visit_comes keys lawful levels began now x.h m end (record { 0 = line }) purpose x.stands x.calm x.first
      (data_inside keys lawful levels line below) (λ has. let family = x.stands.port.shown.groups.families line has in
      absurd (let bad : ◌≡◌ {A = Option (ℕ × ℕ)} None (Some family.0) = sym (data_leaf keys lawful levels line below)
      ∙ family.1 in cc))
      fits t later_front seen ends) [
        | inl forged ↦ inl forged
        | inr y ↦ inr (record {
          h = y.h;
          access = y.access;
          address = y.address;
          calm = y.calm;
          stands = y.stands;
          bytes = y.line ∙ (ap (line_by y.h.count (y.h.data_lines line)) (data_leaf keys lawful levels line below)
              ∙ (y.lines line (data_leaf keys lawful levels line below)
              ∙ x.lines line (data_leaf keys lawful levels line below)));
          lines = λ b leaf. y.lines b leaf ∙ x.lines b leaf;
          front_is = front_then keys lawful levels front now later_front x.front_is y.front_is;
        })
      ])

  -- A fetch answers the line's bytes, and changes no line.
  pub fetch_comes : (front : FrontState) (g : Ghost) (s : NotedState) (asked line : ℕ)
      → StandsNoted keys levels began 0 front g s → IsCalm g → line < keys.shape.lines
      → Comes keys lawful levels began (fetch_plan front asked line) s
      (λ later_front seen t. (h : Ghost) × StandsNoted keys levels began 0 later_front h t × IsCalm h
      × SameData keys g h × (seen.line.0 ≡ g.data_lines line))
  fetch_comes front g s asked line st calm below =
      comes_on keys lawful levels began (request_plan front asked (record { 0 = line }) Keep)
      (λ now seen. Ask (Answer line seen.line) now (λ _. Done (now, seen))) s
      (λ now seen m. Requested front g line Keep now seen m)
      (λ later_front seen t. (h : Ghost) × StandsNoted keys levels began 0 later_front h t × IsCalm h
      × SameData keys g h × (seen.line.0 ≡ g.data_lines line))
      (request_comes front g s asked line Keep st calm below tt)
      (λ now seen m x t later_front last ends.
      let (nothing_is, n, one, (outcome, same)) = ends in
      let a : ℕ = x.access.address.0 in
      let h : Ghost = done x.h a x.access.next (line_at keys.shape x.h a) in
      let (notes, least, rests) = x.stands.port.rests in
      let fewer : Resting ((notes - 1) + 1) levels m.port =
      subst (λ k. Resting k levels m.port) (omega arith) rests in
      let (served, keeps) = served_answer keys levels (notes - 1) line seen.line nothing_is m.port n.port
      x.stands.port.known.fits fewer one.0 in
      let known = answer_known keys lawful h line seen.line m.port n.port levels (notes - 1) x.stands.port.known served
      keeps in
      let stands : StandsNoted keys levels began 0 now h n = record {
        port = record {
          known = known;
          shown = x.stands.port.shown;
          small = small_more keys.shape now.ic m.port.tap.log n.port.tap.log _ [] h.count
              (record {
                events_are = served.events;
                altered_are = served.altered ∙ sym (append-nil m.port.tap.log.altered);
              })
              x.stands.port.small;
          rests = (keeps.rests.0, omega arith, keeps.rests.2);
        };
        noted = noted_on keys began h h m n (Answer line seen.line) nothing_is x.stands.noted one.1 tt
            x.stands.noted.outside;
      } in
      inr (
        h,
        subst (λ (f : FrontState). StandsNoted keys levels began 0 f h t)
            (sym (ap (λ (z : FrontState × Seen). z.0) outcome))
            (subst (λ (y : NotedState). StandsNoted keys levels began 0 now h y) (sym same) stands),
        record { flight = refl; pend = refl; stepped = refl; move = x.calm.move },
        (λ b leaf. keep_data keys lawful levels x.h a b leaf ∙ x.lines b leaf),
        ap (λ (z : FrontState × Seen). z.1.line.0) outcome ∙ x.bytes,
      ))

  -- A store changes that line alone.
  pub store_comes : (front : FrontState) (g : Ghost) (s : NotedState) (asked line : ℕ) (value : Line)
      → StandsNoted keys levels began 0 front g s → IsCalm g → line < keys.shape.lines → length value.0 ≡ 64
      → Comes keys lawful levels began (store_plan front asked line value) s
      (λ later_front end t. (h : Ghost) × StandsNoted keys levels began 0 later_front h t × IsCalm h
      × ((b : ℕ) → children_of keys.shape.lines keys.shape.layers b ≡ None
      → h.data_lines b ≡ put_at g.data_lines line value.0 b))
  store_comes front g s asked line value st calm below whole =
      comes_on keys lawful levels began (request_plan front asked (record { 0 = line }) (Replace value))
      (λ now seen. Done (now, seen.end)) s
      (λ now seen m. Requested front g line (Replace value) now seen m)
      (λ later_front end t. (h : Ghost) × StandsNoted keys levels began 0 later_front h t × IsCalm h
      × ((b : ℕ) → children_of keys.shape.lines keys.shape.layers b ≡ None
      → h.data_lines b ≡ put_at g.data_lines line value.0 b))
      (request_comes front g s asked line (Replace value) st calm below
      (data_leaf keys lawful levels line below, whole))
      (λ now seen m x t later_front end ends.
      let h : Ghost = done x.h x.access.address.0 x.access.next value.0 in
      let stands : StandsNoted keys levels began 0 now h m = record {
        port = record {
          known = x.stands.port.known;
          shown = x.stands.port.shown;
          small = x.stands.port.small;
          rests = (x.stands.port.rests.0, omega arith, x.stands.port.rests.2);
        };
        noted = x.stands.noted;
      } in
      inr (
        h,
        subst (λ (f : FrontState). StandsNoted keys levels began 0 f h t)
            (sym (ap (λ (z : FrontState × ℕ). z.0) ends.0))
            (subst (λ (y : NotedState). StandsNoted keys levels began 0 now h y) (sym ends.1) stands),
        record { flight = refl; pend = refl; stepped = refl; move = x.calm.move },
        (λ b leaf. ap (λ (n : Address). put_at x.h.data_lines n.0 value.0 b) x.address
            ∙ put_alike keys lawful levels x.h.data_lines g.data_lines line value.0 b (x.lines b leaf)),
      ))

module _ (keys : Keys) (lawful : AreKeys keys) (levels : ℕ) where
  -- Each access along a fetch is answered with its block's line in a memory of the lines outside.
  pub fetch_answers : (front : FrontState) (g : Ghost) (s : PortState) (asked line : ℕ)
      → StandsFor keys levels 0 front g s → IsCalm g → line < keys.shape.lines → (lines : ℕ → Line)
      → IsMemoryOf keys g lines → (t : NotedState) (later : FrontState) (seen : Seen)
      → Ends (Steps (NotedStep keys levels)) (fetch_plan front asked line) (record { port = s; answers = [] }) t
      (later, seen)
      → Forgery keys t.port.tap.log ⊎ ((h : Ghost) × StandsFor keys levels 0 later h t.port × IsCalm h
      × SameData keys g h × (seen.line.0 ≡ g.data_lines line) × AreAnswersIn lines t.answers
      × IsMemoryOf keys h (lines_behind lines t.answers))
  fetch_answers front g s asked line st calm below lines outside t later seen ends =
      elim (fetch_comes keys lawful levels lines front g (record { port = s; answers = [] }) asked line
      (stands_first keys levels lines front g s st outside) calm below t later seen ends) [
        | inl forged ↦ inl forged
        | inr (h, stands, rest, same, bytes) ↦ inr
            (h, stands.port, rest, same, bytes, stands.noted.right, stands.noted.outside)
      ]

  pub store_answers : (front : FrontState) (g : Ghost) (s : PortState) (asked line : ℕ) (value : Line)
      → StandsFor keys levels 0 front g s → IsCalm g → line < keys.shape.lines → length value.0 ≡ 64
      → (lines : ℕ → Line) → IsMemoryOf keys g lines → (t : NotedState) (later : FrontState) (end : ℕ)
      → Ends (Steps (NotedStep keys levels)) (store_plan front asked line value) (record { port = s; answers = [] }) t
      (later, end)
      → Forgery keys t.port.tap.log ⊎ ((h : Ghost) × StandsFor keys levels 0 later h t.port × IsCalm h
      × ((b : ℕ) → children_of keys.shape.lines keys.shape.layers b ≡ None
      → h.data_lines b ≡ put_at g.data_lines line value.0 b)
      × AreAnswersIn lines t.answers × IsMemoryOf keys h (lines_behind lines t.answers))
  store_answers front g s asked line value st calm below whole lines outside t later end ends =
      elim (store_comes keys lawful levels lines front g (record { port = s; answers = [] }) asked line value
      (stands_first keys levels lines front g s st outside) calm below whole t later end ends) [
        | inl forged ↦ inl forged
        | inr (h, stands, rest, put) ↦ inr (h, stands.port, rest, put, stands.noted.right, stands.noted.outside)
      ]

  -- and where they aren't noted
  pub fetch_keeps : (front : FrontState) (g : Ghost) (s : PortState) (asked line : ℕ)
      → StandsFor keys levels 0 front g s → IsCalm g → line < keys.shape.lines
      → (t : PortState) (later : FrontState) (seen : Seen)
      → Ends (Steps (SlotStep keys levels)) (fetch_plan front asked line) s t (later, seen)
      → Forgery keys t.tap.log ⊎ ((h : Ghost) × StandsFor keys levels 0 later h t × IsCalm h × SameData keys g h
      × (seen.line.0 ≡ g.data_lines line))
  fetch_keeps front g s asked line st calm below t later seen ends =
      let (answers, noted) = ends_noted keys levels (fetch_plan front asked line) s t [] (later, seen) ends in
      elim (fetch_answers front g s asked line st calm below (all_lines keys g) (all_outside keys g)
      (record { port = t; answers = answers }) later seen noted) [
        | inl forged ↦ inl forged
        | inr (h, stands, rest, same, bytes, right, outside) ↦ inr (h, stands, rest, same, bytes)
      ]

  pub store_keeps : (front : FrontState) (g : Ghost) (s : PortState) (asked line : ℕ) (value : Line)
      → StandsFor keys levels 0 front g s → IsCalm g → line < keys.shape.lines → length value.0 ≡ 64
      → (t : PortState) (later : FrontState) (end : ℕ)
      → Ends (Steps (SlotStep keys levels)) (store_plan front asked line value) s t (later, end)
      → Forgery keys t.tap.log ⊎ ((h : Ghost) × StandsFor keys levels 0 later h t × IsCalm h
      × ((b : ℕ) → children_of keys.shape.lines keys.shape.layers b ≡ None
      → h.data_lines b ≡ put_at g.data_lines line value.0 b))
  store_keeps front g s asked line value st calm below whole t later end ends =
      let (answers, noted) = ends_noted keys levels (store_plan front asked line value) s t [] (later, end) ends in
      elim (store_answers front g s asked line value st calm below whole (all_lines keys g) (all_outside keys g)
      (record { port = t; answers = answers }) later end noted) [
        | inl forged ↦ inl forged
        | inr (h, stands, rest, put, right, outside) ↦ inr (h, stands, rest, put)
      ]
