-- Walks, from a state that stands for counters and lines to one that does, or a forgery.
use Rattle.std.proofs.Common.{◌≡◌, ◌<◌, inl, inr, ℕ, Option, None, Some}
use Rattle.std.proofs.Common.{option_map, refl, sym, ap, ◌∙◌, subst, arith}
use Rattle.asc_base.proofs.Families.{parent_above}
use Rattle.asc_base.proofs.ShapeFacts.{shape_layered}
use Rattle.asc_base.specs.Has.{Has}
use Rattle.asc_base.specs.Shape.{parent_in}
use Rattle.asc_base.specs.TreeShape.{parent_of}
use Rattle.asc_base.specs.declared.block.Address.{Address}
use Rattle.asc_base.specs.declared.block.Line.{Line}
use Rattle.asc_base.specs.declared.shape.Shape.{Shape}
use Rattle.oram_contents.specs.Counts.{Ghost, line_at}
use Rattle.oram_contents.specs.Entries.{Keys, AreKeys}
use Rattle.oram_walk.specs.Front.{FrontState, group_at, stepped_by, stepped_under, full_parent, counter_in, stepped}
use Rattle.oram_walk.specs.Plans.{step_plan, group_plan, full_plan, visit_plan}
use Rattle.oram_walk.specs.declared.slots.Access.{Access}
use Rattle.oram_walk.specs.declared.slots.Purpose.{Purpose}
use Rattle.oram_walk.specs.declared.slots.Seen.{Seen}
use Rattle.posmap_counters.specs.Group.{GroupState}
use Rattle.oram_lines.specs.Noted.{NotedState}
use Rattle.oram_lines.specs.Standing.{IsCalm, SameData, FitsPurpose, after_access, later}
use Rattle.oram_lines.specs.Shown.{ParentFirst}
use Rattle.oram_lines.proofs.MoveTriples.{SameFront, HasRoom, move_comes}
use Rattle.oram_lines.proofs.NotedLaws.{StandsNoted}
use Rattle.oram_lines.proofs.ShownMoves.{full_shown}
use Rattle.oram_lines.proofs.StepTriples.{Comes, comes_on, step_comes}

module _ (keys : Keys) (lawful : AreKeys keys) (levels : ℕ) where
  -- the parent of a block, by numbers and by addresses
  pub parent_as : (shape : Shape) (a p : Address) → parent_in shape a ≡ Some p
      → parent_of shape.lines shape.layers a.0 ≡ Some p.0
  parent_as shape a p up = by_parent (parent_of shape.lines shape.layers a.0) refl up
    where
      by_parent : (o : Option ℕ) → parent_of shape.lines shape.layers a.0 ≡ o
          → option_map (λ n. record { 0 = n }) o ≡ Some p → parent_of shape.lines shape.layers a.0 ≡ Some p.0
      by_parent None is up = absurd (let bad : ◌≡◌ {A = Option Address} None (Some p) = up in cc)
      by_parent (Some q) is up =
          let same : ◌≡◌ {A = Address} (record { 0 = q }) p = cc in
          is ∙ ap (λ (x : Address). Some x.0) same

  -- a step of the chip keeps its sizes
  stepped_front : (front : FrontState) (a : Address) → SameFront front (stepped front a)
  stepped_front front a = by_parent (parent_in front.shape a)
    where
      by_group : (p : Address) (o : Option GroupState) → SameFront front (stepped_under front a p o)
      by_group p None = record { shape = refl; ic = refl; plb = refl }
      by_group p (Some group) = record { shape = refl; ic = refl; plb = refl }

      by_parent : (o : Option Address) → SameFront front (stepped_by front a o)
      by_parent None = record { shape = refl; ic = refl; plb = refl }
      by_parent (Some p) = by_group p (group_at front.held p)

  pub front_then : (a b c : FrontState) → SameFront a b → SameFront b c → SameFront a c
  front_then a b c x y =
      record { shape = y.shape ∙ x.shape; ic = y.ic ∙ x.ic; plb = y.plb ∙ x.plb }

-- What a walk's accesses come to where a request began with the lines of a memory, and each of its answers is noted.
module _ (keys : Keys) (lawful : AreKeys keys) (levels : ℕ) (began : ℕ → Line) where
  -- A group move where one must come.
  pub group_comes : (front : FrontState) (g : Ghost) (s : NotedState) (asked : ℕ) (a : Address)
      → StandsNoted keys levels began 0 front g s → IsCalm g → ParentFirst keys g a.0 → a.0 < keys.shape.total
      → Comes keys lawful levels began (group_plan front asked a) s
      (λ later_front end t. HasRoom keys lawful levels began front g a later_front t)
  group_comes front g s asked a st calm first inside = by_full (full_parent front a) refl
    where
      by_full : (o : Option (Address × GroupState)) → full_parent front a ≡ o
          → Comes keys lawful levels began (full_plan front asked o) s
          (λ later_front end t. HasRoom keys lawful levels began front g a later_front t)
      by_full None none = λ t later_front end ends.
          inr (subst (λ (f : FrontState). HasRoom keys lawful levels began front g a f t)
          (sym (ap (λ (x : FrontState × ℕ). x.0) ends.0))
          (subst (λ (y : NotedState). HasRoom keys lawful levels began front g a front y) (sym ends.1) (record {
            h = g;
            stands = st;
            calm = calm;
            room = none;
            held = refl;
            lines = λ b leaf. refl;
            front_is = record { shape = refl; ic = refl; plb = refl };
          })))
      by_full (Some (p, group)) is =
          let full = full_shown keys lawful front g a p group st.port.shown first inside is in
          let within = (parent_above keys.shape.lines keys.shape.layers a.0 p.0
          (omega (arith, inside, (shape_layered keys.shape lawful.shape).total)) full.parent).1 in
          move_comes keys lawful levels began front g s asked a p group st calm full
          (omega (arith, within, (shape_layered keys.shape lawful.shape).total))

  -- An access that is asked for was served, after the group move that it may have needed.
  pub record Visited (front : FrontState) (g : Ghost) (a : Address) (purpose : Purpose) (later_front : FrontState)
      (seen : Seen) (t : NotedState) : Type 0 where
    pub h : Ghost
    pub access : Access
    pub address : access.address ≡ a
    pub next : access.next ≡ counter_in later_front a
    pub calm : IsCalm h
    pub stands : StandsNoted keys levels began 1 later_front (after_access keys.shape h access purpose) t
    pub line : seen.line.0 ≡ line_at keys.shape h a.0
    pub held : h.held ≡ g.held
    pub lines : SameData keys g h
    pub front_is : SameFront front later_front

  pub visit_comes : (front : FrontState) (g : Ghost) (s : NotedState) (asked : ℕ) (a : Address) (purpose : Purpose)
      → StandsNoted keys levels began 0 front g s → IsCalm g → ParentFirst keys g a.0 → a.0 < keys.shape.total
      → (Has a.0 g.held → ⊥) → FitsPurpose keys.shape a.0 purpose
      → Comes keys lawful levels began (visit_plan front asked a purpose) s
      (λ later_front seen t. Visited front g a purpose later_front seen t)
  visit_comes front g s asked a purpose st calm first inside unheld fits =
      comes_on keys lawful levels began (group_plan front asked a) (λ now end. step_plan now end a purpose) s
      (λ now end m. HasRoom keys lawful levels began front g a now m)
      (λ later_front seen t. Visited front g a purpose later_front seen t)
      (group_comes front g s asked a st calm first inside)
      (λ now end m x t later_front seen ends.
      elim (step_comes keys lawful levels began now x.h m end a purpose x.stands x.calm inside
      (λ p up. let (rest, is) = first p up in (rest, x.held ∙ is))
      (λ has. unheld (subst (Has a.0) x.held has)) x.room fits t later_front seen ends) [
        | inl forged ↦ inl forged
        | inr done_it ↦
            (let (k, is, stands, line) = done_it in
            inr (subst (λ (f : FrontState). Visited front g a purpose f seen t) (sym is) (record {
              h = later x.h k;
              access = record {
                asked = end;
                address = a;
                counter = counter_in now a;
                next = counter_in (stepped now a) a;
                purpose = purpose;
              };
              address = refl;
              next = refl;
              calm = record {
                flight = x.calm.flight;
                pend = x.calm.pend;
                stepped = x.calm.stepped;
                move = x.calm.move;
              };
              stands = stands;
              line = line;
              held = x.held;
              lines = x.lines;
              front_is = front_then keys lawful levels front now (stepped now a) x.front_is
                  (stepped_front keys lawful levels now a);
            })))
      ])
