-- A front end stays one while its held blocks change, and what it displaces is a block of the shape.
use Rattle.std.proofs.Common.{◌≡◌, ℕ, zero, suc, ◌<◌, List, [], ◌∷◌, take, slice_get, nat_eq, Option, Some, None}
use Rattle.std.proofs.Common.{IfSome}
use Rattle.std.proofs.Common.{Result, Ok, Err, OnOk, OnErr, IfOk, ◌-◌, replicate, get_or, arith}
use Rattle.std.proofs.Common.{sym, ap, subst, ◌∙◌, inl, inr, refl}
use Rattle.std.specs.List.{find}
use Rattle.std.proofs.lemmas.List.{length-replicate}
use Rattle.asc_base.specs.Has.{Has}
use Rattle.asc_base.specs.declared.block.Address.{Address}
use Rattle.asc_base.specs.declared.stop.NoMemory.{NoMemory}
use Rattle.asc_base.proofs.Lookups.{find-has, without_first-has, promoted_first-some, promoted_first-none}
use Rattle.posmap_lookaside.specs.Addresses.{used}
use Rattle.posmap_lookaside.specs.Held.{promoted, changed, inserted, displaced, addresses_of}
use Rattle.posmap_lookaside.specs.Lookaside.{LookasideState, IsLookaside}
use Rattle.posmap_lookaside.specs.declared.held.Held.{Held}
use Rattle.posmap_lookaside.proofs.AddressLaws.{addresses_of-promoted, addresses_of-changed, addresses_of-inserted}
use Rattle.asc_base.specs.Settings.{IsConfig}
use Rattle.asc_base.specs.Shape.{IsShape}
use Rattle.asc_base.specs.TreeShape.{layer_count}
use Rattle.asc_base.specs.declared.settings.Config.{Config}
use Rattle.asc_base.proofs.ShapeFacts.{IsLayered, shape_layered}
use Rattle.oram_walk.specs.Front.{FrontState, IsFront, first_front}

-- what stands in a list that is used, or in the front of a list, stands in the list
used-has : (list : List ℕ) (a x : ℕ) → Has x (used list a) → Has x list
used-has list a x has = by (find (λ b. nat_eq b a) list) refl
  where
    by : (found : Option ℕ) → find (λ b. nat_eq b a) list ≡ found → Has x list
    by None none = subst (Has x) (promoted_first-none (λ b. nat_eq b a) list none) has
    by (Some y) found =
        elim (subst (Has x) (promoted_first-some (λ b. nat_eq b a) list y found) has) [
          | inl same ↦ subst (λ z. Has z list) (sym same) (find-has (λ b. nat_eq b a) list y found)
          | inr rest ↦ without_first-has (λ b. nat_eq b a) list x rest
        ]

take-has : (n : ℕ) (xs : List ℕ) (x : ℕ) → Has x (take n xs) → Has x xs
take-has zero xs x has = absurd has
take-has (suc n) [] x has = absurd has
take-has (suc n) (y ∷ xs) x (inl same) = inl same
take-has (suc n) (y ∷ xs) x (inr later) = inr (take-has n xs x later)

-- the front end with these held blocks
abbrev holding : FrontState → LookasideState → FrontState
holding front buffer =
    record { shape = front.shape; ic = front.ic; roots = front.roots; held = buffer.list; plb = buffer.capacity }

held_front : (front : FrontState) (buffer : LookasideState) → IsLookaside buffer
    → ((a : ℕ) → Has a (addresses_of buffer.list) → Has a (addresses_of front.held)) → IsFront front
    → IsFront (holding front buffer)
held_front front buffer whole only is = record {
  shape = is.shape;
  ic_from = is.ic_from;
  ic_to = is.ic_to;
  roots = is.roots;
  whole = whole;
  inside = λ a has. is.inside a (only a has);
}

-- a block is used
pub used_front : (front : FrontState) (address : Address) (buffer : LookasideState)
    → buffer.list ≡ promoted front.held address → IsLookaside buffer → IsFront front → IsFront (holding front buffer)
used_front front address buffer now whole is =
    held_front front buffer whole
    (λ a has. used-has (addresses_of front.held) address.0 a
    (subst (Has a) (ap addresses_of now ∙ addresses_of-promoted front.held address) has)) is

-- a block is changed, but not its address
pub changed_front : (front : FrontState) (change : Held → Held) (address : Address) (buffer : LookasideState)
    → ((held : Held) → (change held).address ≡ held.address) → buffer.list ≡ changed change front.held address
    → IsLookaside buffer → IsFront front → IsFront (holding front buffer)
changed_front front change address buffer keeps now whole is =
    held_front front buffer whole
    (λ a has. subst (Has a) (ap addresses_of now ∙ addresses_of-changed change front.held address keeps) has) is

-- a block is put first, where there was memory
pub inserted_front : (front : FrontState) (held : Held) (buffer : LookasideState)
    (result : Result (Option Held) NoMemory) → held.address.0 < front.shape.total
    → OnOk result (buffer.list ≡ inserted front.plb held front.held)
    → OnErr result (buffer ≡ record { list = front.held; capacity = front.plb })
    → IsLookaside buffer → IsFront front → IsFront (holding front buffer)
inserted_front front held buffer (Ok last) low now same whole is = record {
  shape = is.shape;
  ic_from = is.ic_from;
  ic_to = is.ic_to;
  roots = is.roots;
  whole = whole;
  inside = λ a has.
      let put = take-has front.plb (held.address.0 ∷ addresses_of front.held) a
      (subst (Has a) (ap addresses_of now ∙ addresses_of-inserted front.plb held front.held) has) in
      elim put [
        | inl first ↦ subst (λ b. b < front.shape.total) (sym first) low
        | inr other ↦ is.inside a other
      ];
}
inserted_front front held buffer (Err e) low now same whole is =
    held_front front buffer whole
    (λ a has. subst (λ (b : LookasideState). Has a (addresses_of b.list)) same has) is

-- what is displaced
last_inside : (total n : ℕ) (list : List Held) → ((a : ℕ) → Has a (addresses_of list) → a < total)
    → IfSome (slice_get list n) (λ block. block.address.0 < total)
last_inside total n [] all = tt
last_inside total zero (held ∷ list) all = all held.address.0 (inl refl)
last_inside total (suc n) (held ∷ list) all = last_inside total n list (λ a has. all a (inr has))

pub displaced_inside : (front : FrontState) (held : Held) (result : Result (Option Held) NoMemory)
    → held.address.0 < front.shape.total → IfOk result (λ last. last ≡ displaced front.plb held front.held)
    → IsFront front → IfOk result (λ last. IfSome last (λ block. block.address.0 < front.shape.total))
displaced_inside front held (Ok last) low is_last is =
    subst (λ (l : Option Held). IfSome l (λ block. block.address.0 < front.shape.total)) (sym is_last)
    (last_inside front.shape.total front.plb (held ∷ front.held) (λ a has. elim has [
      | inl first ↦ subst (λ b. b < front.shape.total) (sym first) low
      | inr other ↦ is.inside a other
    ]))
displaced_inside front held (Err e) low is_last is = tt

-- the front end at the start is one
pub first_is : (config : Config) → IsConfig config → IsFront (first_front config)
first_is config is = record {
  shape = is.is_shape;
  ic_from = is.ic.0;
  ic_to = is.ic.1;
  roots = length-replicate (layer_count config.shape.lines (config.shape.layers - 1)) 0;
  whole = record { some = is.plb.0; fits = omega arith; distinct = λ a. omega arith };
  inside = λ a has. absurd has;
}

pub new_is_first : (config : Config) (roots : List ℕ) (buffer : LookasideState) → IsShape config.shape
    → roots ≡ replicate (get_or config.shape.counts (config.shape.layers - 1) 0) 0
    → buffer ≡ record { list = []; capacity = config.plb }
    → record { shape = config.shape; ic = config.ic; roots = roots; held = buffer.list; plb = buffer.capacity }
    ≡ first_front config
new_is_first config roots buffer shape are_roots is_empty =
    let facts : IsLayered config.shape = shape_layered config.shape shape in
    let count = facts.counts (config.shape.layers - 1) (omega (arith, facts.layers_from)) in
    let zeros : roots ≡ replicate (layer_count config.shape.lines (config.shape.layers - 1)) 0 =
    are_roots ∙ ap (λ n. replicate n 0) count in
    cc
