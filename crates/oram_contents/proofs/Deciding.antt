-- The test for a forgery decides it.
use Rattle.std.proofs.Common.{◌≡◌, ◌≤◌, ◌⊎◌, inl, inr, ℕ, Bool, true, false, not, ◌==◌, ◌&&◌, ◌||◌, nat_le}
use Rattle.std.proofs.Common.{if◌then◌else◌, List, [], ◌∷◌, ◌++◌, length, refl, sym, ◌∙◌, ap, subst, arith}
use Rattle.std.proofs.Common.{append_assoc, append-nil}
use Rattle.std.specs.Prelude.{bytes_eq}
use Rattle.std.specs.Bool.{Decides}
use Rattle.std.proofs.lemmas.Bool.Decides.{Decides-like, Decides-not, Decides-and, Decides-or, Decides-eqb}
use Rattle.std.proofs.lemmas.Bool.Decides.{leb_tells, not_from_Decides}
use Rattle.std.proofs.lemmas.Slice.Eq.{bytes_eq-Decides}
use Rattle.asc_base.specs.declared.block.Counter.{Counter}
use Rattle.asc_base.specs.declared.block.Entry.{Entry}
use Rattle.asc_base.specs.declared.block.Leaf.{Leaf}
use Rattle.asc_base.specs.declared.block.Message.{Message}
use Rattle.asc_base.specs.declared.block.Point.{Point}
use Rattle.asc_base.specs.declared.block.Point.TheVariants.{Real, Dummy}
use Rattle.bus_watch.specs.Log.{LogLists}
use Rattle.bus_watch.specs.declared.log.Altered.{Altered}
use Rattle.bus_watch.specs.declared.log.Event.{Event}
use Rattle.bus_watch.specs.declared.log.Event.TheVariants.{Access, Drawn, Tagged, Accepted, Chosen, Answered}
use Rattle.pmmac_tags.specs.Tag.{tag}
use Rattle.oram_contents.specs.Decided.{among, same_message, tags_it, draws, point_is, draws_it, last_draws_it}
use Rattle.oram_contents.specs.Decided.{reply_has, forged_at, forged_from, shows_forgery}
use Rattle.oram_contents.specs.Entries.{Keys, real, entries_in}
use Rattle.asc_base.specs.Has.{Has}
use Rattle.oram_contents.specs.Forgery.{Forgery, LastDrawn, Stood}
use Rattle.oram_contents.proofs.Among.{same_message as messages_same, tagged_same}
use Rattle.asc_base.proofs.Members.{has_right}

not_true : {P : Type 0} → (let b : Bool = false in b ≡ true) → P
not_true e = absurd (let bad : false ≡ true = e in cc)

decides_among : {A : Type 0} (test : A → Bool) (P : A → Type 0) → ((x : A) → Decides (test x) (P x)) → (xs : List A)
    → Decides (among test xs) ((x : A) × Has x xs × P x)
decides_among test P each [] = (not_true, λ h. absurd h.1)
decides_among test P each (y ∷ ys) =
    Decides-like (test y || among test ys)
    (λ h. elim h [ inl p ↦ (y, inl refl, p) | inr r ↦ (r.0, inr r.1, r.2) ])
    (λ h. elim h.1 [ inl is ↦ inl (subst P is h.2) | inr r ↦ inr (h.0, r, h.2) ])
    (Decides-or (test y) (among test ys) (each y) (decides_among test P each ys))

pub decides_message : (m n : Message) → Decides (same_message m n) (m ≡ n)
decides_message m n =
    Decides-like (same_message m n)
    (λ (h : (m.address.0 ≡ n.address.0) × ((m.counter.group ≡ n.counter.group)
    × ((m.counter.own ≡ n.counter.own) × (m.line.0 ≡ n.line.0)))). messages_same m n h.0 h.1.0 h.1.1.0 h.1.1.1)
    (λ is. (
      ap (λ (x : Message). x.address.0) is,
      (
        ap (λ (x : Message). x.counter.group) is,
        (ap (λ (x : Message). x.counter.own) is, ap (λ (x : Message). x.line.0) is),
      ),
    ))
    (Decides-and (m.address.0 == n.address.0) _ (Decides-eqb m.address.0 n.address.0)
    (Decides-and (m.counter.group == n.counter.group) _ (Decides-eqb m.counter.group n.counter.group)
    (Decides-and (m.counter.own == n.counter.own) (bytes_eq m.line.0 n.line.0)
    (Decides-eqb m.counter.own n.counter.own) (bytes_eq-Decides m.line.0 n.line.0))))

decides_tags : (m : Message) (e : Event) → Decides (tags_it m e) (e ≡ Tagged m)
decides_tags m (Access start asked) = (not_true, λ is. absurd (let bad : Access start asked ≡ Tagged m = is in cc))
decides_tags m (Drawn p x) = (not_true, λ is. absurd (let bad : Drawn p x ≡ Tagged m = is in cc))
decides_tags m (Accepted n t) = (not_true, λ is. absurd (let bad : Accepted n t ≡ Tagged m = is in cc))
decides_tags m (Chosen index) = (not_true, λ is. absurd (let bad : Chosen index ≡ Tagged m = is in cc))
decides_tags m (Answered line value) = (not_true, λ is. absurd (let bad : Answered line value ≡ Tagged m = is in cc))
decides_tags m (Tagged n) = Decides-like (same_message m n) (λ is. ap Tagged (sym is)) (λ is. sym (tagged_same n m is))
    (decides_message m n)

-- the event is the draw of a point
abbrev IsDraw : Event → Type 0
IsDraw e = (p : Point) × (x : Leaf) × (e ≡ Drawn p x)

decides_draws : (e : Event) → Decides (draws e) (IsDraw e)
decides_draws (Access start asked) = (not_true, λ h. absurd (let bad : Access start asked ≡ Drawn h.0 h.1 = h.2 in cc))
decides_draws (Tagged n) = (not_true, λ h. absurd (let bad : Tagged n ≡ Drawn h.0 h.1 = h.2 in cc))
decides_draws (Accepted n t) = (not_true, λ h. absurd (let bad : Accepted n t ≡ Drawn h.0 h.1 = h.2 in cc))
decides_draws (Chosen index) = (not_true, λ h. absurd (let bad : Chosen index ≡ Drawn h.0 h.1 = h.2 in cc))
decides_draws (Answered line value) = (
  not_true,
  λ h. absurd
      (let bad : Answered line value ≡ Drawn h.0 h.1 = h.2 in cc),
)
decides_draws (Drawn p x) = (λ e. (p, x, refl), λ h. refl)

real_same : (a b : ℕ) (c d : Counter) → a ≡ b → c.group ≡ d.group → c.own ≡ d.own → real a c ≡ real b d
real_same a b c d is group own = λ i. real (is i) (record { group = group i; own = own i })

decides_point : (m : Message) (p : Point) → Decides (point_is m p) (p ≡ real m.address.0 m.counter)
decides_point m (Dummy n) = (not_true, λ is. absurd (let bad : Dummy n ≡ real m.address.0 m.counter = is in cc))
decides_point m (Real a c) =
    Decides-like (point_is m (Real a c))
    (λ (h : (a.0 ≡ m.address.0) × ((c.group ≡ m.counter.group) × (c.own ≡ m.counter.own))). real_same a.0 m.address.0 c
    m.counter h.0 h.1.0 h.1.1)
    (λ is. (ap (address_in) is, (ap (λ q. (counter_in q).group) is, ap (λ q. (counter_in q).own) is)))
    (Decides-and (a.0 == m.address.0) _ (Decides-eqb a.0 m.address.0)
    (Decides-and (c.group == m.counter.group) (c.own == m.counter.own) (Decides-eqb c.group m.counter.group)
    (Decides-eqb c.own m.counter.own)))
  where
    address_in : Point → ℕ
    address_in (Real b d) = b.0
    address_in (Dummy k) = 0

    counter_in : Point → Counter
    counter_in (Real b d) = d
    counter_in (Dummy k) = record { group = 0; own = 0 }

drawn_point : (p q : Point) (x y : Leaf) → Drawn p x ≡ Drawn q y → p ≡ q
drawn_point p q x y e = cc

decides_draws_it : (m : Message) (e : Event) → Decides (draws_it m e)
    ((x : Leaf) × (e ≡ Drawn (real m.address.0 m.counter) x))
decides_draws_it m (Access start asked) = (
  not_true,
  λ h. absurd
      (let bad : Access start asked ≡ Drawn (real m.address.0 m.counter) h.0 = h.1 in cc),
)
decides_draws_it m (Tagged n) = (
  not_true,
  λ h. absurd
      (let bad : Tagged n ≡ Drawn (real m.address.0 m.counter) h.0 = h.1 in cc),
)
decides_draws_it m (Accepted n t) = (
  not_true,
  λ h. absurd
      (let bad : Accepted n t ≡ Drawn (real m.address.0 m.counter) h.0 = h.1 in cc),
)
decides_draws_it m (Chosen index) = (
  not_true,
  λ h. absurd
      (let bad : Chosen index ≡ Drawn (real m.address.0 m.counter) h.0 = h.1 in cc),
)
decides_draws_it m (Answered line value) = (
  not_true,
  λ h. absurd
      (let bad : Answered line value ≡ Drawn (real m.address.0 m.counter) h.0 = h.1 in cc),
)
decides_draws_it m (Drawn p x) = Decides-like (point_is m p) (λ is. (x, ap (λ q. Drawn q x) is))
    (λ h. drawn_point p (real m.address.0 m.counter) x h.0 h.1) (decides_point m p)

-- a draw among events, or none
abbrev NoDraw : List Event → Type 0
NoDraw events = (p : Point) (x : Leaf) → Has (Drawn p x) events → ⊥

first_same : (e d : Event) (xs ys : List Event) → (e ∷ xs) ≡ (d ∷ ys) → (e ≡ d) × (xs ≡ ys)
first_same e d xs ys is = (cc, cc)

no_middle : {P : Type 0} (before after : List Event) (e : Event) → [] ≡ before ++ e ∷ after → P
no_middle [] after e is = absurd (let bad : [] ≡ (e ∷ after) = is in cc)
no_middle (d ∷ before) after e is = absurd (let bad : [] ≡ (d ∷ (before ++ e ∷ after)) = is in cc)

decides_last : (m : Message) (events : List Event) → Decides (last_draws_it m events)
    (LastDrawn events m.address.0 m.counter)
decides_last m [] = (not_true, λ h. no_middle h.0 h.1 (Drawn (real m.address.0 m.counter) h.2) h.3)
decides_last m (e ∷ later) = by_later (decides_last m later) (among draws later) refl
  where
    some_later : Decides (among draws later) ((x : Event) × Has x later × IsDraw x)
    some_later = decides_among draws IsDraw decides_draws later

    by_later : Decides (last_draws_it m later) (LastDrawn later m.address.0 m.counter) → (b : Bool)
        → among draws later ≡ b
        → Decides (if b then last_draws_it m later else draws_it m e) (LastDrawn (e ∷ later) m.address.0 m.counter)
    by_later next true is = Decides-like (last_draws_it m later)
        (λ h. (e ∷ h.0, h.1, h.2, ap (λ l. e ∷ l) h.3, h.4))
        (λ h. deeper h.0 h.1 h.2 h.3 h.4)
        next
      where
        deeper : (before after : List Event) (leaf : Leaf)
            → (e ∷ later) ≡ before ++ Drawn (real m.address.0 m.counter) leaf ∷ after → NoDraw after
            → LastDrawn later m.address.0 m.counter
        deeper [] after leaf same none =
            let parts = first_same e (Drawn (real m.address.0 m.counter) leaf) later after same in
            let draw = some_later.0 is in
            absurd (none draw.2.0 draw.2.1 (subst (λ l. Has (Drawn draw.2.0 draw.2.1) l) parts.1
            (subst (λ x. Has x later) draw.2.2 draw.1)))
        deeper (d ∷ before) after leaf same none =
            let parts = first_same e d later (before ++ Drawn (real m.address.0 m.counter) leaf ∷ after) same in
            (before, after, leaf, parts.1, none)
    by_later next false is = Decides-like (draws_it m e)
        (λ h. (
          [],
          later,
          h.0,
          ap (λ x. x ∷ later) h.1,
          λ p x has. not_from_Decides (among draws later) some_later is
              (Drawn p x, has, (p, x, refl)),
        ))
        (λ h. here h.0 h.1 h.2 h.3)
        (decides_draws_it m e)
      where
        here : (before after : List Event) (leaf : Leaf)
            → (e ∷ later) ≡ before ++ Drawn (real m.address.0 m.counter) leaf ∷ after
            → (x : Leaf) × (e ≡ Drawn (real m.address.0 m.counter) x)
        here [] after leaf same = (leaf, (first_same e (Drawn (real m.address.0 m.counter) leaf) later after same).0)
        here (d ∷ before) after leaf same =
            let parts = first_same e d later (before ++ Drawn (real m.address.0 m.counter) leaf ∷ after) same in
            absurd (not_from_Decides (among draws later) some_later is (
              Drawn (real m.address.0 m.counter) leaf,
              subst (λ l. Has (Drawn (real m.address.0 m.counter) leaf) l) (sym parts.1)
                  (has_right (Drawn (real m.address.0 m.counter) leaf) before
                  (Drawn (real m.address.0 m.counter) leaf ∷ after) (inl refl)),
              (real m.address.0 m.counter, leaf, refl),
            ))

module _ (keys : Keys) where
  decides_stood : (m : Message) (t : List ℕ) (reply : Altered)
      → Decides (reply_has keys m t reply) (Stood keys reply m.address.0 m.line.0 t)
  decides_stood m t reply =
      Decides-like (reply_has keys m t reply) (λ h. (h.0, h.1, h.2.0, h.2.1.0, h.2.1.1))
      (λ h. (h.0, h.1, (h.2, (h.3, h.4))))
      (decides_among (λ (e : Entry). (e.address.0 == m.address.0) && (bytes_eq e.line.0 m.line.0 && bytes_eq e.tag t))
      (λ (e : Entry). (e.address.0 ≡ m.address.0) × ((e.line.0 ≡ m.line.0) × (e.tag ≡ t)))
      (λ e. Decides-and (e.address.0 == m.address.0) _ (Decides-eqb e.address.0 m.address.0)
      (Decides-and (bytes_eq e.line.0 m.line.0) (bytes_eq e.tag t) (bytes_eq-Decides e.line.0 m.line.0)
      (bytes_eq-Decides e.tag t)))
      (entries_in keys reply.bytes))

  decides_le : (a b : ℕ) → Decides (nat_le a b) (a ≤ b)
  decides_le a b = elim (leb_tells a b) [
    | inl less ↦ (λ e. less.1, λ h. less.0)
    | inr more ↦
        (λ e. absurd (let bad : true ≡ false = sym e ∙ more.0 in cc), λ h. absurd (omega (arith, more.1)))
  ]

  -- the parts of a forgery at an event
  abbrev ForgedBy : List Altered → List Event → Message → List ℕ → Type 0
  ForgedBy altered earlier m t = (Has (Tagged m) earlier → ⊥)
      × (LastDrawn earlier m.address.0 m.counter × ((t ≡ tag keys.tags m)
      × ((reply : Altered) × Has reply altered × ((reply.before ≤ length earlier)
      × Stood keys reply m.address.0 m.line.0 t))))

  abbrev ForgedAt : List Altered → List Event → Event → Type 0
  ForgedAt altered earlier e = (m : Message) × (t : List ℕ) × (e ≡ Accepted m t) × ForgedBy altered earlier m t

  accepted_same : (m n : Message) (t u : List ℕ) → Accepted m t ≡ Accepted n u → (m ≡ n) × (t ≡ u)
  accepted_same m n t u is = (cc, cc)

  decides_at : (altered : List Altered) (earlier : List Event) (e : Event)
      → Decides (forged_at keys altered earlier e) (ForgedAt altered earlier e)
  decides_at altered earlier (Access start asked) = (
    not_true,
    λ h. absurd
        (let bad : Access start asked ≡ Accepted h.0 h.1 = h.2 in cc),
  )
  decides_at altered earlier (Drawn p x) = (not_true, λ h. absurd (let bad : Drawn p x ≡ Accepted h.0 h.1 = h.2 in cc))
  decides_at altered earlier (Tagged n) = (not_true, λ h. absurd (let bad : Tagged n ≡ Accepted h.0 h.1 = h.2 in cc))
  decides_at altered earlier (Chosen index) = (
    not_true,
    λ h. absurd
        (let bad : Chosen index ≡ Accepted h.0 h.1 = h.2 in cc),
  )
  decides_at altered earlier (Answered line value) = (
    not_true,
    λ h. absurd
        (let bad : Answered line value ≡ Accepted h.0 h.1 = h.2 in cc),
  )
  decides_at altered earlier (Accepted m t) =
      Decides-like (forged_at keys altered earlier (Accepted m t)) (λ h. (m, t, refl, h))
      (λ h. let same = accepted_same m h.0 t h.1 h.2 in subst (λ x. ForgedBy altered earlier x t) (sym same.0)
      (subst (λ x. ForgedBy altered earlier h.0 x) (sym same.1) h.3))
      (Decides-and (not (among (tags_it m) earlier)) _ never
      (Decides-and (last_draws_it m earlier) _ (decides_last m earlier)
      (Decides-and (bytes_eq t (tag keys.tags m)) _ (bytes_eq-Decides t (tag keys.tags m))
      (decides_among (λ (reply : Altered). nat_le reply.before (length earlier) && reply_has keys m t reply)
      (λ (reply : Altered). (reply.before ≤ length earlier) × Stood keys reply m.address.0 m.line.0 t)
      (λ reply. Decides-and (nat_le reply.before (length earlier)) (reply_has keys m t reply)
      (decides_le reply.before (length earlier)) (decides_stood m t reply)) altered))))
    where
      tagged : Decides (among (tags_it m) earlier) (Has (Tagged m) earlier)
      tagged = Decides-like (among (tags_it m) earlier) (λ h. subst (λ x. Has x earlier) h.2 h.1)
          (λ h. (Tagged m, h, refl)) (decides_among (tags_it m) (λ e. e ≡ Tagged m) (decides_tags m) earlier)

      never : Decides (not (among (tags_it m) earlier)) (Has (Tagged m) earlier → ⊥)
      never = Decides-not (among (tags_it m) earlier) tagged

  -- some event after these is forged
  abbrev ForgedFrom : List Altered → List Event → List Event → Type 0
  ForgedFrom altered earlier events = (before : List Event) × (e : Event) × (after : List Event)
      × (events ≡ before ++ e ∷ after) × ForgedAt altered (earlier ++ before) e

  decides_from : (altered : List Altered) (earlier events : List Event)
      → Decides (forged_from keys altered earlier events) (ForgedFrom altered earlier events)
  decides_from altered earlier [] = (not_true, λ h. no_middle h.0 h.2 h.1 h.3)
  decides_from altered earlier (d ∷ later) =
      Decides-like (forged_at keys altered earlier d || forged_from keys altered (earlier ++ d ∷ []) later)
      (λ h. elim h [
        | inl here ↦ ([], d, later, refl, subst (λ l. ForgedAt altered l d) (sym (append-nil earlier)) here)
        | inr r ↦ (
          d ∷ r.0,
          r.1,
          r.2,
          ap (λ l. d ∷ l) r.3,
          subst (λ l. ForgedAt altered l r.1)
              (append_assoc earlier (d ∷ []) r.0) r.4,
        )
      ])
      (λ h. place h.0 h.1 h.2 h.3 h.4)
      (Decides-or (forged_at keys altered earlier d) (forged_from keys altered (earlier ++ d ∷ []) later)
      (decides_at altered earlier d) (decides_from altered (earlier ++ d ∷ []) later))
    where
      place : (before : List Event) (e : Event) (after : List Event) → (d ∷ later) ≡ before ++ e ∷ after
          → ForgedAt altered (earlier ++ before) e
          → ForgedAt altered earlier d ⊎ ForgedFrom altered (earlier ++ d ∷ []) later
      place [] e after is at =
          let parts = first_same d e later after is in
          inl (subst (λ x. ForgedAt altered earlier x) (sym parts.0)
          (subst (λ l. ForgedAt altered l e) (append-nil earlier) at))
      place (b ∷ before) e after is at =
          let parts = first_same d b later (before ++ e ∷ after) is in
          inr (
            before,
            e,
            after,
            parts.1,
            subst (λ l. ForgedAt altered l e)
                (sym (append_assoc earlier (d ∷ []) before))
                (subst (λ x. ForgedAt altered (earlier ++ x ∷ before) e) (sym parts.0) at),
          )

  pub decides_forgery : (log : LogLists) → Decides (shows_forgery keys log) (Forgery keys log)
  decides_forgery log =
      Decides-like (shows_forgery keys log) to_forgery from_forgery (decides_from log.altered [] log.events)
    where
      to_forgery : ForgedFrom log.altered [] log.events → Forgery keys log
      to_forgery h = let f = h.4 in record {
        earlier = h.0;
        later = h.2;
        message = f.0;
        found = f.1;
        accepted = h.3 ∙ ap (λ x. h.0 ++ x ∷ h.2) f.2;
        never = f.3.0;
        point = f.3.1.0;
        valid = f.3.1.1.0;
        reply = f.3.1.1.1.0;
        altered = f.3.1.1.1.1;
        before = f.3.1.1.1.2.0;
        stood = f.3.1.1.1.2.1;
      }

      from_forgery : Forgery keys log → ForgedFrom log.altered [] log.events
      from_forgery f = (
        f.earlier,
        Accepted f.message f.found,
        f.later,
        f.accepted,
        (f.message, f.found, refl, (f.never, (f.point, (f.valid, (f.reply, f.altered, (f.before, f.stood)))))),
      )
