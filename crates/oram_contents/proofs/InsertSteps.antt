-- Between slots: the block of the next slot is known, and the one in flight comes to be held.
use Rattle.std.proofs.Common.{◌≡◌, inl, inr, ℕ, zero, suc, List, [], ◌∷◌, None, Some, sym, ◌∙◌, ap, take, slice_get}
use Rattle.bus_watch.specs.Log.{LogLists}
use Rattle.oram_contents.specs.Contents.{Contents}
use Rattle.oram_contents.specs.Entries.{Keys, AreKeys}
use Rattle.asc_base.specs.Has.{Has}
use Rattle.oram_contents.specs.Counts.{Ghost, IsAway}
use Rattle.oram_contents.specs.Provenance.{Sound}
use Rattle.oram_contents.specs.Steps.{inserted}

some_is : {a b : ℕ} → Some a ≡ Some b → a ≡ b
some_is e = cc

none_is_not : {a : ℕ} {P : Type 0} → None ≡ Some a → P
none_is_not {a} {P} e = absurd (let bad : None ≡ Some a = e in cc)

module _ (keys : Keys) (lawful : AreKeys keys) where
  has_take : (n : ℕ) (xs : List ℕ) (b : ℕ) → Has b (take n xs) → Has b xs
  has_take zero xs b h = absurd h
  has_take (suc n) [] b h = absurd h
  has_take (suc n) (x ∷ xs) b (inl is) = inl is
  has_take (suc n) (x ∷ xs) b (inr h) = inr (has_take n xs b h)

  has_get : (n : ℕ) (xs : List ℕ) (b : ℕ) → slice_get xs n ≡ Some b → Has b xs
  has_get n [] b is = none_is_not is
  has_get zero (x ∷ xs) b is = inl (sym (some_is is))
  has_get (suc n) (x ∷ xs) b is = inr (has_get n xs b is)

  -- the block in flight is held
  pub insert_sound : (log : LogLists) (g : Ghost) (now : Contents) (plb a : ℕ) → g.flight ≡ Some a
      → Sound keys log g now → Sound keys log (inserted g plb a) now
  insert_sound log g now plb a flying s = record {
    fresh = s.fresh;
    last = s.last;
    once = s.once;
    blank = s.blank;
    drawn = s.drawn;
    dummies = s.dummies;
    away = λ b is. s.away b (among b (elim is [
      | inl h ↦ has_take plb (a ∷ g.held) b h
      | inr at ↦ has_get plb
          (a ∷ g.held) b at
    ]));
    at_hand = s.at_hand;
    in_tree = s.in_tree;
  }
    where
      among : (b : ℕ) → Has b (a ∷ g.held) → IsAway g b
      among b (inl is) = inr (flying ∙ ap Some (sym is))
      among b (inr h) = inl h

  -- the block that the next slot is of
  pub pend_sound : (log : LogLists) (g : Ghost) (now : Contents) (a : ℕ) → g.pend ≡ None → Sound keys log g now
      → Sound keys log (record g { pend = Some a }) now
  pend_sound log g now a free s = record {
    fresh = s.fresh;
    last = s.last;
    once = s.once;
    blank = s.blank;
    drawn = λ b c x h. elim (s.drawn b c x h) [ inl less ↦ inl less | inr at ↦ none_is_not (sym free ∙ at.0) ];
    dummies = s.dummies;
    away = s.away;
    at_hand = s.at_hand;
    in_tree = s.in_tree;
  }
