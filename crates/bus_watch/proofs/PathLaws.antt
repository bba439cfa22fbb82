-- One move more along a path.
use Rattle.std.proofs.Common.{◌≡◌, ◌≤◌, ◌+◌, ◌*◌, ℕ, zero, suc, Bool, [], ◌∷◌, ◌++◌, length, refl, sym, ◌∙◌, ap₂, subst}
use Rattle.std.proofs.Common.{arith, add-one, length-append}
use Rattle.asc_base.specs.TreeShape.{bucket_of, move_cycles}
use Rattle.asc_outside.specs.Memory.{MemoryState}
use Rattle.bus_watch.specs.declared.bus.Bus.{Bus}
use Rattle.bus_watch.specs.declared.log.Move.{Move}
use Rattle.bus_watch.specs.Log.{TapState}
use Rattle.bus_watch.specs.Made.{Made, Ran}
use Rattle.bus_watch.specs.Path.{move_along, along}
use Rattle.bus_watch.specs.Ready.{IsReady}
use Rattle.bus_watch.specs.RunEnd.{RunEnd, Whole}
use Rattle.bus_watch.proofs.MadeLaws.{made_none, made_then, same_none, same_then, ready_after}

-- the move of these parts
abbrev pub move_at : Bool → ℕ → ℕ → Move
move_at write at number = record { time = at; write = write; bucket = number }

pub along-none : (levels : ℕ) (write : Bool) (first leaf : ℕ) → along levels write first leaf 0 ≡ []
unfolding along
along-none levels write first leaf = refl

pub along-next : (levels : ℕ) (write : Bool) (first leaf level : ℕ)
    → along levels write first leaf (level + 1)
    ≡ along levels write first leaf level ++ move_along levels write first leaf level ∷ []
unfolding along
along-next levels write first leaf level = rw add-one refl

pub length-along : (levels : ℕ) (write : Bool) (first leaf number : ℕ)
    → length (along levels write first leaf number) ≡ number
unfolding along
length-along levels write first leaf zero = refl
length-along levels write first leaf (suc level) =
    omega (
      arith,
      length-append (along levels write first leaf level) (move_along levels write first leaf level ∷ []),
      length-along levels write first leaf level,
    )

-- the moves down to a level, and then the one at it
pub along-last : (levels : ℕ) (write : Bool) (first leaf level at number : ℕ) → at ≡ first + move_cycles * level
    → number ≡ bucket_of levels leaf level
    → along levels write first leaf level ++ move_at write at number ∷ [] ≡ along levels write first leaf (level + 1)
along-last levels write first leaf level at number at_is number_is =
    ap₂ (λ a n. along levels write first leaf level ++ move_at write a n ∷ []) at_is number_is
    ∙ sym (along-next levels write first leaf level)

pub made_root : (levels : ℕ) (write : Bool) (first leaf : ℕ) (m : MemoryState) (t : TapState)
    → Made Whole (along levels write first leaf 0) [] m m t t
made_root levels write first leaf m t =
    subst (λ moves. Made Whole moves [] m m t t) (sym (along-none levels write first leaf)) (made_none m t)

pub made_next : {end : RunEnd} {m m' m'' : MemoryState} {t t' t'' : TapState} (levels : ℕ) (write : Bool)
    (first leaf level at number : ℕ) → at ≡ first + move_cycles * level → number ≡ bucket_of levels leaf level
    → Made Whole (along levels write first leaf level) [] m m' t t'
    → Made end (move_at write at number ∷ []) [] m' m'' t' t''
    → Made end (along levels write first leaf (level + 1)) [] m m'' t t''
made_next {end} {m} {m'} {m''} {t} {t'} {t''} levels write first leaf level at number at_is number_is before last =
    subst (λ moves. Made end moves [] m m'' t t'')
    (along-last levels write first leaf level at number at_is number_is) (made_then before last)

-- what is ready for more than some moves along a path is ready for the others after them
pub ready_along : {end : RunEnd} {m m' : MemoryState} {t t' : TapState} (levels : ℕ) (write : Bool)
    (first leaf number : ℕ) (buckets all left events : ℕ) → IsReady buckets all events m t
    → Made end (along levels write first leaf number) [] m m' t t' → number + left ≤ all
    → IsReady buckets left events m' t'
ready_along levels write first leaf number buckets all left events ready made enough =
    ready_after buckets all events left events ready made
    (omega (arith, length-along levels write first leaf number, enough)) (omega arith)

module _ {M W : Type 0} (memory_of : M → MemoryState) (tap_of : W → TapState)
    (levels : ℕ) (write : Bool) (first leaf : ℕ) where
  pub ran_root : (bus : Bus M W) → Ran memory_of tap_of Whole (along levels write first leaf 0) [] bus bus
  ran_root bus = record {
    same = same_none bus;
    made = made_root levels write first leaf (memory_of bus.memory.now) (tap_of bus.tap.now);
  }

  pub ran_next : {end : RunEnd} {a b c : Bus M W} (level at number : ℕ) → at ≡ first + move_cycles * level
      → number ≡ bucket_of levels leaf level
      → Ran memory_of tap_of Whole (along levels write first leaf level) [] a b
      → Ran memory_of tap_of end (move_at write at number ∷ []) [] b c
      → Ran memory_of tap_of end (along levels write first leaf (level + 1)) [] a c
  ran_next level at number at_is number_is before last = record {
    same = same_then before.same last.same;
    made = made_next levels write first leaf level at number at_is number_is before.made last.made;
  }
