-- One bucket more is written.
use Rattle.std.proofs.Common.{◌≡◌, ◌+◌, ℕ, List, refl, sym, ◌∙◌, ap, ap₂, slice_set, Option, add-one}
use Rattle.asc_base.specs.TreeShape.{bucket_of}
use Rattle.asc_base.specs.declared.block.Entry.{Entry}
use Rattle.bucket_codec.specs.Bucket.{bucket_text}
use Rattle.path_evict.specs.Placed.{taken_at}
use Rattle.oram_contents.specs.PathWritten.{places_of, four_slots, slots_at, sealed}

pub sealed-start : (key : List ℕ) (levels leaf seed : ℕ) (hand : List Entry) (mirror : List (List ℕ))
    → sealed key levels leaf seed hand mirror 0 ≡ mirror
unfolding sealed
sealed-start key levels leaf seed hand mirror = refl

pub sealed-next : (key : List ℕ) (levels leaf seed : ℕ) (hand : List Entry) (mirror : List (List ℕ)) (level : ℕ)
    → sealed key levels leaf seed hand mirror (level + 1) ≡ slice_set (sealed key levels leaf seed hand mirror level)
    (bucket_of levels leaf level) (bucket_text key (seed + level) (slots_at levels leaf hand level))
unfolding sealed
sealed-next key levels leaf seed hand mirror level = rw add-one refl

-- the same, by what the bus and the codec say of a write
pub next_bucket : (key : List ℕ) (levels leaf seed level number at : ℕ) (hand : List Entry) (places : List (Option ℕ))
    (slots : List (Option Entry)) (text : List ℕ) (old mid new : List (List ℕ))
    → number ≡ bucket_of levels leaf level → at ≡ level → places ≡ places_of levels leaf hand
    → slots ≡ four_slots (taken_at level places hand) → text ≡ bucket_text key (seed + at) slots
    → mid ≡ sealed key levels leaf seed hand old level → new ≡ slice_set mid number text
    → new ≡ sealed key levels leaf seed hand old (level + 1)
next_bucket key levels leaf seed level number at hand places slots text old mid new is at_is planned four spelled
    so_far wrote =
    wrote
    ∙ ap (λ (all : List (List ℕ)). slice_set all number text) so_far
    ∙ ap₂ (λ n t. slice_set (sealed key levels leaf seed hand old level) n t) is
    (spelled ∙ ap₂ (λ a s. bucket_text key (seed + a) s) at_is
    (four ∙ ap (λ p. four_slots (taken_at level p hand)) planned))
    ∙ sym (sealed-next key levels leaf seed hand old level)
