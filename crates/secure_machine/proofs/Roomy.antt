-- Plays of which no slot finds too many blocks to keep.
use Rattle.std.proofs.Common.{◌≡◌, ℕ, zero, suc, [], Some, None, refl, sym, ap, ◌∙◌}
use Rattle.std.specs.Prelude.{slice_get, take}
use Rattle.std.specs.Option.{option_map_or}
use Rattle.asc_base.specs.declared.stop.Stop.TheVariants as why
use Rattle.log_replay.specs.Judged.{verdict_on}
use Rattle.oram_contents.specs.Entries.{Keys}
use Rattle.run_play.specs.Halt as cut
use Rattle.run_play.specs.Halt.{halt, cut_at}
use Rattle.run_play.specs.Play.{Play}
use Rattle.secure_machine.specs.Full.{log_of, NoSlotIsFull}

-- a play without slots has none however it is cut
none_cut : (levels : ℕ) (whole : Play) → whole.slots ≡ [] → (k : ℕ) (stop : cut.Stop)
    → (halt levels whole k stop).slots ≡ []
none_cut levels whole none zero stop = refl
none_cut levels whole none (suc k) stop =
    ap (λ slots. (option_map_or (cut_at levels stop (take k whole.slots)) (slice_get slots k) whole).slots) none ∙ none

-- and so its log shows nothing to be wrong
none_shown : (keys : Keys) (stash : ℕ) (run : Play) → run.slots ≡ []
    → verdict_on keys stash (log_of keys run) ≡ None
none_shown keys stash run none =
    ap (λ slots. verdict_on keys stash (log_of keys (record run { slots = slots }))) none

-- A play without slots never finds too many blocks.
pub without_slots : (keys : Keys) (stash : ℕ) (whole : Play) → whole.slots ≡ [] → NoSlotIsFull keys stash whole
without_slots keys stash whole none k stop held ends full =
    let bad : None ≡ Some (why.StashFull held) =
    sym (none_shown keys stash (halt keys.shape.levels whole k stop) (none_cut keys.shape.levels whole none k stop))
    ∙ full in
    cc
