-- The first slot of a configuration, by the laws of each step.
use Rattle.std.proofs.Common.{◌≡◌, ℕ, ◌+◌, [], Option, None, Some, refl, arith}
use Rattle.asc_base.specs.Settings.{IsConfig}
use Rattle.asc_base.specs.TreeShape.{olat_of}
use Rattle.asc_base.specs.declared.block.Leaf.{Leaf}
use Rattle.asc_base.specs.declared.block.Point.TheVariants.{Dummy}
use Rattle.asc_base.specs.declared.settings.Config.{Config}
use Rattle.bus_watch.specs.declared.log.Event.TheVariants.{Access, Drawn}
use Rattle.bus_watch.specs.Log.{LogLists, with_event}
use Rattle.bus_watch.specs.Path.{slot_moves}
use Rattle.bus_schedule.proofs.ScheduledLaws.{shows-same}
use Rattle.epoch_learner.specs.Learner.{learner_at_start, after_access, after_end, choice_by_sums}
use Rattle.epoch_learner.specs.Stands.{Stands, StandsIn, KeepsPace, one_slot, noted}
use Rattle.epoch_learner.specs.declared.Learner.{Learner}
use Rattle.epoch_learner.proofs.StandLaws.{stands_first, stands_begun, inside_silent, stands_passed, stands_chosen}
use Rattle.epoch_learner.proofs.StandLaws.{stands_pace, writes_pace}

-- nothing, and the first slot's start and leaf
abbrev none : LogLists
none = record { moves = []; events = []; altered = [] }

abbrev started : ℕ → LogLists
started start = with_event none (Access start None)

abbrev drawn : ℕ → Leaf → LogLists
drawn start leaf = with_event (started start) (Drawn (Dummy 0) leaf)

-- the learner that has seen it
abbrev seen : Config → Learner
seen config = after_access (learner_at_start config) (learner_at_start config).rate None

pub slot_inside : (config : Config) (leaf : Leaf) → IsConfig config
    → StandsIn config 0 (learner_at_start config).rate leaf.0
    (slot_moves config.shape.levels (learner_at_start config).rate leaf.0) (seen config) (one_slot config leaf)
slot_inside config leaf is =
    let start : ℕ = (learner_at_start config).rate in
    let begun : StandsIn config 0 start leaf.0 [] (seen config) (drawn start leaf) =
    stands_begun None (Dummy 0) leaf (started start) (drawn start leaf) (stands_first config none is refl refl) tt refl
    refl in
    inside_silent (slot_moves config.shape.levels start leaf.0) begun
    (shows-same (drawn start leaf) (one_slot config leaf) refl) refl

pub slot_before : (config : Config) (leaf : Leaf) (end : ℕ) → IsConfig config
    → end + 1 ≡ (learner_at_start config).rate + olat_of config.shape.levels
    → KeepsPace config end (one_slot config leaf)
slot_before config leaf end is at =
    writes_pace (config.shape.levels + 1) end (slot_inside config leaf is)
    (omega arith) (omega arith) (omega arith) (omega arith)

seen_by : (config : Config) (leaf : Leaf) (learner : Learner) → IsConfig config → learner ≡ seen config
    → StandsIn config 0 (learner_at_start config).rate leaf.0
    (slot_moves config.shape.levels (learner_at_start config).rate leaf.0) learner (one_slot config leaf)
seen_by config leaf learner is of = rw of (slot_inside config leaf is)

-- whatever the learner answers
answered : (answer : Option ℕ) (config : Config) (leaf : Leaf) (end : ℕ) (learner : Learner) → IsConfig config
    → end ≡ (learner_at_start config).rate + olat_of config.shape.levels → learner ≡ seen config
    → choice_by_sums learner end ≡ answer
    → Stands config 1 end (end + (after_end learner end).rate) (after_end learner end)
    (noted answer (one_slot config leaf))
answered None config leaf end learner is at of answer =
    stands_passed end (seen_by config leaf learner is of) at answer
answered (Some index) config leaf end learner is at of answer =
    stands_chosen end index (noted (Some index) (one_slot config leaf)) (seen_by config leaf learner is of) at answer
    refl

pub slot_done : (config : Config) (leaf : Leaf) (end : ℕ) (learner : Learner) → IsConfig config
    → end ≡ (learner_at_start config).rate + olat_of config.shape.levels → learner ≡ seen config
    → Stands config 1 end (end + (after_end learner end).rate) (after_end learner end)
    (noted (choice_by_sums learner end) (one_slot config leaf))
slot_done config leaf end learner is at of = answered (choice_by_sums learner end) config leaf end learner is at of refl

pub slot_at_end : (config : Config) (leaf : Leaf) (end : ℕ) (learner : Learner) → IsConfig config
    → end ≡ (learner_at_start config).rate + olat_of config.shape.levels → learner ≡ seen config
    → KeepsPace config end (noted (choice_by_sums learner end) (one_slot config leaf))
slot_at_end config leaf end learner is at of =
    stands_pace end (slot_done config leaf end learner is at of) (omega arith) (omega arith)
