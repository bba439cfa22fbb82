-- The start: nothing is noted, and no block was accessed.
use Rattle.std.specs.Prelude.{ℕ, List, [], ◌∷◌, ◌++◌, None, Some}
use Rattle.asc_outside.specs.Memory.{zero_buckets}
use Rattle.bucket_codec.specs.Bucket.{bucket_text}
use Rattle.bus_watch.specs.Log.{LogLists}
use Rattle.bus_watch.specs.declared.log.Event.TheVariants.{Tagged, Accepted}
use Rattle.posmap_counters.specs.Counters.{first_counter}
use Rattle.oram_contents.specs.Contents.{Contents}
use Rattle.oram_contents.specs.Fold.{Fold}
use Rattle.oram_contents.specs.Counts.{Ghost, zero_line}
use Rattle.oram_contents.specs.Entries.{Keys, real, message_of, entry_of}
use Rattle.oram_contents.specs.Slots.{drawn_events}
use Rattle.asc_base.specs.declared.block.Counter.{Counter}
use Rattle.asc_base.specs.declared.block.Point.{Point}
use Rattle.bus_watch.specs.declared.log.Event.{Event}

abbrev pub empty_log : LogLists
empty_log = record { moves = []; events = []; altered = [] }

abbrev pub first_ghost : Ghost
first_ghost = record {
  count = λ a. first_counter;
  data_lines = λ a. zero_line;
  held = [];
  flight = None;
  pend = None;
  stepped = None;
  move = None;
  path = None;
  dummies = 0;
}

abbrev pub first_contents : Keys → Contents
first_contents keys = record { hand = []; mirror = zero_buckets keys.shape.buckets; seed = 1 }

abbrev pub first_fold : Keys → Fold
first_fold keys = record { now = first_contents keys; start = 0; path = None }

-- The log of one slot that nobody asked for, in which these events follow those of its start.
abbrev pub first_slot : Keys → ℕ → Point → List Event → LogLists
first_slot keys start p events = record {
  moves = [];
  events = drawn_events keys start None p ++ events;
  altered = [];
}

-- A log of two slots of a block that was never accessed. In the first a line of it is put back under a counter. The
-- second draws the point of that counter; the root's reply in it is altered, so that an entry of the block stands in it
-- with a line under that counter and its valid tag; and a line of the block is accepted with its valid tag.
abbrev pub altered_log : Keys → ℕ → Counter → (put stood found : List ℕ) → LogLists
altered_log keys a c put stood found = record {
  moves = [];
  events = drawn_events keys 256 (Some 0) (real a first_counter) ++ (Tagged (message_of a c put)
      ∷ (drawn_events keys 1008 (Some 752) (real a c)
      ++ Accepted (message_of a c found) (entry_of keys a c found).tag ∷ []));
  altered = record {
    time = 1008;
    bucket = 0;
    bytes = bucket_text keys.pads 1 (Some (entry_of keys a c stood) ∷ None ∷ None ∷ None ∷ []);
    before = 5;
  } ∷ [];
}
