-- A group move begins, is further or ends; a block's parent is a step ahead of it.
use Rattle.std.proofs.Common.{ℕ, Option}
use Rattle.bus_watch.specs.Log.{LogLists}
use Rattle.oram_contents.specs.Contents.{Contents}
use Rattle.oram_contents.specs.Entries.{Keys}
use Rattle.oram_contents.specs.Counts.{Ghost}
use Rattle.oram_contents.specs.Provenance.{Sound}

module _ (keys : Keys) where
  pub marked_sound : (log : LogLists) (g : Ghost) (now : Contents) (move : Option (ℕ × ℕ)) (stepped : Option ℕ)
      → Sound keys log g now → Sound keys log (record g { move = move; stepped = stepped }) now
  marked_sound log g now move stepped s = record {
    fresh = s.fresh;
    last = s.last;
    once = s.once;
    blank = s.blank;
    drawn = s.drawn;
    dummies = s.dummies;
    away = s.away;
    at_hand = s.at_hand;
    in_tree = s.in_tree;
  }
