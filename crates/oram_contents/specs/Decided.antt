-- Whether a log shows a forgery, as a test of its lists.
use Rattle.std.specs.Prelude.{◌==◌, ◌&&◌, ◌||◌, not, ℕ, nat_le, Bool, true, false, List, [], ◌∷◌, ◌++◌, length}
use Rattle.std.specs.Prelude.{if◌then◌else◌, bytes_eq}
use Rattle.asc_base.specs.declared.block.Entry.{Entry}
use Rattle.asc_base.specs.declared.block.Message.{Message}
use Rattle.asc_base.specs.declared.block.Point.{Point}
use Rattle.asc_base.specs.declared.block.Point.TheVariants.{Real, Dummy}
use Rattle.bus_watch.specs.Log.{LogLists}
use Rattle.bus_watch.specs.declared.log.Altered.{Altered}
use Rattle.bus_watch.specs.declared.log.Event.{Event}
use Rattle.bus_watch.specs.declared.log.Event.TheVariants.{Access, Drawn, Tagged, Accepted, Chosen, Answered}
use Rattle.pmmac_tags.specs.Tag.{tag}
use Rattle.oram_contents.specs.Entries.{Keys, entries_in}

-- some item meets a test
abbrev pub among : {A : Type 0} → (A → Bool) → List A → Bool
among test [] = false
among test (x ∷ xs) = test x || among test xs

abbrev pub same_message : Message → Message → Bool
same_message m n = (m.address.0 == n.address.0) && ((m.counter.group == n.counter.group)
    && ((m.counter.own == n.counter.own) && bytes_eq m.line.0 n.line.0))

-- the event notes this message as tagged
abbrev pub tags_it : Message → Event → Bool
tags_it m (Access start asked) = false
tags_it m (Drawn p x) = false
tags_it m (Tagged n) = same_message m n
tags_it m (Accepted n t) = false
tags_it m (Chosen index) = false
tags_it m (Answered line value) = false

-- the event draws a point
abbrev pub draws : Event → Bool
draws (Access start asked) = false
draws (Drawn p x) = true
draws (Tagged n) = false
draws (Accepted n t) = false
draws (Chosen index) = false
draws (Answered line value) = false

-- the point is of this message's block under its counter
abbrev pub point_is : Message → Point → Bool
point_is m (Real a c) = (a.0 == m.address.0) && ((c.group == m.counter.group) && (c.own == m.counter.own))
point_is m (Dummy n) = false

-- the event draws it
abbrev pub draws_it : Message → Event → Bool
draws_it m (Access start asked) = false
draws_it m (Drawn p x) = point_is m p
draws_it m (Tagged n) = false
draws_it m (Accepted n t) = false
draws_it m (Chosen index) = false
draws_it m (Answered line value) = false

-- the event that draws last draws it
abbrev pub last_draws_it : Message → List Event → Bool
last_draws_it m [] = false
last_draws_it m (e ∷ later) = (if among draws later then last_draws_it m later else draws_it m e)

-- a slot of a reply, opened, has this message's address and line, and this tag
abbrev pub reply_has : Keys → Message → List ℕ → Altered → Bool
reply_has keys m t reply = among
    (λ (e : Entry). (e.address.0 == m.address.0) && (bytes_eq e.line.0 m.line.0 && bytes_eq e.tag t))
    (entries_in keys reply.bytes)

-- the event accepts, after these, a message that was never tagged
abbrev pub forged_at : Keys → List Altered → List Event → Event → Bool
forged_at keys altered earlier (Access start asked) = false
forged_at keys altered earlier (Drawn p x) = false
forged_at keys altered earlier (Tagged n) = false
forged_at keys altered earlier (Accepted m t) = not (among (tags_it m) earlier) && (last_draws_it m earlier
    && (bytes_eq t (tag keys.tags m)
    && among (λ (reply : Altered). nat_le reply.before (length earlier) && reply_has keys m t reply) altered))
forged_at keys altered earlier (Chosen index) = false
forged_at keys altered earlier (Answered line value) = false

abbrev pub forged_from : Keys → List Altered → List Event → List Event → Bool
forged_from keys altered earlier [] = false
forged_from keys altered earlier (e ∷ later) =
    forged_at keys altered earlier e || forged_from keys altered (earlier ++ e ∷ []) later

abbrev pub shows_forgery : Keys → LogLists → Bool
shows_forgery keys log = forged_from keys log.altered [] log.events
