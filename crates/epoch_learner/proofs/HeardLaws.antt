-- What is heard of a log that goes on.
use Rattle.std.proofs.Common.{◌≡◌, ℕ, List, [], ◌∷◌, ◌++◌, refl, sym, ◌∙◌}
use Rattle.std.proofs.lemmas.List.Concat.{flat_map-cons}
use Rattle.bus_watch.specs.declared.log.Event.{Event}
use Rattle.bus_watch.specs.declared.log.Event.TheVariants.{Access, Drawn, Tagged, Accepted, Chosen, Answered}
use Rattle.bus_schedule.specs.Shown.{start_of, starts_of, index_of, indices_of}
use Rattle.epoch_learner.specs.Heard.{Heard, hears, heard_of, IsByRule, AreByRule}

-- a log in two parts
pub heard_of_append : (olat : ℕ) (heard : Heard) (events more : List Event)
    → heard_of olat heard (events ++ more) ≡ heard_of olat (heard_of olat heard events) more
unfolding heard_of
heard_of_append olat heard [] more = refl
heard_of_append olat heard (event ∷ events) more = heard_of_append olat (hears olat heard event) events more

pub heard_of_more : (olat : ℕ) (heard : Heard) (events : List Event) (event : Event)
    → heard_of olat heard (events ++ event ∷ []) ≡ hears olat (heard_of olat heard events) event
unfolding heard_of
heard_of_more olat heard events event = heard_of_append olat heard events (event ∷ [])

pub by_rule_append : (rates : List ℕ) (olat : ℕ) (heard : Heard) (events more : List Event)
    → AreByRule rates olat heard events → AreByRule rates olat (heard_of olat heard events) more
    → AreByRule rates olat heard (events ++ more)
unfolding heard_of AreByRule
by_rule_append rates olat heard [] more h rest = rest
by_rule_append rates olat heard (event ∷ events) more h rest =
    (h.0, by_rule_append rates olat (hears olat heard event) events more h.1 rest)

-- an event that starts no slot and chooses no rate tells nothing
silent_event : (olat : ℕ) (heard : Heard) (event : Event) → start_of event ≡ [] → index_of event ≡ []
    → hears olat heard event ≡ heard
silent_event olat heard (Access start asked) starts indices = cc
silent_event olat heard (Drawn point leaf) starts indices = refl
silent_event olat heard (Tagged message) starts indices = refl
silent_event olat heard (Accepted message tag) starts indices = refl
silent_event olat heard (Chosen index) starts indices = cc
silent_event olat heard (Answered line value) starts indices = refl

-- an event that chooses no rate is by the rule
other_event : (rates : List ℕ) (olat : ℕ) (heard : Heard) (event : Event) → index_of event ≡ []
    → IsByRule rates olat heard event
other_event rates olat heard (Access start asked) indices = tt
other_event rates olat heard (Drawn point leaf) indices = tt
other_event rates olat heard (Tagged message) indices = tt
other_event rates olat heard (Accepted message tag) indices = tt
other_event rates olat heard (Chosen index) indices = cc
other_event rates olat heard (Answered line value) indices = tt

-- two lists that join to nothing
both_empty : {A : Type 0} (xs ys : List A) → xs ++ ys ≡ [] → (xs ≡ []) × (ys ≡ [])
both_empty [] ys e = (refl, e)
both_empty (x ∷ xs) ys e = cc

pub silent_events : (olat : ℕ) (heard : Heard) (events : List Event) → starts_of events ≡ [] → indices_of events ≡ []
    → heard_of olat heard events ≡ heard
unfolding heard_of
silent_events olat heard [] starts indices = refl
silent_events olat heard (event ∷ events) starts indices =
    let s = both_empty (start_of event) (starts_of events) (sym (flat_map-cons start_of event events) ∙ starts) in
    let i = both_empty (index_of event) (indices_of events) (sym (flat_map-cons index_of event events) ∙ indices) in
    rw (silent_event olat heard event s.0 i.0) (silent_events olat heard events s.1 i.1)

pub silence_heard : (olat : ℕ) (heard : Heard) (events more : List Event) → starts_of more ≡ [] → indices_of more ≡ []
    → heard_of olat heard (events ++ more) ≡ heard_of olat heard events
silence_heard olat heard events more starts indices =
    heard_of_append olat heard events more ∙ silent_events olat (heard_of olat heard events) more starts indices

-- events without a choice are by the rule
pub other_events : (rates : List ℕ) (olat : ℕ) (heard : Heard) (events : List Event) → indices_of events ≡ []
    → AreByRule rates olat heard events
unfolding AreByRule
other_events rates olat heard [] indices = tt
other_events rates olat heard (event ∷ events) indices =
    let i = both_empty (index_of event) (indices_of events) (sym (flat_map-cons index_of event events) ∙ indices) in
    (other_event rates olat heard event i.0, other_events rates olat (hears olat heard event) events i.1)

pub by_rule_kept : (rates : List ℕ) (olat : ℕ) (heard : Heard) (events more : List Event) → indices_of more ≡ []
    → AreByRule rates olat heard events → AreByRule rates olat heard (events ++ more)
by_rule_kept rates olat heard events more indices h =
    by_rule_append rates olat heard events more h (other_events rates olat (heard_of olat heard events) more indices)

pub by_rule_more : (rates : List ℕ) (olat : ℕ) (heard : Heard) (events : List Event) (event : Event)
    → AreByRule rates olat heard events → IsByRule rates olat (heard_of olat heard events) event
    → AreByRule rates olat heard (events ++ event ∷ [])
unfolding AreByRule
by_rule_more rates olat heard events event h last = by_rule_append rates olat heard events (event ∷ []) h (last, tt)
