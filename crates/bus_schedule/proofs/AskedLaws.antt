-- Which slot serves what was asked for.
use Rattle.std.proofs.Common.{◌≡◌, ℕ, ◌+◌, ◌-◌, ◌<◌, ◌≤◌, List, [], ◌∷◌, ◌++◌, length, take, get_or, None, Some}
use Rattle.std.proofs.Common.{refl, sym, ◌∙◌, ap, subst, arith, append-nil, append_assoc, length-append}
use Rattle.std.specs.List.{All}
use Rattle.std.proofs.lemmas.List.{get_or-append_right}
use Rattle.std.proofs.Math.Seq.{take-append_seam}
use Rattle.std.proofs.lemmas.List.Concat.{flat_map-append}
use Rattle.asc_base.specs.TreeShape.{olat_of}
use Rattle.bus_watch.specs.declared.log.Event.{Event}
use Rattle.bus_watch.specs.declared.log.Event.TheVariants.{Access, Drawn, Tagged, Accepted, Chosen, Answered}
use Rattle.bus_watch.specs.Log.{LogLists}
use Rattle.bus_schedule.specs.Timetable.{Public, start_at, end_at, starts, timetable, first_from}
use Rattle.bus_schedule.specs.Shown.{start_of, starts_of}
use Rattle.bus_schedule.specs.Asked.{IsFirstFrom, IsPrompt, ArePrompt, ServesPromptly}
use Rattle.bus_schedule.specs.Scheduled.{log_code, IsScheduled, Between}
use Rattle.bus_schedule.proofs.TimetableLaws.{starts-all}
use Rattle.bus_schedule.proofs.TimetableParts.{starts-at, before-start, timetable-at, timetable-first, first-is}

-- one list of events after another
pub prompt-append : (earlier : List ℕ) (xs ys : List Event) → ArePrompt earlier xs
    → ArePrompt (earlier ++ starts_of xs) ys → ArePrompt earlier (xs ++ ys)
unfolding ArePrompt
prompt-append earlier [] ys h rest = subst (λ l. ArePrompt l ys) (append-nil earlier) rest
prompt-append earlier (x ∷ xs) ys h rest = (
  h.0,
  prompt-append (earlier ++ start_of x) xs ys h.1
      (subst (λ l. ArePrompt l ys) (sym (append_assoc earlier (start_of x) (starts_of xs))) rest),
)

prompt-after : (earlier : List ℕ) (xs ys : List Event) → ArePrompt earlier (xs ++ ys)
    → ArePrompt (earlier ++ starts_of xs) ys
unfolding ArePrompt
prompt-after earlier [] ys h = subst (λ l. ArePrompt l ys) (sym (append-nil earlier)) h
prompt-after earlier (x ∷ xs) ys h =
    subst (λ l. ArePrompt l ys) (append_assoc earlier (start_of x) (starts_of xs))
    (prompt-after (earlier ++ start_of x) xs ys h.1)

-- events without a start
prompt-silent : (earlier : List ℕ) (events : List Event) → starts_of events ≡ [] → ArePrompt earlier events
unfolding ArePrompt
prompt-silent earlier [] none = tt
prompt-silent earlier (Access start asked ∷ events) none = cc
prompt-silent earlier (Drawn point leaf ∷ events) none = (tt, prompt-silent (earlier ++ []) events none)
prompt-silent earlier (Tagged message ∷ events) none = (tt, prompt-silent (earlier ++ []) events none)
prompt-silent earlier (Accepted message tag ∷ events) none = (tt, prompt-silent (earlier ++ []) events none)
prompt-silent earlier (Chosen index ∷ events) none = (tt, prompt-silent (earlier ++ []) events none)
prompt-silent earlier (Answered line value ∷ events) none = (tt, prompt-silent (earlier ++ []) events none)

pub serves-none : ServesPromptly []
unfolding ArePrompt
serves-none = tt

pub serves-kept : (events more : List Event) → starts_of more ≡ [] → ServesPromptly events
    → ServesPromptly (events ++ more)
serves-kept events more none h = prompt-append [] events more h (prompt-silent (starts_of events) more none)

one-prompt : (earlier : List ℕ) (event : Event) → IsPrompt earlier event → ArePrompt earlier (event ∷ [])
unfolding ArePrompt
one-prompt earlier event h = (h, tt)

-- a dummy's start more, and a real slot's
pub serves-dummy : (events : List Event) (start : ℕ) → ServesPromptly events
    → ServesPromptly (events ++ Access start None ∷ [])
serves-dummy events start h =
    prompt-append [] events (Access start None ∷ []) h (one-prompt (starts_of events) (Access start None) tt)

pub serves-real : (events : List Event) (start asked : ℕ) → ServesPromptly events
    → IsFirstFrom asked (starts_of events) start → ServesPromptly (events ++ Access start (Some asked) ∷ [])
serves-real events start asked h first =
    prompt-append [] events (Access start (Some asked) ∷ []) h
    (one-prompt (starts_of events) (Access start (Some asked)) first)

-- what is so of a log is so of each real slot in it
pub serves-each : (before after : List Event) (start asked : ℕ)
    → ServesPromptly (before ++ Access start (Some asked) ∷ after) → IsFirstFrom asked (starts_of before) start
unfolding ArePrompt
serves-each before after start asked h = (prompt-after [] before (Access start (Some asked) ∷ after) h).0

-- between two slots the next one is the first from a time on that isn't behind it, where the last one ended less than a
-- slot's cycles after it
pub between-first : (p : Public) (n time : ℕ) (log : LogLists) → Between p n log
    → time ≤ start_at p (log_code p log) n → end_at p (log_code p log) n < time + olat_of p.levels
    → IsFirstFrom time (starts_of log.events) (start_at p (log_code p log) n)
between-first p n time log b from late = record {
  from = from;
  others = subst (All (λ other. other < time)) (sym b.begun)
      (starts-all (λ other. other < time) p (log_code p log) n (before-start p (log_code p log) time n late));
}

-- In a log that is scheduled, each real slot starts at the first start of the log's code that isn't before its time.
pub scheduled-first : (p : Public) (end start asked : ℕ) (before after : List Event) (log : LogLists)
    → IsScheduled p end log → ServesPromptly log.events → log.events ≡ before ++ Access start (Some asked) ∷ after
    → start ≡ first_from p (log_code p log) asked
scheduled-first p end start asked before after log scheduled serves parts =
    let code : ℕ = log_code p log in
    let k : ℕ = length (starts_of before) in
    let first : IsFirstFrom asked (starts_of before) start =
    serves-each before after start asked (subst ServesPromptly parts serves) in
    let split : starts_of before ++ start ∷ starts_of after ≡ timetable p code end =
    sym (flat_map-append start_of before (Access start (Some asked) ∷ after)) ∙ ap starts_of (sym parts)
    ∙ scheduled.starts in
    let within : k < length (timetable p code end) =
    omega (arith, length-append (starts_of before) (start ∷ starts_of after), ap length split) in
    let at : start ≡ start_at p code k =
    sym (get_or-append_right (starts_of before) (start ∷ starts_of after) k k 0 refl (omega arith)
    ∙ ap (λ j. get_or (start ∷ starts_of after) j 0) (let none : k - k ≡ 0 = omega arith in none))
    ∙ ap (λ l. get_or l k 0) split
    ∙ timetable-at p code end k within in
    let earlier : starts_of before ≡ starts p code k =
    sym (take-append_seam (starts_of before) (start ∷ starts_of after))
    ∙ ap (take k) split
    ∙ timetable-first p code end k (omega arith) in
    at ∙ sym (first-is p code asked k (omega (arith, first.from, at))
    (λ j below.
    subst (λ s. s < asked)
    (ap (λ l. get_or l j 0) earlier ∙ starts-at p code k j below)
    (first.others j 0 below)))
