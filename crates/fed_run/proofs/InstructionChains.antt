-- An instruction of a core over a cache, by a chain of a store's steps, is that of the machine that is fed with the
-- lines that the store answered.
use Rattle.std.proofs.Common.{◌≡◌, ℕ, ◌*◌, ◌%◌, ◌<◌, ◌≤◌, List, ◌++◌, Result, Ok, Err, length, sym}
use Rattle.std.proofs.Common.{ap, subst, arith, ◌∙◌}
use Rattle.std.proofs.lemmas.List.{length-map}
use Rattle.request_plan.specs.Plan.{Plan, Ends, Stops, through, Asks, Alike}
use Rattle.request_plan.specs.Course.{Course, Finished, Starved, Astray, course}
use Rattle.request_plan.specs.Laws.{NotesAnswers, StopsUnnoted}
use Rattle.request_plan.proofs.Alike.{SameBeside, Alike-through, Alike-ends, Alike-stops}
use Rattle.rv32_core.specs.Access.{IsAccess}
use Rattle.rv32_core.specs.Machine.{Machine, IsCore}
use Rattle.rv32_core.specs.StepPlan.{step_plan}
use Rattle.rv32_core.specs.declared.outcome.Done.{Done}
use Rattle.rv32_core.proofs.PlanLaws.{Asks-step_plan}
use Rattle.data_cache.specs.Lines.{LineRequest, IsLineAnswer}
use Rattle.data_cache.specs.CacheLists.{Kept, Sets, Lines}
use Rattle.data_cache.specs.Contents.{Contents, held_in}
use Rattle.data_cache.specs.Mirror.{marks}
use Rattle.data_cache.specs.Cached.{cache_access, lists_access, HasBytes, StandsAs, StandsLeft}
use Rattle.data_cache.proofs.AccessAlike.{access-alike}
use Rattle.data_cache.proofs.KeptLaws.{mark}
use Rattle.data_cache.proofs.MirrorLaws.{set_of_is}
use Rattle.fed_run.specs.Fed.{Feed, FedStep, fed_step}
use Rattle.fed_run.specs.Answered.{line_source, AreLines}
use Rattle.fed_run.specs.Fed.{NoneLeft, NotedLine, Unfed, fed_map}
use Rattle.fed_run.proofs.AccessCourses.{lists_in, fed_served, IsFed, plan-course}
use Rattle.fed_run.proofs.Feeds.{AreLines-append, IsFeed}
use Rattle.fed_run.proofs.Instructions.{parts, served-step}
use Rattle.fed_run.proofs.NotedLines.{IsStarved, Wants, Ends-lines, Stops-lines}
use Rattle.fed_run.proofs.SomeBytes.{Asks-both, step_plan-bytes}
use Rattle.fed_run.proofs.WantedLines.{HasRoom, plan-wants}

-- what a finished course tells of an instruction that is fed
fed-of : (step : Result FedStep Unfed) (out : Machine × Done) (feed : Feed) → fed_map parts step ≡ Ok (out, feed)
    → step ≡ Ok (record { machine = out.0; feed = feed; done = out.1 })
fed-of (Err why) out feed e = Prim.cc
fed-of (Ok s) out feed e =
    let same : parts s ≡ (out, feed) = Prim.cc in
    ap (λ (z : (Machine × Done) × Feed). Ok (record { machine = (z.0).0; feed = z.1; done = (z.0).1 })) same

-- and a starved one
none-of : (step : Result FedStep Unfed) → (why : Unfed) → fed_map parts step ≡ Err why → step ≡ Err why
none-of (Err other) why e = let same : other ≡ why = Prim.cc in ap (λ (z : Unfed). Err z) same
none-of (Ok s) why e = Prim.cc

starved-none : {C A : Type 0} (c : Course NotedLine LineRequest C (Lines × A)) (fed : Result (A × Feed) Unfed)
    → IsStarved c → IsFed c fed → fed ≡ Err NoneLeft
starved-none (Finished out items) fed h is = absurd h
starved-none (Starved q b) fed h is = is
starved-none Astray fed h is = absurd h

-- lists that stand for a cache have room
stands-room : (count ways : ℕ) (cache : Contents) (lists : Lines) → StandsAs count ways cache lists
    → HasRoom ways lists.sets
stands-room count ways cache lists stands =
    let mirrors = stands.0 in
    let some : 0 < length cache.sets = mirrors.some in
    subst (HasRoom ways) (sym mirrors.is) (record {
      some = subst (λ n. 0 < n) (sym (length-map cache.sets marks)) some;
      fits = λ n. subst (λ (l : List Kept). length l ≤ ways) (sym (set_of_is count cache n some))
          (subst (λ k. k ≤ ways)
          (sym (length-map (held_in cache n) mark))
          (subst (λ w. length (held_in cache n) ≤ w) (stands.1)
          (mirrors.fits (n % length cache.sets) (let inside : n % length cache.sets
          < length cache.sets = omega arith in inside))));
    })

module _ (count ways : ℕ) (machine : Machine) (is : IsCore machine.core) (size : machine.core.size ≡ 64 * count) where
  -- the cache's plan and that of its lists
  pub instruction-alike : (cache : Contents) (lines : Lines) → StandsAs count ways cache lines
      → Alike IsLineAnswer (SameBeside {A = Machine} (StandsLeft count))
      (SameBeside {A = Machine × Done} (StandsAs count ways))
      (through (cache_access machine.core.base) (step_plan machine) cache)
      (through (lists_access machine.core.base ways) (step_plan machine) lines)
  instruction-alike cache lines stands =
      let pages : machine.core.base % 4096 ≡ 0 = is.memory.base_pages in
      Alike-through IsLineAnswer (StandsAs count ways) (StandsLeft count)
      (λ q. IsAccess machine.core.base (64 * count) q × HasBytes q)
      (cache_access machine.core.base) (lists_access machine.core.base ways)
      (λ c l q i may. access-alike count machine.core.base ways (omega arith) c l q i (may.0) (may.1))
      (step_plan machine)
      (Asks-both (IsAccess machine.core.base (64 * count)) HasBytes (step_plan machine)
      (subst (λ n. Asks (IsAccess machine.core.base n) (step_plan machine)) size (Asks-step_plan machine is))
      (step_plan-bytes machine))
      cache lines stands

  -- an instruction that finished on these lines
  pub finished-fed : (feed : Feed) → IsFeed machine.core.size feed → (out : Lines × (Machine × Done))
      (more : List NotedLine)
      → ◌≡◌ {A = Course NotedLine LineRequest (Sets × Machine) (Lines × (Machine × Done))}
      (course line_source (through (lists_access machine.core.base ways) (step_plan machine) (lists_in feed)) feed.left)
      (Finished out more)
      → fed_step ways machine feed
      ≡ Ok (record {
        machine = (out.1).0;
        feed = record { memory = (out.0).memory; sets = (out.0).sets; left = more };
        done = (out.1).1;
      })
  finished-fed feed good out more ran =
      fed-of (fed_step ways machine feed) (out.1) (record { memory = (out.0).memory; sets = (out.0).sets; left = more })
      (sym (served-step ways machine feed is.memory good)
      ∙ subst (λ (c : Course NotedLine LineRequest (Sets × Machine) (Lines × (Machine × Done))).
      IsFed c (fed_served machine.core.base ways (step_plan machine) feed)) ran
      (plan-course machine.core.base ways (step_plan machine) feed))

  module _ {S E : Type 0} (step : S → LineRequest → Result (List ℕ) E → S → Type 0) (noted : S → List NotedLine)
      (notes : NotesAnswers step line_source noted)
      (answers : (s t : S) (q : LineRequest) (bytes : List ℕ) → step s q (Ok bytes) t → IsLineAnswer q bytes) where
    -- An instruction that ended.
    pub instruction-ends : (s t : S) (cache after : Contents) (memory : List ℕ) (sets : Sets) (end : Machine × Done)
        → StandsAs count ways cache (record { memory = memory; sets = sets })
        → Ends step (through (cache_access machine.core.base) (step_plan machine) cache) s t (after, end)
        → (lines : List NotedLine) × (now : Lines) × (noted t ≡ noted s ++ lines) × AreLines lines
        × StandsAs count ways after now
        × ((more : List NotedLine) → AreLines more
        → fed_step ways machine (record { memory = memory; sets = sets; left = lines ++ more })
        ≡ Ok (record {
          machine = end.0;
          feed = record { memory = now.memory; sets = now.sets; left = more };
          done = end.1;
        }))
    instruction-ends s t cache after memory sets end stands ends =
        let lists : Lines = record { memory = memory; sets = sets } in
        let other = Alike-ends step IsLineAnswer answers (SameBeside {A = Machine} (StandsLeft count))
        (SameBeside {A = Machine × Done} (StandsAs count ways))
        (through (cache_access machine.core.base) (step_plan machine) cache)
        (through (lists_access machine.core.base ways) (step_plan machine) lists) s t (after, end)
        (instruction-alike cache lists stands) ends in
        let out : Lines × (Machine × Done) = other.0 in
        let ran = Ends-lines step noted notes answers
        (through (lists_access machine.core.base ways) (step_plan machine) lists) s t out (other.1) in
        let long : length memory ≡ 64 * count = (stands.0).size in (
          ran.0,
          out.0,
          ran.1,
          ran.2,
          (other.2).0,
          λ more whole. subst (λ (e : Machine × Done).
              fed_step ways machine (record { memory = memory; sets = sets; left = ran.0 ++ more })
              ≡ Ok (record {
                machine = e.0;
                feed = record { memory = (out.0).memory; sets = (out.0).sets; left = more };
                done = e.1;
              })) (sym (other.2).1)
              (finished-fed (record { memory = memory; sets = sets; left = ran.0 ++ more })
              (record { long = long ∙ sym size; lines = AreLines-append (ran.0) more (ran.2) whole }) out more
              (ran.3 more)),
        )

    -- An instruction that was stopped.
    pub instruction-stops : StopsUnnoted step noted → (s t : S) (cache : Contents) (memory : List ℕ) (sets : Sets)
        (stop : E) (left : Contents × Machine)
        → StandsAs count ways cache (record { memory = memory; sets = sets })
        → Stops step (through (cache_access machine.core.base) (step_plan machine) cache) s t stop left
        → (lines : List NotedLine) × (noted t ≡ noted s ++ lines) × AreLines lines
        × (fed_step ways machine (record { memory = memory; sets = sets; left = lines }) ≡ Err NoneLeft)
    instruction-stops same s t cache memory sets stop left stands stops =
        let lists : Lines = record { memory = memory; sets = sets } in
        let plan : Plan LineRequest (List ℕ) (Sets × Machine) (Lines × (Machine × Done)) =
        through (lists_access machine.core.base ways) (step_plan machine) lists in
        let other = Alike-stops step IsLineAnswer answers (SameBeside {A = Machine} (StandsLeft count))
        (SameBeside {A = Machine × Done} (StandsAs count ways))
        (through (cache_access machine.core.base) (step_plan machine) cache) plan s t stop left
        (instruction-alike cache lists stands) stops in
        let wants : Wants plan =
        plan-wants machine.core.base ways (step_plan machine) lists (stands-room count ways cache lists stands) in
        let ran = Stops-lines step noted notes answers same plan s t stop (other.0) wants (other.1) in
        let long : length memory ≡ 64 * count = (stands.0).size in
        let feed : Feed = record { memory = memory; sets = sets; left = ran.0 } in (
          ran.0,
          ran.1,
          ran.2,
          none-of (fed_step ways machine feed) NoneLeft
              (sym (served-step ways machine feed is.memory (record { long = long ∙ sym size; lines = ran.2 }))
              ∙ starved-none (course line_source plan (ran.0))
              (fed_served machine.core.base ways (step_plan machine) feed)
              (ran.3) (plan-course machine.core.base ways (step_plan machine) feed)),
        )
