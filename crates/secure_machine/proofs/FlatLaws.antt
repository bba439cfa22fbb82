-- What a run over an encrypted memory finishes is what the flat machine does, instruction by instruction.
use Rattle.std.proofs.Common.{◌≡◌, ◌+◌, ℕ, List, Some, refl, sym, ap, subst, ◌∙◌, arith}
use Rattle.std.specs.Int.{from_le_bytes, w32}
use Rattle.asc_base.specs.declared.stop.Evidence.{Evidence}
use Rattle.asc_base.specs.declared.stop.Stop.{Stop}
use Rattle.asc_base.specs.declared.stop.Stop.TheVariants as why
use Rattle.encrypted_run.specs.Refined.{IsPrefix}
use Rattle.rv32_core.specs.FlatMachine.{FlatStep, flat_step, effected, bytes_at}
use Rattle.rv32_core.specs.FlatRun.{FlatRun, Budget as FlatBudget, finished_before, flat_run, run_from, gone_on}
use Rattle.rv32_core.specs.Machine.{Machine, is_inside, cost_of_word, effect_of_word}
use Rattle.rv32_core.specs.declared.effect.Effect.{Effect}
use Rattle.rv32_core.specs.declared.effect.Effect.TheVariants.{Passes, Sets, Jumps, Loads, Stores, Answers, Breaks}
use Rattle.rv32_core.specs.declared.effect.Effect.TheVariants.{Reads, Writes, Exits, Traps}
use Rattle.rv32_core.specs.declared.outcome.Done.{Done}
use Rattle.rv32_core.specs.declared.outcome.Ended.{Ended}
use Rattle.rv32_core.specs.declared.outcome.Ended.TheVariants.{No, Exit as Exits-as, Trap as Traps-as}
use Rattle.rv32_core.specs.declared.outcome.TrapKind.{TrapKind}
use Rattle.rv32_core.specs.declared.outcome.TrapKind.TheVariants.{FetchFault}
use Rattle.rv32_core.proofs.FlatRunLaws.{flat_run-zero, flat_run-suc, flat_run-goes_on}
use Rattle.rv32_core.proofs.ItemLaws.{step-if}
use Rattle.secure_machine.specs.FlatEnds.{FlatEnds, EndsFlat, CauseFlat, HaltsFlat, IsFlat, CauseRuns, HaltsRun}
use Rattle.secure_machine.specs.FlatEnds.{ending_by}
use Rattle.secure_machine.specs.declared.machine.Cause.{Cause}
use Rattle.secure_machine.specs.declared.machine.Cause.TheVariants.{Ends, Stops}
use Rattle.secure_machine.specs.declared.machine.Halted.{Halted}
use Rattle.secure_machine.specs.declared.report.Ending.{Ending}
use Rattle.secure_machine.specs.declared.report.Ending.TheVariants.{Exit, Trap, Budget, TimeUp, StashFull, Integrity}
use Rattle.secure_machine.specs.declared.report.Ending.TheVariants.{Device}

-- So many instructions finish, and the flat run goes on at a machine and its bytes.
abbrev pub Reaches : ℕ → Machine → List ℕ → Machine → List ℕ → Type 0
Reaches n machine memory next now =
    flat_run n machine memory ≡ record { instructions = n; machine = next; memory = now; ending = FlatBudget }

-- the run of an instruction more
one_more : (n : ℕ) (machine next : Machine) (memory now : List ℕ) (step : FlatStep) (ended : Ended)
    → Reaches n machine memory next now → flat_step next now ≡ step → step.done.ended ≡ ended
    → flat_run (n + 1) machine memory ≡ finished_before n (run_from (flat_run 0) step ended)
one_more n machine next memory now step ended reaches is how =
    flat_run-goes_on n 1 machine memory ∙ (ap (gone_on 1) reaches
    ∙ ap (finished_before n) (flat_run-suc 0 next now
    ∙ (ap (λ (s : FlatStep). run_from (flat_run 0) s s.done.ended) is
    ∙ ap (run_from (flat_run 0) step) how)))

-- an instruction finishes that doesn't end the run
pub reaches_more : (n : ℕ) (machine next last : Machine) (memory now later : List ℕ) (done : Done)
    → Reaches n machine memory next now → done.ended ≡ No
    → flat_step next now ≡ record { machine = last; memory = later; done = done }
    → Reaches (n + 1) machine memory last later
reaches_more n machine next last memory now later done reaches going step =
    one_more n machine next memory now (record { machine = last; memory = later; done = done }) No reaches step going
    ∙ (ap (λ (r : FlatRun). finished_before n (finished_before 1 r)) (flat_run-zero last later)
    ∙ ap (λ (k : ℕ). let r : FlatRun = record {
      instructions = k;
      machine = last;
      memory = later;
      ending = FlatBudget;
    } in r)
    (let e : n + (1 + 0) ≡ n + 1 = omega arith in e))

-- an instruction that traps changes nothing
pub effected_trap : (machine : Machine) (memory : List ℕ) (cost : ℕ) (effect : Effect) (kind : TrapKind) (pc : ℕ)
    → (effected machine memory cost effect).done.ended ≡ Traps-as kind pc
    → (effected machine memory cost effect).machine ≡ machine
effected_trap machine memory cost Passes kind pc h = absurd cc
effected_trap machine memory cost (Sets index value) kind pc h = absurd cc
effected_trap machine memory cost (Jumps index target) kind pc h = absurd cc
effected_trap machine memory cost (Loads op index address) kind pc h = absurd cc
effected_trap machine memory cost (Stores op address value) kind pc h = absurd cc
effected_trap machine memory cost (Answers value) kind pc h = absurd cc
effected_trap machine memory cost (Breaks value) kind pc h = absurd cc
effected_trap machine memory cost (Reads address count) kind pc h = absurd cc
effected_trap machine memory cost (Writes address count) kind pc h = absurd cc
effected_trap machine memory cost (Exits status) kind pc h = absurd cc
effected_trap machine memory cost (Traps other) kind pc h = refl

trapped_same : (machine : Machine) (memory : List ℕ) (kind : TrapKind) (pc : ℕ)
    → (flat_step machine memory).done.ended ≡ Traps-as kind pc → (flat_step machine memory).machine ≡ machine
trapped_same machine memory kind pc =
    let word : ℕ = from_le_bytes w32 (bytes_at machine memory machine.core.pc 4) in
    step-if (λ (s : FlatStep). s.done.ended ≡ Traps-as kind pc → s.machine ≡ machine)
    (is_inside machine.core machine.core.pc 4)
    (effected machine memory (cost_of_word machine word) (effect_of_word machine word))
    (effected machine memory 0 (Traps FetchFault))
    (effected_trap machine memory (cost_of_word machine word) (effect_of_word machine word) kind pc)
    (λ h. refl)

-- what was reached, with how the run ends there
flat_here : (n : ℕ) (machine next : Machine) (memory now : List ℕ) (ending : Ending)
    → Reaches n machine memory next now → FlatEnds n machine memory ending → IsFlat n machine memory ending next
flat_here n machine next memory now ending reaches ends = record {
  finished = ap (λ (r : FlatRun). r.instructions) reaches;
  leaves = ap (λ (r : FlatRun). r.machine) reaches;
  ends = ends;
}

-- the run as far as it came and how the next instruction ends it
ends_run : (n instructions : ℕ) (machine next last : Machine) (memory now : List ℕ) (ending : Ending)
    → Reaches n machine memory next now → EndsFlat n instructions next now ending last
    → IsFlat instructions machine memory ending last
ends_run n instructions machine next last memory now (Exit status) reaches (count, (how, is)) =
    let run = one_more n machine next memory now (flat_step next now) (Exits-as status) reaches refl how in
    subst (λ k. IsFlat k machine memory (Exit status) last) (sym count) (record {
      finished = ap (λ (r : FlatRun). r.instructions) run;
      leaves = ap (λ (r : FlatRun). r.machine) run ∙ is;
      ends = ap (λ (r : FlatRun). r.ending) run;
    })
ends_run n instructions machine next last memory now (Trap kind pc) reaches (count, (how, is)) =
    let run = one_more n machine next memory now (flat_step next now) (Traps-as kind pc) reaches refl how in
    subst (λ k. IsFlat k machine memory (Trap kind pc) last) (sym count) (record {
      finished = ap (λ (r : FlatRun). r.instructions) reaches;
      leaves = ap (λ (r : FlatRun). r.machine) reaches ∙ (sym (trapped_same next now kind pc how) ∙ is);
      ends = ap (λ (r : FlatRun). r.ending) run;
    })
ends_run n instructions machine next last memory now Budget reaches (count, is) =
    subst (λ k. IsFlat k machine memory Budget last) (sym count)
    (subst (λ (m : Machine). IsFlat n machine memory Budget m) (sym is)
    (flat_here n machine next memory now Budget reaches (ap (λ (r : FlatRun). r.ending) reaches)))
ends_run n instructions machine next last memory now (TimeUp at) reaches (count, is) =
    subst (λ k. IsFlat k machine memory (TimeUp at) last) (sym count)
    (subst (λ (m : Machine). IsFlat n machine memory (TimeUp at) m) (sym is)
    (flat_here n machine next memory now (TimeUp at) reaches (ap (λ (r : FlatRun). r.ending) reaches)))
ends_run n instructions machine next last memory now (StashFull held) reaches (count, is) =
    subst (λ k. IsFlat k machine memory (StashFull held) last) (sym count)
    (subst (λ (m : Machine). IsFlat n machine memory (StashFull held) m) (sym is)
    (flat_here n machine next memory now (StashFull held) reaches tt))
ends_run n instructions machine next last memory now (Integrity evidence) reaches (count, is) =
    subst (λ k. IsFlat k machine memory (Integrity evidence) last) (sym count)
    (subst (λ (m : Machine). IsFlat n machine memory (Integrity evidence) m) (sym is)
    (flat_here n machine next memory now (Integrity evidence) reaches tt))
ends_run n instructions machine next last memory now Device reaches (count, is) =
    subst (λ k. IsFlat k machine memory Device last) (sym count)
    (subst (λ (m : Machine). IsFlat n machine memory Device m) (sym is)
    (flat_here n machine next memory now Device reaches tt))

-- the same with a stop
cause_runs : (n instructions : ℕ) (machine next last : Machine) (memory now : List ℕ) (cause : Cause)
    → Reaches n machine memory next now → CauseFlat n instructions next now cause last
    → CauseRuns instructions machine memory cause last
cause_runs n instructions machine next last memory now (Ends ending until) reaches flat =
    ends_run n instructions machine next last memory now ending reaches flat
cause_runs n instructions machine next last memory now (Stops stop) reaches (count, is) =
    subst (λ k. IsPrefix k machine memory last) (sym count) (subst (λ (m : Machine). IsPrefix n machine memory m)
    (sym is) (record {
      instructions = ap (λ (r : FlatRun). r.instructions) reaches;
      leaves = ap (λ (r : FlatRun). r.machine) reaches;
      ending = ap (λ (r : FlatRun). r.ending) reaches;
    }))

pub halts_run : (n : ℕ) (machine next last : Machine) (memory now : List ℕ) (halted : Halted)
    → Reaches n machine memory next now → HaltsFlat n next now halted last → HaltsRun machine memory halted last
halts_run n machine next last memory now halted reaches flat =
    cause_runs n halted.instructions machine next last memory now halted.cause reaches flat

-- where none is begun
pub reaches_none : (machine : Machine) (memory : List ℕ) → Reaches 0 machine memory machine memory
reaches_none machine memory = flat_run-zero machine memory

-- What is known of a run that a stop ends is known of the ending that it is.
pub prefix_ends : (n : ℕ) (machine last : Machine) (memory : List ℕ) (stop : Stop) (ending : Ending)
    → ending_by stop ≡ Some ending → IsPrefix n machine memory last → IsFlat n machine memory ending last
prefix_ends n machine last memory (why.Integrity evidence) ending is prefix =
    subst (λ (e : Ending). IsFlat n machine memory e last) (let e : Integrity evidence ≡ ending = cc in e)
    (record { finished = prefix.instructions; leaves = prefix.leaves; ends = tt })
prefix_ends n machine last memory (why.StashFull held) ending is prefix =
    subst (λ (e : Ending). IsFlat n machine memory e last) (let e : StashFull held ≡ ending = cc in e)
    (record { finished = prefix.instructions; leaves = prefix.leaves; ends = tt })
prefix_ends n machine last memory (why.TimeUp at) ending is prefix =
    subst (λ (e : Ending). IsFlat n machine memory e last) (let e : TimeUp at ≡ ending = cc in e)
    (record { finished = prefix.instructions; leaves = prefix.leaves; ends = prefix.ending })
prefix_ends n machine last memory why.Device ending is prefix =
    subst (λ (e : Ending). IsFlat n machine memory e last) (let e : Device ≡ ending = cc in e)
    (record { finished = prefix.instructions; leaves = prefix.leaves; ends = tt })
prefix_ends n machine last memory why.NoMemory ending is prefix = absurd cc

-- Where a run that had ended by itself is stopped in the slots behind it, what it finished stays.
pub ended_stops : (n : ℕ) (machine last : Machine) (memory : List ℕ) (before ending : Ending) (stop : Stop)
    → ((at : ℕ) → stop ≡ why.TimeUp at → ⊥) → ending_by stop ≡ Some ending
    → IsFlat n machine memory before last → IsFlat n machine memory ending last
ended_stops n machine last memory before ending (why.Integrity evidence) in_time is flat =
    subst (λ (e : Ending). IsFlat n machine memory e last) (let e : Integrity evidence ≡ ending = cc in e)
    (record { finished = flat.finished; leaves = flat.leaves; ends = tt })
ended_stops n machine last memory before ending (why.StashFull held) in_time is flat =
    subst (λ (e : Ending). IsFlat n machine memory e last) (let e : StashFull held ≡ ending = cc in e)
    (record { finished = flat.finished; leaves = flat.leaves; ends = tt })
ended_stops n machine last memory before ending (why.TimeUp at) in_time is flat = absurd (in_time at refl)
ended_stops n machine last memory before ending why.Device in_time is flat =
    subst (λ (e : Ending). IsFlat n machine memory e last) (let e : Device ≡ ending = cc in e)
    (record { finished = flat.finished; leaves = flat.leaves; ends = tt })
ended_stops n machine last memory before ending why.NoMemory in_time is flat = absurd cc

-- an ending by evidence is that of the stop with this evidence
pub evidence_named : (stop : Stop) (evidence : Evidence) → ending_by stop ≡ Some (Integrity evidence)
    → stop ≡ why.Integrity evidence
evidence_named (why.Integrity other) evidence is = cc
evidence_named (why.StashFull held) evidence is = absurd cc
evidence_named (why.TimeUp at) evidence is = absurd cc
evidence_named why.Device evidence is = absurd cc
evidence_named why.NoMemory evidence is = absurd cc
