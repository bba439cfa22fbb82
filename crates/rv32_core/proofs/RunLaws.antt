-- A run as one plan: it is the flat run over a list of bytes, and asks for the line list's lines.
use Rattle.std.proofs.Common.{◌≡◌, ℕ, suc, zero, ◌+◌, List, [], ◌∷◌, ◌++◌, map, refl, sym, ap, subst, ◌∙◌, arith}
use Rattle.std.proofs.lemmas.List.{map-append}
use Rattle.asc_base.specs.Memory.{IsMemory}
use Rattle.request_plan.specs.Plan.{Plan, Done as Outcome, Ask, bind, Asks, Outcomes}
use Rattle.request_plan.specs.Play.{Played, bare, play, served}
use Rattle.request_plan.proofs.Alike.{Asks-bind-where}
use Rattle.request_plan.proofs.Keeps.{Outcomes-from}
use Rattle.request_plan.proofs.Plays.{put_all, play-bind, bare-append}
use Rattle.request_plan.proofs.Served.{served-bind, play-served}
use Rattle.rv32_core.specs.Access.{Access, Load, Store, IsAccess, access_bytes}
use Rattle.rv32_core.specs.Machine.{CoreState, Machine, IsCore}
use Rattle.rv32_core.specs.FlatMachine.{FlatStep, flat_step}
use Rattle.rv32_core.specs.FlatRun.{Trapped, Budget, FlatRun, finished_before, run_from, flat_run}
use Rattle.rv32_core.specs.LineList.{LineUse, LineItem, step_lines, items_after, items_from, run_items, line_used}
use Rattle.rv32_core.specs.LineList.{noting, asked_lines}
use Rattle.rv32_core.specs.RunPlan.{RunEnd, end_of, MachineRun, after_instruction, run_plan}
use Rattle.rv32_core.specs.StepPlan.{step_plan}
use Rattle.rv32_core.specs.declared.outcome.Done.{Done}
use Rattle.rv32_core.specs.declared.outcome.Ended.{Ended}
use Rattle.rv32_core.specs.declared.outcome.Ended.TheVariants.{No, Exit, Trap}
use Rattle.rv32_core.proofs.FlatRunLaws.{flat_run-zero, flat_run-suc, finished_before-one}
use Rattle.rv32_core.proofs.ItemLaws.{run_items-none, run_items-suc, flat_step-base, flat_step-size}
use Rattle.rv32_core.proofs.PlanLaws.{Asks-step_plan, Ends-step_keeps}
use Rattle.rv32_core.proofs.Served.{parts_of, served-step_plan}
use Rattle.rv32_core.proofs.StepLines.{step_plan-asked}

-- ---- its plan instruction by instruction
pub run_plan-none : (before : ℕ) (machine : Machine)
    → run_plan 0 before machine ≡ Outcome (record { instructions = before; machine = machine; ending = Budget })
unfolding run_plan
run_plan-none before machine = refl

pub run_plan-next : (n before : ℕ) (machine : Machine)
    → run_plan (suc n) before machine
    ≡ bind (λ left. (before, left)) (step_plan machine)
    (λ end. after_instruction before (run_plan n (before + 1)) (end.0) ((end.1).ended))
unfolding run_plan
run_plan-next n before machine = refl

-- ---- served by a list of bytes
-- the run that was served, and its bytes
abbrev run_parts : ℕ → FlatRun → RunEnd × List ℕ
run_parts before run = (end_of (finished_before before run), run.memory)

served-after : (base n before : ℕ) (step : FlatStep) (ended : Ended)
    → served (access_bytes base) (run_plan n (before + 1) step.machine) step.memory
    ≡ run_parts (before + 1) (flat_run n step.machine step.memory)
    → served (access_bytes base) (after_instruction before (run_plan n (before + 1)) step.machine ended) step.memory
    ≡ run_parts before (run_from (flat_run n) step ended)
served-after base n before step No later =
    later
    ∙ ap (λ (r : FlatRun). let parts : RunEnd × List ℕ = (end_of r, r.memory) in parts)
    (sym (finished_before-one before (flat_run n step.machine step.memory)))
served-after base n before step (Exit status) later = refl
served-after base n before step (Trap kind pc) later =
    ap (λ (k : ℕ). let parts : RunEnd
    × List ℕ = (
      record { instructions = k; machine = step.machine; ending = Trapped kind pc },
      step.memory,
    ) in parts)
    (let e : before ≡ before + 0 = omega arith in e)

pub served-run_plan : (base n before : ℕ) (machine : Machine) (memory : List ℕ) → machine.core.base ≡ base
    → served (access_bytes base) (run_plan n before machine) memory ≡ run_parts before (flat_run n machine memory)
served-run_plan base zero before machine memory at =
    ap (λ (p : MachineRun). served (access_bytes base) p memory) (run_plan-none before machine)
    ∙ ap (λ (k : ℕ). let parts : RunEnd × List ℕ = (
      record { instructions = k; machine = machine; ending = Budget },
      memory,
    ) in parts)
    (let e : before ≡ before + 0 = omega arith in e)
    ∙ ap (λ (r : FlatRun). run_parts before r) (sym (flat_run-zero machine memory))
served-run_plan base (suc n) before machine memory at =
    let step : FlatStep = flat_step machine memory in
    let first : served (access_bytes base) (step_plan machine) memory ≡ parts_of step =
    ap (λ b. served (access_bytes b) (step_plan machine) memory) (sym at) ∙ served-step_plan machine memory in
    ap (λ (p : MachineRun). served (access_bytes base) p memory) (run_plan-next n before machine)
    ∙ served-bind (access_bytes base) (λ left. (before, left)) (step_plan machine)
    (λ end. after_instruction before (run_plan n (before + 1)) (end.0) ((end.1).ended)) memory
    ∙ ap (λ (r : (Machine × Done) × List ℕ).
    served (access_bytes base) (after_instruction before (run_plan n (before + 1)) ((r.0).0) (((r.0).1).ended)) (r.1))
    first
    ∙ served-after base n before step step.done.ended
    (served-run_plan base n (before + 1) step.machine step.memory (flat_step-base machine memory ∙ at))
    ∙ ap (λ (r : FlatRun). run_parts before r) (sym (flat_run-suc n machine memory))

-- ---- the lines that it asks for
-- the records, put as another plan has them, are the same
bare-put_all : {R B C : Type 0} (put : B → C) (rs : List (R × B)) → bare (put_all put rs) ≡ bare rs
bare-put_all put [] = refl
bare-put_all put (r ∷ rs) = ap (λ l. r.0 ∷ l) (bare-put_all put rs)

-- one plan after another asks a server for its lines, and then for the other's
pub asked-bind : {H B C A D : Type 0} (core : CoreState) (serve : H → Access → List ℕ × H) (put : B → C)
    (p : Plan Access (List ℕ) B A) (next : A → Plan Access (List ℕ) C D) (held : H)
    → asked_lines core serve (bind put p next) held
    ≡ asked_lines core serve p held ++ asked_lines core serve (next ((served serve p held).0)) ((served serve p held).1)
asked-bind {H} {B} {C} {A} {D} core serve put p next held =
    let first : Played LineUse H B A = play (noting core serve) p held in
    let same : served serve p held ≡ (first.outcome, first.held) = play-served (noting core serve) p held in
    ap (λ (w : Played LineUse H C D). bare (w.records)) (play-bind (noting core serve) put p next held)
    ∙ bare-append (put_all put (first.records)) ((play (noting core serve) (next (first.outcome)) (first.held)).records)
    ∙ ap (λ l. l ++ asked_lines core serve (next (first.outcome)) (first.held)) (bare-put_all put (first.records))
    ∙ ap (λ (r : A × H). asked_lines core serve p held ++ asked_lines core serve (next (r.0)) (r.1)) (sym same)

-- the line of an access is that of a core with the same base
line_used-same : (core other : CoreState) (access : Access) → core.base ≡ other.base
    → line_used core access ≡ line_used other access
line_used-same core other (Load address count) e = rw e refl
line_used-same core other (Store address bytes) e = rw e refl

asked-same : {H B A : Type 0} (core other : CoreState) (serve : H → Access
    → List ℕ × H) (p : Plan Access (List ℕ) B A) (held : H)
    → core.base ≡ other.base → asked_lines core serve p held ≡ asked_lines other serve p held
asked-same core other serve (Outcome a) held e = refl
asked-same core other serve (Ask access left k) held e =
    ap (λ (u : LineUse). u ∷ asked_lines core serve (k ((serve held access).0)) ((serve held access).1))
    (line_used-same core other access e)
    ∙ ap (λ l. line_used other access ∷ l) (asked-same core other serve (k ((serve held access).0))
    ((serve held access).1) e)

-- the lines of items
abbrev pub uses_of : List LineItem → List LineUse
uses_of items = map (λ (item : LineItem). item.use_of) items

uses_of-after : (cost : ℕ) (lines : List LineUse) → uses_of (items_after cost lines) ≡ lines
uses_of-after cost [] = refl
uses_of-after cost (first ∷ others) = ap (λ (l : List LineUse). first ∷ l) (uses_of-after 0 others)

asked-after : (core : CoreState) (serve : List ℕ → Access → List ℕ × List ℕ) (n before : ℕ)
    (step : FlatStep) (ended : Ended)
    → asked_lines core serve (run_plan n (before + 1) step.machine) step.memory
    ≡ uses_of (run_items n step.done.cost step.machine step.memory)
    → asked_lines core serve (after_instruction before (run_plan n (before + 1)) step.machine ended) step.memory
    ≡ uses_of (items_from (run_items n) step ended)
asked-after core serve n before step No later = later
asked-after core serve n before step (Exit status) later = refl
asked-after core serve n before step (Trap kind pc) later = refl

pub asked-run_plan : (core : CoreState) (n before cost : ℕ) (machine : Machine) (memory : List ℕ)
    → core.base ≡ machine.core.base → core.size ≡ machine.core.size → IsMemory core.base core.size
    → asked_lines core (access_bytes core.base) (run_plan n before machine) memory
    ≡ uses_of (run_items n cost machine memory)
asked-run_plan core zero before cost machine memory at long fits =
    ap (λ (p : MachineRun). asked_lines core (access_bytes core.base) p memory) (run_plan-none before machine)
    ∙ ap uses_of (sym (run_items-none cost machine memory))
asked-run_plan core (suc n) before cost machine memory at long fits =
    let step : FlatStep = flat_step machine memory in
    let serve : List ℕ → Access → List ℕ × List ℕ = access_bytes core.base in
    let own : IsMemory machine.core.base machine.core.size =
    subst (λ b. IsMemory b machine.core.size) at (subst (λ s. IsMemory core.base s) long fits) in
    let lines : asked_lines core serve (step_plan machine) memory ≡ step_lines machine memory =
    asked-same core machine.core serve (step_plan machine) memory at
    ∙ ap (λ b. asked_lines machine.core (access_bytes b) (step_plan machine) memory) at
    ∙ step_plan-asked machine memory own in
    let first : served serve (step_plan machine) memory ≡ parts_of step =
    ap (λ b. served (access_bytes b) (step_plan machine) memory) at ∙ served-step_plan machine memory in
    ap (λ (p : MachineRun). asked_lines core serve p memory) (run_plan-next n before machine)
    ∙ asked-bind core serve (λ left. (before, left)) (step_plan machine)
    (λ end. after_instruction before (run_plan n (before + 1)) (end.0) ((end.1).ended)) memory
    ∙ ap (λ l. l ++ asked_lines core serve (after_instruction before (run_plan n (before + 1))
    (((served serve (step_plan machine) memory).0).0) ((((served serve (step_plan machine) memory).0).1).ended))
    ((served serve (step_plan machine) memory).1)) lines
    ∙ ap (λ (r : (Machine × Done) × List ℕ).
    step_lines machine memory ++ asked_lines core serve
    (after_instruction before (run_plan n (before + 1)) ((r.0).0) (((r.0).1).ended)) (r.1)) first
    ∙ ap (λ l. step_lines machine memory ++ l)
    (asked-after core serve n before step step.done.ended
    (asked-run_plan core n (before + 1) step.done.cost step.machine step.memory
    (at ∙ sym (flat_step-base machine memory)) (long ∙ sym (flat_step-size machine memory)) fits))
    ∙ ap (λ l. l ++ uses_of (items_from (run_items n) step step.done.ended))
    (sym (uses_of-after cost (step_lines machine memory)))
    ∙ sym (map-append (λ (item : LineItem). item.use_of) (items_after cost (step_lines machine memory))
    (items_from (run_items n) step step.done.ended))
    ∙ ap uses_of (sym (run_items-suc n cost machine memory))

-- ---- what it may ask for
-- every outcome of a step is a core of the same memory
pub step_plan-keeps : (machine : Machine) → IsCore machine.core
    → Outcomes (λ (end : Machine × Done). IsCore ((end.0).core)
    × ((end.0).core.base ≡ machine.core.base) × ((end.0).core.size ≡ machine.core.size)) (step_plan machine)
step_plan-keeps machine is =
    Outcomes-from (λ (end : Machine × Done). IsCore ((end.0).core)
    × ((end.0).core.base ≡ machine.core.base) × ((end.0).core.size ≡ machine.core.size)) (step_plan machine)
    (λ end ends. let same = Ends-step_keeps {E = Unit {0}} (λ s access answer t. Unit {0}) machine is tt tt end ends in
    (same.is, same.base, same.size))

Asks-after : (base size n before : ℕ) (core : CoreState) (end : Machine × Done) (ended : Ended)
    → Asks (IsAccess base size) (run_plan n (before + 1) (end.0))
    → Asks (IsAccess base size) (after_instruction before (run_plan n (before + 1)) (end.0) ended)
Asks-after base size n before core end No later = later
Asks-after base size n before core end (Exit status) later = tt
Asks-after base size n before core end (Trap kind pc) later = tt

pub Asks-run_plan : (base size n before : ℕ) (machine : Machine) → IsCore machine.core
    → machine.core.base ≡ base → machine.core.size ≡ size → Asks (IsAccess base size) (run_plan n before machine)
Asks-run_plan base size zero before machine is at long =
    subst (Asks (IsAccess base size)) (sym (run_plan-none before machine)) tt
Asks-run_plan base size (suc n) before machine is at long =
    subst (Asks (IsAccess base size)) (sym (run_plan-next n before machine))
    (Asks-bind-where (IsAccess base size) (λ (end : Machine × Done). IsCore ((end.0).core)
    × ((end.0).core.base ≡ machine.core.base) × ((end.0).core.size ≡ machine.core.size)) (λ left. (before, left))
    (step_plan machine) (λ end. after_instruction before (run_plan n (before + 1)) (end.0) ((end.1).ended))
    (subst (λ b. Asks (IsAccess b size) (step_plan machine)) at
    (subst (λ s. Asks (IsAccess machine.core.base s) (step_plan machine)) long (Asks-step_plan machine is)))
    (step_plan-keeps machine is)
    (λ end same. Asks-after base size n before machine.core end ((end.1).ended)
    (Asks-run_plan base size n (before + 1) (end.0) (same.0) (same.1 ∙ at) (same.2 ∙ long))))
