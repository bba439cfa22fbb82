-- Pieces of a run, one behind another, and a piece of one instruction.
use Rattle.std.proofs.Common.{◌≡◌, ◌∙◌, ℕ, suc, ◌+◌, List, ap, arith}
use Rattle.rv32_core.specs.Machine.{Machine}
use Rattle.rv32_core.specs.FlatMachine.{FlatStep, flat_step, stepped}
use Rattle.rv32_core.specs.FlatRun.{FlatRun, finished_before, run_from, flat_run}
use Rattle.generated_run.specs.Leads.{Leads}

-- runs that differ in how many instructions finished
with_count : (run : FlatRun) (m n : ℕ) → m ≡ n → record run { instructions = m } ≡ record run { instructions = n }
with_count run m n same = ap (λ (k : ℕ). let r : FlatRun = record run { instructions = k } in r) same

pub leads_none : (machine : Machine) (memory : List ℕ) → Leads 0 machine memory machine memory
leads_none machine memory = record {
  goes_on = λ more.
      let none : 0 + more ≡ more = omega arith in
      ap (λ n. flat_run n machine memory) none
      ∙ with_count (flat_run more machine memory) ((flat_run more machine memory).instructions)
      (0 + (flat_run more machine memory).instructions) (omega arith);
}

pub leads_both : {count more : ℕ} {machine next last : Machine} {memory after end : List ℕ}
    → Leads count machine memory next after → Leads more next after last end
    → Leads (count + more) machine memory last end
leads_both {count} {more} {machine} {next} {last} {memory} {after} {end} first second = record {
  goes_on = λ rest.
      let whole : (count + more) + rest ≡ count + (more + rest) = omega arith in
      let run : FlatRun = flat_run rest last end in
      ap (λ n. flat_run n machine memory) whole
      ∙ first.goes_on (more + rest)
      ∙ ap (finished_before count) (second.goes_on rest)
      ∙ with_count run (count + (more + run.instructions)) ((count + more) + run.instructions) (omega arith);
}

-- one piece behind another
infixr 5 ◌▸◌
pub ◌▸◌ : {count more : ℕ} {machine next last : Machine} {memory after end : List ℕ}
    → Leads count machine memory next after → Leads more next after last end
    → Leads (count + more) machine memory last end
first ▸ second = leads_both first second

-- an instruction after which the machine goes on
pub leads_one : (machine next : Machine) (memory after : List ℕ) (cost : ℕ)
    → flat_step machine memory ≡ stepped next after cost → Leads 1 machine memory next after
unfolding flat_run
leads_one machine next memory after cost step = record {
  goes_on = λ more.
      let first : 1 + more ≡ suc more = omega arith in
      ap (λ n. flat_run n machine memory) first
      ∙ ap (λ (s : FlatStep). run_from (flat_run more) s (s.done.ended)) step;
}
