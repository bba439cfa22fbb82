-- Reports of two programs of flat RV32IM, in each ending.
use Rattle.std.proofs.Common.{◌≡◌, ℕ, List, [], refl, sym, ◌∙◌, subst, arith}
use Rattle.asc_base.specs.declared.stop.Evidence.{Evidence}
use Rattle.elf_loader.specs.declared.image.Image.{Image}
use Rattle.run_play.specs.Programs.{exit_words, memory_with, misaligned_words}
use Rattle.run_play.specs.Rows.{small}
use Rattle.rv32_core.specs.FlatRun.{FlatRun, Exited, Trapped, Budget as FlatBudget, flat_run}
use Rattle.rv32_core.specs.FlatRun.{machine_at_start, output_limit}
use Rattle.rv32_core.specs.Machine.{Machine}
use Rattle.rv32_core.specs.declared.outcome.TrapKind.TheVariants.{FetchMisaligned}
use Rattle.rv32_table.specs.Meaning.{register_meaning}
use Rattle.rv32_table.specs.Table.{decoded, table}
use Rattle.secure_machine.specs.FlatEnds.{FlatEnds}
use Rattle.secure_machine.specs.Rows.{IsLoaded, IsSaid}
use Rattle.secure_machine.specs.Run.{IsFlatReport, start_of}
use Rattle.secure_machine.specs.declared.report.Ending.{Ending}
use Rattle.secure_machine.specs.declared.report.Ending.TheVariants.{Exit, Trap, Budget, TimeUp, StashFull, Integrity}
use Rattle.secure_machine.specs.declared.report.Ending.TheVariants.{Device}
use Rattle.secure_machine.specs.declared.report.Report.{Report}

abbrev machine : Machine
machine = machine_at_start 0 0 4096 0 [] output_limit

-- the flat run of a program, by its words
abbrev run_of : (n : ℕ) (words : List ℕ) → FlatRun
run_of n words = flat_run n machine (memory_with 4096 0 words)

-- what an image of a program starts as
loaded : (words : List ℕ) (image : Image) → IsLoaded words image → (P : Machine → List ℕ → Type 0)
    → P machine (memory_with 4096 0 words) → P (start_of small image []) image.bytes.items
loaded words image h P base =
    subst (P (start_of small image [])) (sym h.bytes)
    (subst (λ entry. P (machine_at_start entry 0 4096 image.heap [] output_limit) (memory_with 4096 0 words))
    (sym h.entry)
    (subst (λ heap. P (machine_at_start 0 0 4096 heap [] output_limit) (memory_with 4096 0 words)) (sym h.heap) base))

-- a report of so many instructions that the flat run finishes without output, with an ending that is its
report_is : (words : List ℕ) (n : ℕ) (ending : Ending) (image : Image) (report : Report) → IsLoaded words image
    → IsSaid n ending report → (run_of n words).instructions ≡ n → (run_of n words).machine.files.output ≡ []
    → FlatEnds n machine (memory_with 4096 0 words) ending → IsFlatReport small image [] report
report_is words n ending image report h said finished output ends = record {
  finished = subst (λ k. (flat_run k (start_of small image []) image.bytes.items).instructions ≡ k)
      (sym said.instructions_are)
      (loaded words image h (λ m bytes. (flat_run n m bytes).instructions ≡ n) finished);
  output = said.output
      ∙ subst (λ k. [] ≡ (flat_run k (start_of small image []) image.bytes.items).machine.files.output)
      (sym said.instructions_are)
      (loaded words image h (λ m bytes. [] ≡ (flat_run n m bytes).machine.files.output) (sym output));
  ends = subst (λ k. FlatEnds k (start_of small image []) image.bytes.items report.ending)
      (sym said.instructions_are)
      (subst (λ e. FlatEnds n (start_of small image []) image.bytes.items e) (sym said.ending_is)
      (loaded words image h (λ m bytes. FlatEnds n m bytes ending) ends));
}

-- and what such a report says of the flat run
report_says : (words : List ℕ) (n : ℕ) (ending : Ending) (image : Image) (report : Report) → IsLoaded words image
    → IsSaid n ending report → IsFlatReport small image [] report
    → ((run_of n words).instructions ≡ n) × FlatEnds n machine (memory_with 4096 0 words) ending
report_says words n ending image report h said is = (
  unloaded (λ m bytes. (flat_run n m bytes).instructions ≡ n)
      (subst (λ k. (flat_run k (start_of small image []) image.bytes.items).instructions ≡ k)
      said.instructions_are is.finished),
  unloaded (λ m bytes. FlatEnds n m bytes ending)
      (subst (λ e. FlatEnds n (start_of small image []) image.bytes.items e) said.ending_is
      (subst (λ k. FlatEnds k (start_of small image []) image.bytes.items report.ending) said.instructions_are
      is.ends)),
)
  where
    unloaded : (P : Machine → List ℕ → Type 0) → P (start_of small image []) image.bytes.items
        → P machine (memory_with 4096 0 words)
    unloaded P there =
        loaded words image h (λ m bytes. P m bytes → P machine (memory_with 4096 0 words)) (λ here. here) there

one : ((run_of 1 exit_words).instructions ≡ 1) × ((run_of 1 exit_words).machine.files.output ≡ [])
    × ((run_of 1 exit_words).ending ≡ FlatBudget)
unfolding flat_run decoded table register_meaning
one = (refl, refl, refl)

both : ((run_of 2 exit_words).instructions ≡ 2) × ((run_of 2 exit_words).machine.files.output ≡ [])
    × ((run_of 2 exit_words).ending ≡ Exited 0)
unfolding flat_run decoded table register_meaning
both = (refl, refl, refl)

three : (run_of 3 exit_words).instructions ≡ 2
unfolding flat_run decoded table register_meaning
three = refl

jumped : ((run_of 1 misaligned_words).instructions ≡ 1) × ((run_of 1 misaligned_words).machine.files.output ≡ [])
    × ((run_of 2 misaligned_words).ending ≡ Trapped FetchMisaligned 4)
unfolding flat_run decoded table register_meaning
jumped = (refl, refl, refl)

two_or_three : (n : ℕ) → n ≡ 2 → n ≡ 3 → ⊥
two_or_three n two other = omega (arith, two, other)

module _ (image : Image) (report : Report) where
  pub exit : IsLoaded exit_words image → IsSaid 2 (Exit 0) report → IsFlatReport small image [] report
  exit h said = report_is exit_words 2 (Exit 0) image report h said both.0 both.1 both.2

  pub trap : IsLoaded misaligned_words image → IsSaid 1 (Trap FetchMisaligned 4) report
      → IsFlatReport small image [] report
  trap h said = report_is misaligned_words 1 (Trap FetchMisaligned 4) image report h said jumped.0 jumped.1 jumped.2

  pub budget : IsLoaded exit_words image → IsSaid 1 Budget report → IsFlatReport small image [] report
  budget h said = report_is exit_words 1 Budget image report h said one.0 one.1 one.2

  pub time_up : (at : ℕ) → IsLoaded exit_words image → IsSaid 1 (TimeUp at) report
      → IsFlatReport small image [] report
  time_up at h said = report_is exit_words 1 (TimeUp at) image report h said one.0 one.1 one.2

  pub full : (held : ℕ) → IsLoaded exit_words image → IsSaid 1 (StashFull held) report
      → IsFlatReport small image [] report
  full held h said = report_is exit_words 1 (StashFull held) image report h said one.0 one.1 tt

  pub refused : (evidence : Evidence) → IsLoaded exit_words image → IsSaid 1 (Integrity evidence) report
      → IsFlatReport small image [] report
  refused evidence h said = report_is exit_words 1 (Integrity evidence) image report h said one.0 one.1 tt

  pub device : IsLoaded exit_words image → IsSaid 1 Device report → IsFlatReport small image [] report
  device h said = report_is exit_words 1 Device image report h said one.0 one.1 tt

  pub other_status : IsLoaded exit_words image → IsSaid 2 (Exit 1) report → IsFlatReport small image [] report → ⊥
  other_status h said is =
      let says = report_says exit_words 2 (Exit 1) image report h said is in
      let bad : Exited 0 ≡ Exited 1 = sym both.2 ∙ says.1 in cc

  pub more : (ending : Ending) → IsLoaded exit_words image → IsSaid 3 ending report
      → IsFlatReport small image [] report → ⊥
  more ending h said is =
      let says = report_says exit_words 3 ending image report h said is in
      two_or_three (run_of 3 exit_words).instructions three says.0

  pub no_end : IsLoaded exit_words image → IsSaid 2 Budget report → IsFlatReport small image [] report → ⊥
  no_end h said is =
      let says = report_says exit_words 2 Budget image report h said is in
      let bad : Exited 0 ≡ FlatBudget = sym both.2 ∙ says.1 in cc
