-- A report that is the flat run's of a program whose flat runs all end so, if they are long enough.
use Rattle.std.proofs.Common.{◌≡◌, ◌≤◌, ◌+◌, ◌-◌, ℕ, List, inl, inr, sym, ap, ◌∙◌, arith}
use Rattle.std.proofs.lemmas.Bool.{cases_lt}
use Rattle.asc_base.specs.declared.settings.Config.{Config}
use Rattle.elf_loader.specs.Layout.{first_break, image_bytes}
use Rattle.elf_loader.specs.declared.image.Image.{Image}
use Rattle.rv32_core.specs.FlatRun.{FlatRun, FlatEnding, Exited, Trapped, flat_run, gone_on_from}
use Rattle.rv32_core.specs.FlatRun.{machine_at_start, output_limit}
use Rattle.rv32_core.specs.Machine.{Machine}
use Rattle.rv32_core.specs.declared.outcome.TrapKind.{TrapKind}
use Rattle.rv32_core.proofs.FlatRunLaws.{flat_run-goes_on}
use Rattle.generated_run.specs.Written.{IsWritten, run_of_file}
use Rattle.secure_machine.specs.Run.{start_of}
use Rattle.generated_report.specs.Loaded.{IsGenerated}

module _ (machine : Machine) (memory : List ℕ) (last hash : ℕ)
    (written : (n : ℕ) → last ≤ n → IsWritten last hash (flat_run n machine memory)) where
  abbrev run : ℕ → FlatRun
  run n = flat_run n machine memory

  -- a run that ended stays as it is
  stays : (n : ℕ) (status : ℕ) → n ≤ last → (run n).ending ≡ Exited status → run last ≡ run n
  stays n status below ended =
      ap (λ k. flat_run k machine memory) (let e : last ≡ n + (last - n) = omega (arith, below) in e)
      ∙ (flat_run-goes_on n (last - n) machine memory ∙ ap (gone_on_from (last - n) (run n)) ended)

  stays_trapped : (n pc : ℕ) (kind : TrapKind) → n ≤ last → (run n).ending ≡ Trapped kind pc → run last ≡ run n
  stays_trapped n pc kind below ended =
      ap (λ k. flat_run k machine memory) (let e : last ≡ n + (last - n) = omega (arith, below) in e)
      ∙ (flat_run-goes_on n (last - n) machine memory ∙ ap (gone_on_from (last - n) (run n)) ended)

  -- as many instructions as were reported are no more
  pub few_finish : (n : ℕ) → (run n).instructions ≡ n → n ≤ last
  few_finish n finished = elim (cases_lt n last) [
    | inl short ↦ omega (arith, short)
    | inr long ↦ (let all = (written n long).instructions in omega (arith, all, finished))
  ]

  -- an exit comes behind the last of them
  pub exit_finishes : (n status : ℕ) → (run n).instructions ≡ n → (run n).ending ≡ Exited status → n ≡ last
  exit_finishes n status finished ended =
      let below = few_finish n finished in
      let all = (written last (omega arith)).instructions in
      let same : (run last).instructions ≡ (run n).instructions = ap (λ (r : FlatRun). r.instructions) (stays n status
      below ended) in
      omega (arith, all, same, finished)

  -- with the status 0
  pub exit_is_0 : (n status : ℕ) → n ≡ last → (run n).ending ≡ Exited status → status ≡ 0
  exit_is_0 n status is ended =
      let zero = (written n (omega (arith, is))).ending in
      let e : ◌≡◌ {A = FlatEnding} (Exited status) (Exited 0) = sym ended ∙ zero in cc

  -- it doesn't trap
  pub none_traps : (n pc : ℕ) (kind : TrapKind) → (run n).ending ≡ Trapped kind pc → ⊥
  none_traps n pc kind ended = elim (cases_lt n last) [
    | inl short ↦ (let all = (written last (omega arith)).ending in
        let same = ap (λ (r : FlatRun). r.ending) (stays_trapped n pc kind (omega (arith, short)) ended) in
        let e : ◌≡◌ {A = FlatEnding} (Trapped kind pc) (Exited 0) = sym ended ∙ (sym same ∙ all) in
        let no : ⊥ = cc in no)
    | inr long ↦ (let all = (written n long).ending in
        let e : ◌≡◌ {A = FlatEnding} (Trapped kind pc) (Exited 0) = sym ended ∙ all in
        let no : ⊥ = cc in no)
  ]

-- the flat run of a report's image is that of the file
module _ (config : Config) (image : Image) (input : List ℕ) (seed words : ℕ) (is : IsGenerated config image seed words)
  where
    pub same_run : (n : ℕ) → run_of_file config.base config.size is.file input n
        ≡ flat_run n (start_of config image input) image.bytes.items
    same_run n =
        let start : ℕ → ℕ → Machine = λ entry heap.
        machine_at_start entry config.base config.size heap input output_limit in
        ap (λ entry. flat_run n (start entry (first_break config.base config.size is.file))
        (image_bytes config.base config.size is.file)) (sym is.entry)
        ∙ (ap (λ heap. flat_run n (start image.entry heap) (image_bytes config.base config.size is.file)) (sym is.heap)
        ∙ ap (λ bytes. flat_run n (start image.entry image.heap) bytes) (sym is.bytes))
