-- A whole run over a new encrypted memory is the flat run on its image, or the log shows a forgery.
use Rattle.std.proofs.Common.{◌≡◌, ◌<◌, ◌*◌, ◌⊎◌, inl, inr, ℕ, List, [], ◌∷◌, Ok, length}
use Rattle.std.proofs.Common.{All, get_or, replicate, sym, ap, ◌∙◌, subst, arith}
use Rattle.std.proofs.lemmas.List.{get_or-replicate, length-replicate}
use Rattle.request_plan.specs.Plan.{Ends, through}
use Rattle.request_plan.proofs.Chains.{Ends-unbind}
use Rattle.asc_base.specs.Has.{Has}
use Rattle.asc_base.specs.Settings.{IsConfig}
use Rattle.asc_base.specs.declared.settings.Config.{Config}
use Rattle.oram_contents.specs.Counts.{zero_line}
use Rattle.oram_contents.specs.Entries.{Keys, AreKeys}
use Rattle.oram_contents.specs.Forgery.{Forgery}
use Rattle.oram_frontend.specs.Oram.{OramState, OramStep, Wait, Told}
use Rattle.oram_lines.specs.Lines.{IsNew}
use Rattle.oram_lines.proofs.LineLaws.{new_holds, call_holds}
use Rattle.rv32_core.specs.FlatRun.{flat_run}
use Rattle.rv32_core.specs.Machine.{Machine, IsCore}
use Rattle.rv32_core.specs.RunPlan.{RunEnd, run_plan}
use Rattle.data_cache.specs.Cached.{cache_access}
use Rattle.data_cache.specs.CacheLists.{line_in}
use Rattle.data_cache.specs.Contents.{Contents, write_line_plan}
use Rattle.data_cache.proofs.ToldLaws.{stand-start}
use Rattle.fed_run.specs.Whole.{cache_image, cache_run}
use Rattle.encrypted_run.specs.Refined.{OramLine, Computes, empty_cache, loaded}
use Rattle.encrypted_run.proofs.ImageLaws.{zeros_in, line_whole, loaded_is, all_first, all_rest}
use Rattle.encrypted_run.proofs.RefinedLaws.{lines_same, line_refines, run_refines, forgery_plan}

module _ (keys : Keys) (lawful : AreKeys keys) (levels : ℕ) where
  -- an empty cache over a new encrypted memory stands for zeros
  pub start_computes : (config : Config) (o : OramState) (sets ways : ℕ) → IsConfig config
      → IsNew keys config levels o → 0 < sets → 0 < ways
      → Computes keys levels (empty_cache sets ways) (replicate (64 * keys.shape.lines) 0) o
  start_computes config o sets ways is_config new some room = record {
    list = replicate keys.shape.lines zero_line;
    held = record {
      number = length-replicate keys.shape.lines zero_line;
      holds = lines_same keys lawful levels (λ line. zero_line)
          (λ n. get_or (replicate keys.shape.lines zero_line) n []) o
          (λ n below. sym (get_or-replicate keys.shape.lines n zero_line [] below))
          (new_holds keys lawful levels config o is_config new);
    };
    stands = stand-start sets ways (replicate keys.shape.lines zero_line)
        (replicate (64 * keys.shape.lines) 0) some room
        (length-replicate (64 * keys.shape.lines) 0
        ∙ ap (λ n. 64 * n) (sym (length-replicate keys.shape.lines zero_line)))
        (λ n below.
        let inside : n < keys.shape.lines = omega (arith, length-replicate keys.shape.lines zero_line) in
        get_or-replicate keys.shape.lines n zero_line [] inside ∙ sym (zeros_in keys.shape.lines n inside));
  }

  -- dummies change nothing
  pub wait_computes : (memory : List ℕ) (cache : Contents) (old new : OramState) (time : ℕ) (told : Told)
      → Computes keys levels cache memory old → OramStep keys levels old (Wait time) (Ok told) new
      → Forgery keys new.port.tap.log ⊎ Computes keys levels cache memory new
  wait_computes memory cache old new time told x one =
      elim (call_holds keys lawful levels (λ n. get_or x.list n []) old new (Wait time) told x.held.holds tt one) [
        | inl forged ↦ inl forged
        | inr (holds, none) ↦ inr (record {
          list = x.list;
          held = record { number = x.held.number; holds = holds };
          stands = x.stands;
        })
      ]

  -- the image lines
  pub image_refines : (image marked : List ℕ) → length image ≡ 64 * keys.shape.lines
      → All (λ line. line < keys.shape.lines) marked → (memory : List ℕ) (old new : OramState) (cache after : Contents)
      → Computes keys levels cache memory old
      → Ends (OramLine keys levels) (cache_image image marked cache) old new after
      → Forgery keys new.port.tap.log ⊎ Computes keys levels after (loaded image marked memory) new
  image_refines image [] long inside memory old new cache after x ends =
      inr (subst (λ c. Computes keys levels c memory new) (sym ends.0)
      (subst (λ (o : OramState). Computes keys levels cache memory o) (sym ends.1) x))
  image_refines image (line ∷ marked) long inside memory old new cache after x ends =
      let first = all_first (λ k. k < keys.shape.lines) line marked inside in
      let others = all_rest (λ k. k < keys.shape.lines) line marked inside in
      let (between, mid, one, rest) = Ends-unbind (OramLine keys levels) (λ (left : Contents). left)
      (write_line_plan cache line (record { 0 = line_in image line })) (cache_image image marked) old new after ends in
      elim (line_refines keys lawful levels line (record { 0 = line_in image line }) first
      (line_whole image keys.shape.lines long line first) memory old mid cache between x one) [
        | inl forged ↦ inl (forgery_plan keys lawful levels (cache_image image marked between) mid new
            after rest forged)
        | inr y ↦ image_refines image marked long others _ mid new between after y rest
      ]

  -- A whole run.
  pub whole_refines : (config : Config) (image marked : List ℕ) (machine : Machine) (sets ways n : ℕ) → IsConfig config
      → length image ≡ 64 * keys.shape.lines → All (λ line. line < keys.shape.lines) marked
      → ((k : ℕ) → k < keys.shape.lines → Has k marked ⊎ (line_in image k ≡ zero_line))
      → IsCore machine.core → machine.core.size ≡ 64 * keys.shape.lines → 0 < sets → 0 < ways
      → (old new : OramState) (after : Contents) (end : RunEnd) → IsNew keys config levels old
      → Ends (OramLine keys levels) (cache_run image marked n machine (empty_cache sets ways)) old new (after, end)
      → Forgery keys new.port.tap.log
      ⊎ (let run = flat_run n machine image in
      (run.instructions ≡ end.instructions) × (run.machine ≡ end.machine) × (run.ending ≡ end.ending)
      × Computes keys levels after run.memory new)
  whole_refines config image marked machine sets ways n is_config long inside zeros is size some room old new after end
      is_new ends =
      let (cache, mid, one, rest) = Ends-unbind (OramLine keys levels) (λ (left : Contents). (left, (0, machine)))
      (cache_image image marked (empty_cache sets ways))
      (through (cache_access machine.core.base) (run_plan n 0 machine)) old new (after, end) ends in
      elim (image_refines image marked long inside (replicate (64 * keys.shape.lines) 0) old mid (empty_cache sets ways)
      cache (start_computes config old sets ways is_config is_new some room) one) [
        | inl forged ↦ inl (forgery_plan keys lawful levels
            (through (cache_access machine.core.base) (run_plan n 0 machine) cache) mid new (after, end) rest forged)
        | inr y ↦ run_refines keys lawful levels machine is size n image mid new cache after end
            (subst (λ m. Computes keys levels cache m mid)
            (loaded_is image keys.shape.lines long marked inside zeros) y)
            rest
      ]
