-- Reports of the machine that is fed with answered lines, and of what their cycles were spent on.
use Rattle.std.proofs.Common.{◌≡◌, ◌+◌, ℕ, List, [], ◌∷◌, length, refl, sym, ◌∙◌, ap, subst, arith}
use Rattle.bus_watch.specs.Log.{LogLists}
use Rattle.bus_watch.specs.declared.log.Event.{Event}
use Rattle.elf_loader.specs.declared.image.Image.{Image}
use Rattle.fed_run.specs.Fed.{FedRun, NotedLine, Starves, Ends as EndsAs, fed_run}
use Rattle.fed_run.specs.Whole.{fed, feed_at_start}
use Rattle.play_run.specs.Spent.{fed_cost}
use Rattle.run_play.specs.Programs.{exit_words, load_words, memory_with}
use Rattle.run_play.specs.Rows.{small}
use Rattle.rv32_core.specs.FlatRun.{Exited, machine_at_start, output_limit}
use Rattle.rv32_core.specs.LineList.{lines_from}
use Rattle.rv32_core.specs.Machine.{Machine}
use Rattle.rv32_table.specs.Meaning.{load_meaning, register_meaning}
use Rattle.rv32_table.specs.Table.{decoded, table}
use Rattle.secure_machine.specs.Fed.{FedEnds, IsFed}
use Rattle.secure_machine.specs.Rows.{IsLoaded, IsSaid, load_lines}
use Rattle.secure_machine.specs.Run.{start_of}
use Rattle.secure_machine.specs.Spent.{EndsAtClock, IsSpentOn, cycles_spent}
use Rattle.secure_machine.specs.declared.report.Ending.{Ending}
use Rattle.secure_machine.specs.declared.report.Ending.TheVariants.{Exit, TimeUp}
use Rattle.secure_machine.specs.declared.report.Report.{Report}

abbrev machine : Machine
machine = machine_at_start 0 0 4096 0 [] output_limit

-- what an image of a program starts as, with its bytes and its image lines
loaded : (words : List ℕ) (image : Image) → IsLoaded words image → (P : Machine → List ℕ → List ℕ → Type 0)
    → P machine (memory_with 4096 0 words) (0 ∷ [])
    → P (start_of small image []) image.bytes.items image.marked.items
loaded words image h P base =
    subst (P (start_of small image []) image.bytes.items) (sym h.marked)
    (subst (λ bytes. P (start_of small image []) bytes (0 ∷ [])) (sym h.bytes)
    (subst (λ entry. P (machine_at_start entry 0 4096 image.heap [] output_limit) (memory_with 4096 0 words) (0 ∷ []))
    (sym h.entry)
    (subst (λ heap. P (machine_at_start 0 0 4096 heap [] output_limit) (memory_with 4096 0 words) (0 ∷ []))
    (sym h.heap) base)))

-- a program that is fed with lines
abbrev fed_by : (n : ℕ) (words : List ℕ) (lines : List NotedLine) → FedRun
fed_by n words lines = fed 1 1 (memory_with 4096 0 words) (0 ∷ []) n machine lines

-- a load that is fed with its line and with the program's again
loads : ((fed_by 4 load_words load_lines).feed.left ≡ []) × ((fed_by 3 load_words load_lines).instructions ≡ 3)
    × ((fed_by 3 load_words load_lines).machine.files.output ≡ [])
    × ((fed_by 4 load_words load_lines).ending ≡ EndsAs (Exited 0))
    × ((fed_by 4 load_words load_lines).instructions ≡ 3)
unfolding fed_run lines_from decoded table register_meaning load_meaning
loads = (refl, refl, refl, refl, refl)

-- and with none
starves : (fed_by 4 load_words []).ending ≡ Starves
unfolding fed_run lines_from decoded table register_meaning load_meaning
starves = refl

pub load : (image : Image) (report : Report) → IsLoaded load_words image → IsSaid 3 (Exit 0) report
    → IsFed small image [] report load_lines
load image report h said = record {
  uses = subst (λ k. (fed 1 1 image.bytes.items image.marked.items (k + 1) (start_of small image [])
      load_lines).feed.left ≡ []) (sym said.instructions_are)
      (loaded load_words image h (λ m bytes marked. (fed 1 1 bytes marked 4 m load_lines).feed.left ≡ []) loads.0);
  finished = subst (λ k. (fed 1 1 image.bytes.items image.marked.items k (start_of small image [])
      load_lines).instructions ≡ k) (sym said.instructions_are)
      (loaded load_words image h (λ m bytes marked. (fed 1 1 bytes marked 3 m load_lines).instructions ≡ 3)
      loads.1);
  output = said.output
      ∙ subst (λ k. [] ≡ (fed 1 1 image.bytes.items image.marked.items k (start_of small image [])
      load_lines).machine.files.output) (sym said.instructions_are)
      (loaded load_words image h (λ m bytes marked. [] ≡ (fed 1 1 bytes marked 3 m load_lines).machine.files.output)
      (sym loads.2));
  ends = subst (λ (k : ℕ). FedEnds 1 k (start_of small image [])
      (feed_at_start 1 1 image.bytes.items image.marked.items load_lines) report.ending) (sym said.instructions_are)
      (subst (λ (e : Ending). FedEnds 1 3 (start_of small image [])
      (feed_at_start 1 1 image.bytes.items image.marked.items load_lines) e) (sym said.ending_is)
      (loaded load_words image h (λ m bytes marked. FedEnds 1 3 m (feed_at_start 1 1 bytes marked load_lines) (Exit 0))
      (loads.3, loads.4)));
}

pub unfed : (image : Image) (report : Report) → IsLoaded load_words image → IsSaid 3 (Exit 0) report
    → IsFed small image [] report [] → ⊥
unfed image report h said is =
    let ends : FedEnds 1 3 (start_of small image []) (feed_at_start 1 1 image.bytes.items image.marked.items [])
    (Exit 0) =
    subst (λ (e : Ending). FedEnds 1 3 (start_of small image [])
    (feed_at_start 1 1 image.bytes.items image.marked.items []) e) said.ending_is
    (subst (λ (k : ℕ). FedEnds 1 k (start_of small image [])
    (feed_at_start 1 1 image.bytes.items image.marked.items []) report.ending) said.instructions_are is.ends) in
    let here : FedEnds 1 3 machine (feed_at_start 1 1 (memory_with 4096 0 load_words) (0 ∷ []) []) (Exit 0) =
    loaded load_words image h (λ m bytes marked. FedEnds 1 3 m (feed_at_start 1 1 bytes marked []) (Exit 0)
    → FedEnds 1 3 machine (feed_at_start 1 1 (memory_with 4096 0 load_words) (0 ∷ []) []) (Exit 0)) (λ x. x) ends in
    let bad : Starves ≡ EndsAs (Exited 0) = sym starves ∙ here.0 in
    cc

-- ---- cycles
exit_cost : fed_cost 1 2 machine (feed_at_start 1 1 (memory_with 4096 0 exit_words) (0 ∷ []) []) ≡ 11
unfolding fed_cost lines_from decoded table register_meaning load_meaning
exit_cost = refl

spent_is : (image : Image) → IsLoaded exit_words image → (log : LogLists) → log.events ≡ []
    → cycles_spent small image [] 2 log ≡ 12
spent_is image h log none =
    ap (λ (events : List Event). cycles_spent small image [] 2 (record log { events = events })) none
    ∙ loaded exit_words image h
    (λ m bytes marked. length marked + fed_cost 1 2 m (feed_at_start 1 1 bytes marked []) + 0 ≡ 12)
    (omega (arith, exit_cost))

pub spent : (image : Image) (report : Report) → IsLoaded exit_words image → IsSaid 2 (Exit 0) report
    → report.cycles ≡ 12 → (log : LogLists) → log.events ≡ [] → IsSpentOn small image [] report log
spent image report h said cycles log none =
    let all : cycles_spent small image [] report.instructions log ≡ 12 =
    ap (λ n. cycles_spent small image [] n log) said.instructions_are ∙ spent_is image h log none in
    record {
      cycles = omega (arith, cycles, all);
      whole = λ at_clock. cycles ∙ sym all;
      time = λ at is. absurd (let bad : Exit 0 ≡ TimeUp at = sym said.ending_is ∙ is in cc);
    }

pub overspent : (image : Image) (report : Report) → IsLoaded exit_words image → IsSaid 2 (Exit 0) report
    → report.cycles ≡ 11 → (log : LogLists) → log.events ≡ [] → IsSpentOn small image [] report log → ⊥
overspent image report h said cycles log none is =
    let all : cycles_spent small image [] report.instructions log ≡ 12 =
    ap (λ n. cycles_spent small image [] n log) said.instructions_are ∙ spent_is image h log none in
    omega (
      arith,
      cycles,
      all,
      is.whole (subst (λ (e : Ending). EndsAtClock report.instructions report.cycles e) (sym said.ending_is) tt),
    )
