use Rattle.std.proofs.Common.{◌≡◌, ◌+◌, ◌*◌, ◌++◌, ◌∙◌, ℕ, List, length, inl, inr, sym, ap, subst, refl}
use Rattle.data_cache.specs.Cached.{StandsAs}
use Rattle.data_cache.specs.CacheLists.{no_lines}
use Rattle.data_cache.specs.Contents.{Contents, CacheBelow}
use Rattle.encrypted_run.specs.Refined.{Computes, loaded}
use Rattle.rv32_core.specs.Machine.{Machine, IsCore, CoreState}
use Rattle.rv32_core.specs.StepPlan.{machine_of}
use Rattle.rv32_core.proofs.PlanLaws.{IsCore-core_at_start}
use Rattle.secure_machine.specs.Home.{EndsAtHome}
use Rattle.secure_machine.specs.FlatEnds.{IsFlat}
use Rattle.secure_machine.specs.Run.{start_of}
use Rattle.secure_machine.proofs.Refining.{keys_by}
use Rattle.asc_base.specs.declared.settings.Config.{Config}
use Rattle.secure_machine.specs.Same.{oram_over}
use Rattle.secure_machine.proofs.ReportLaws.{config_lines, reported_of, wanting_of, report_flat, start_image}
use Rattle.secure_machine.proofs.ReportLaws.{some_sets, some_ways}
use Rattle.fed_run.specs.Fed.{NotedLine}
use Rattle.fed_run.specs.Whole.{feed_at_start}
use Rattle.secure_machine.specs.Answered.{answered_lines}
use Rattle.secure_machine.specs.Fed.{IsFed, IsFedRun, over_image}
use Rattle.secure_machine.proofs.FedReports.{start_stands, none_answered, report_fed}
use Rattle.secure_machine.specs.Plays.{play_with}
use Rattle.secure_machine.proofs.PlayedLaws.{report_played, start_played}
use Rattle.secure_machine.specs.Judged.{EndsReplayed, WantsReplayed}
use Rattle.secure_machine.specs.declared.report.Ending.{Ending}
use Rattle.play_run.specs.Spent.{waits, fed_cost}
use Rattle.play_run.proofs.SpentPlans.{start-spent}
use Rattle.secure_machine.specs.Spent.{EndsSpent}
use Rattle.secure_machine.proofs.SpentReports.{report_spent}
use Rattle.secure_machine.proofs.run_prepared.Goals as goal

pub drive-requires-clause-size : goal.drive-requires-clause-size
drive-requires-clause-size g c =
    ap (λ (core : CoreState). core.size) c.new-core.ensures
    ∙ (config_lines c.args.config.now c.requires.config
    ∙ ap (λ (config : Config). 64 * config.shape.lines) (sym c.requires.port))

pub drive-requires-clause-below : goal.drive-requires-clause-below
drive-requires-clause-below g c =
    subst (λ (config : Config). CacheBelow config.shape.lines c.args.cache) (sym c.requires.port) c.requires.below

pub returns-in-Ok-clause-reported : goal.returns-in-Ok-clause-reported
returns-in-Ok-clause-reported g c =
    let over = oram_over g.M.UntrustedMemory.state g.W.Watch.state in
    reported_of c.args.config.now c.reported.result c.in-Ok.course.instructions
    c.in-Ok.course.cycles c.in-Ok.course.last
    c.in-Ok.course.ending (over c.args.oram c.args.bus.now.memory.now c.args.bus.now.tap.now).port
    (over c.drive.new.oram c.drive.new.bus.memory.now c.drive.new.bus.tap.now).port c.requires.port
    c.requires.counted c.in-Ok.ensures.settled c.reported.ensures.instructions c.reported.ensures.cycles
    c.reported.ensures.ending
    c.reported.ensures.last c.reported.ensures.real c.reported.ensures.dummies c.reported.ensures.choices
    c.reported.ensures.code (c.reported.ensures.fetches ∙ c.in-Ok.ensures.fetches c.requires.unanswered)

pub returns-in-Err-clause-wanting : goal.returns-in-Err-clause-wanting
returns-in-Err-clause-wanting g c =
    let over = oram_over g.M.UntrustedMemory.state g.W.Watch.state in
    wanting_of c.args.config.now (over c.args.oram c.args.bus.now.memory.now c.args.bus.now.tap.now).port
    (over c.drive.new.oram c.drive.new.bus.memory.now c.drive.new.bus.tap.now).port c.requires.port
    c.requires.counted c.in-Err.ensures.settled

pub returns-in-Ok-clause-refines : goal.returns-in-Ok-clause-refines
returns-in-Ok-clause-refines g c lawful =
    let keys = keys_by g.M.UntrustedMemory.state g.W.Watch.state g.L.LeafFn.leaf_of g.L.LeafFn.levels c.args.oram in
    let config = c.args.config.now in
    let over = oram_over g.M.UntrustedMemory.state g.W.Watch.state c.args.oram c.args.bus.now.memory.now
    c.args.bus.now.tap.now in
    let start = start_of config c.args.image.now c.args.files.input in
    let (memory, computes, is) = start_image keys config (g.L.LeafFn.levels c.args.oram.port.leaves) over
    c.args.image.now lawful c.requires.config c.requires.image (c.are_counted.ensures ∙ c.requires.image.bytes)
    c.requires.new
    (some_sets config c.requires.config) (some_ways config c.requires.config) in
    let core_is = c.new-core.ensures in
    let machine_is : machine_of c.new-core.result c.args.files ≡ start =
    λ i. record { core = core_is i; files = c.requires.unread i } in
    elim (c.in-Ok.ensures.refines memory lawful
    (subst IsCore (sym core_is) (IsCore-core_at_start c.args.image.now.entry config.base config.size
    c.args.image.now.heap c.requires.config.memory c.requires.image.entry_aligned))
    (subst (λ (cache : Contents). Computes keys (g.L.LeafFn.levels c.args.oram.port.leaves) cache memory over)
    (sym c.requires.empty) computes)) [
      | inl forged ↦ inl forged
      | inr flat ↦ inr (report_flat config c.args.image.now c.args.files.input c.reported.result
          c.in-Ok.course.instructions c.in-Ok.course.ending (machine_of c.drive.new.core c.drive.new.files)
          c.reported.ensures.instructions c.reported.ensures.ending c.reported.ensures.output
          (subst (λ (bytes : List ℕ). IsFlat c.in-Ok.course.instructions start bytes c.in-Ok.course.ending
          (machine_of c.drive.new.core c.drive.new.files)) is
          (subst (λ (m : Machine). IsFlat c.in-Ok.course.instructions m
          (loaded c.args.image.now.bytes.items c.args.image.now.marked.items memory) c.in-Ok.course.ending
          (machine_of c.drive.new.core c.drive.new.files)) machine_is flat)))
    ]

pub returns-in-Ok-clause-honest : goal.returns-in-Ok-clause-honest
returns-in-Ok-clause-honest g c lawful none evidence is =
    let keys = keys_by g.M.UntrustedMemory.state g.W.Watch.state g.L.LeafFn.leaf_of g.L.LeafFn.levels c.args.oram in
    let config = c.args.config.now in
    let over = oram_over g.M.UntrustedMemory.state g.W.Watch.state c.args.oram c.args.bus.now.memory.now
    c.args.bus.now.tap.now in
    let (memory, computes, same) = start_image keys config (g.L.LeafFn.levels c.args.oram.port.leaves) over
    c.args.image.now lawful c.requires.config c.requires.image (c.are_counted.ensures ∙ c.requires.image.bytes)
    c.requires.new
    (some_sets config c.requires.config) (some_ways config c.requires.config) in
    c.in-Ok.ensures.honest memory lawful
    (subst IsCore (sym c.new-core.ensures) (IsCore-core_at_start c.args.image.now.entry config.base config.size
    c.args.image.now.heap c.requires.config.memory c.requires.image.entry_aligned))
    (subst (λ (cache : Contents). Computes keys (g.L.LeafFn.levels c.args.oram.port.leaves) cache memory over)
    (sym c.requires.empty) computes) evidence (sym c.reported.ensures.ending ∙ is) none

pub returns-in-Ok-clause-points : goal.returns-in-Ok-clause-points
returns-in-Ok-clause-points g c lawful =
    let keys = keys_by g.M.UntrustedMemory.state g.W.Watch.state g.L.LeafFn.leaf_of g.L.LeafFn.levels c.args.oram in
    let config = c.args.config.now in
    let over = oram_over g.M.UntrustedMemory.state g.W.Watch.state c.args.oram c.args.bus.now.memory.now
    c.args.bus.now.tap.now in
    let (memory, computes, same) = start_image keys config (g.L.LeafFn.levels c.args.oram.port.leaves) over
    c.args.image.now lawful c.requires.config c.requires.image (c.are_counted.ensures ∙ c.requires.image.bytes)
    c.requires.new
    (some_sets config c.requires.config) (some_ways config c.requires.config) in
    c.drive.ensures.points memory lawful
    (subst IsCore (sym c.new-core.ensures) (IsCore-core_at_start c.args.image.now.entry config.base config.size
    c.args.image.now.heap c.requires.config.memory c.requires.image.entry_aligned))
    (subst (λ (cache : Contents). Computes keys (g.L.LeafFn.levels c.args.oram.port.leaves) cache memory over)
    (sym c.requires.empty) computes)

pub returns-in-Err-clause-points : goal.returns-in-Err-clause-points
returns-in-Err-clause-points g c lawful =
    let keys = keys_by g.M.UntrustedMemory.state g.W.Watch.state g.L.LeafFn.leaf_of g.L.LeafFn.levels c.args.oram in
    let config = c.args.config.now in
    let over = oram_over g.M.UntrustedMemory.state g.W.Watch.state c.args.oram c.args.bus.now.memory.now
    c.args.bus.now.tap.now in
    let (memory, computes, same) = start_image keys config (g.L.LeafFn.levels c.args.oram.port.leaves) over
    c.args.image.now lawful c.requires.config c.requires.image (c.are_counted.ensures ∙ c.requires.image.bytes)
    c.requires.new
    (some_sets config c.requires.config) (some_ways config c.requires.config) in
    c.drive.ensures.points memory lawful
    (subst IsCore (sym c.new-core.ensures) (IsCore-core_at_start c.args.image.now.entry config.base config.size
    c.args.image.now.heap c.requires.config.memory c.requires.image.entry_aligned))
    (subst (λ (cache : Contents). Computes keys (g.L.LeafFn.levels c.args.oram.port.leaves) cache memory over)
    (sym c.requires.empty) computes)

pub returns-in-Ok-clause-fed : goal.returns-in-Ok-clause-fed
returns-in-Ok-clause-fed g c =
    let config = c.args.config.now in
    let image = c.args.image.now in
    let start = start_of config image c.args.files.input in
    let last = machine_of c.drive.new.core c.drive.new.files in
    let core_is = c.new-core.ensures in
    let machine_is : machine_of c.new-core.result c.args.files ≡ start =
    λ i. record { core = core_is i; files = c.requires.unread i } in
    let stands = start_stands config image c.requires.config (c.are_counted.ensures ∙ c.requires.image.bytes) in
    let (lines, more, fed) = c.in-Ok.ensures.fed config.ways (no_lines config.sets)
    (subst IsCore (sym core_is) (IsCore-core_at_start image.entry config.base config.size image.heap
    c.requires.config.memory c.requires.image.entry_aligned))
    (subst (λ (n : ℕ). StandsAs n config.ways c.args.cache (over_image image (no_lines config.sets)))
    (ap (λ (config : Config). config.shape.lines) (sym c.requires.port))
    (subst (λ (cache : Contents). StandsAs config.shape.lines config.ways cache
    (over_image image (no_lines config.sets))) (sym c.requires.empty) stands)) in
    let events = (g.W.Watch.state c.drive.new.bus.tap.now).log.events in
    let none = none_answered (g.W.Watch.state c.args.bus.now.tap.now).log.events c.requires.unanswered in
    let all : answered_lines events ≡ lines = more ∙ ap (λ (l : List NotedLine). l ++ lines) none in
    subst (IsFed config image c.args.files.input c.reported.result) (sym all)
    (report_fed config image c.args.files.input c.reported.result lines c.in-Ok.course.instructions
    c.in-Ok.course.ending last c.reported.ensures.instructions c.reported.ensures.ending c.reported.ensures.output
    (subst (λ (m : Machine). IsFedRun config.ways c.in-Ok.course.instructions m
    (feed_at_start config.ways config.sets image.bytes.items image.marked.items lines) c.in-Ok.course.ending last)
    machine_is fed))

pub returns-in-Ok-clause-plays : goal.returns-in-Ok-clause-plays
returns-in-Ok-clause-plays g c lawful calls =
    let keys = keys_by g.M.UntrustedMemory.state g.W.Watch.state g.L.LeafFn.leaf_of g.L.LeafFn.levels c.args.oram in
    let config = c.args.config.now in
    let levels = g.L.LeafFn.levels c.args.oram.port.leaves in
    let over = oram_over g.M.UntrustedMemory.state g.W.Watch.state c.args.oram c.args.bus.now.memory.now
    c.args.bus.now.tap.now in
    let whole = play_with config c.args.image.now c.args.files.input in
    let core_is = c.new-core.ensures in
    let machine_is : machine_of c.new-core.result c.args.files ≡ start_of config c.args.image.now c.args.files.input =
    λ i. record { core = core_is i; files = c.requires.unread i } in
    let counted = returns-in-Ok-clause-reported g c in
    elim (c.in-Ok.ensures.plays config whole lawful calls c.requires.config
    (subst IsCore (sym core_is) (IsCore-core_at_start c.args.image.now.entry config.base config.size
    c.args.image.now.heap c.requires.config.memory c.requires.image.entry_aligned)) refl c.requires.port
    (start_played keys config levels over c.args.image.now c.args.files.input
    (machine_of c.new-core.result c.args.files) c.args.cache c.requires.config c.requires.image
    (c.are_counted.ensures ∙ c.requires.image.bytes) c.requires.new c.requires.port calls machine_is
    c.requires.empty)) [
      | inl forged ↦ inl forged
      | inr shows ↦ inr (report_played config whole c.reported.result levels c.in-Ok.course.instructions
          c.in-Ok.course.cycles c.in-Ok.course.fetches c.in-Ok.course.last c.in-Ok.course.ending
          (g.W.Watch.state c.drive.new.bus.tap.now).log
          (c.requires.serving.serves.rests.is_for.levels_are ∙ ap (λ (c : Config). c.shape.levels) c.requires.port)
          c.reported.ensures.instructions c.reported.ensures.cycles c.reported.ensures.fetches c.reported.ensures.last
          c.reported.ensures.ending counted.real counted.dummies counted.choices counted.code shows)
    ]

pub returns-in-Ok-clause-replays : goal.returns-in-Ok-clause-replays
returns-in-Ok-clause-replays g c calls =
    let keys = keys_by g.M.UntrustedMemory.state g.W.Watch.state g.L.LeafFn.leaf_of g.L.LeafFn.levels c.args.oram in
    let tap = g.W.Watch.state c.drive.new.bus.tap.now in
    let stash = c.requires.serving.serves.rests.is_for.stash ∙ ap (λ (c : Config). c.stash) c.requires.port in
    subst (λ k. EndsReplayed keys k c.reported.result.ending tap) stash
    (subst (λ (e : Ending). EndsReplayed keys c.args.oram.port.tree.stash e tap) (sym c.reported.ensures.ending)
    (c.in-Ok.ensures.replays calls (calls.start c.args.config.now _ c.requires.config c.requires.new)))

pub returns-in-Err-clause-replays_err : goal.returns-in-Err-clause-replays_err
returns-in-Err-clause-replays_err g c calls =
    let keys = keys_by g.M.UntrustedMemory.state g.W.Watch.state g.L.LeafFn.leaf_of g.L.LeafFn.levels c.args.oram in
    let stash = c.requires.serving.serves.rests.is_for.stash ∙ ap (λ (c : Config). c.stash) c.requires.port in
    subst (λ k. WantsReplayed keys k (g.W.Watch.state c.drive.new.bus.tap.now)) stash
    (c.in-Err.ensures.replays calls (calls.start c.args.config.now _ c.requires.config c.requires.new))

pub returns-in-Ok-clause-spent : goal.returns-in-Ok-clause-spent
returns-in-Ok-clause-spent g c =
    let keys = keys_by g.M.UntrustedMemory.state g.W.Watch.state g.L.LeafFn.leaf_of g.L.LeafFn.levels c.args.oram in
    let config = c.args.config.now in
    let image = c.args.image.now in
    let levels = g.L.LeafFn.levels c.args.oram.port.leaves in
    let core_is = c.new-core.ensures in
    let machine_is : machine_of c.new-core.result c.args.files ≡ start_of config image c.args.files.input =
    λ i. record { core = core_is i; files = c.requires.unread i } in
    let stands = start_stands config image c.requires.config (c.are_counted.ensures ∙ c.requires.image.bytes) in
    let log = (g.W.Watch.state c.drive.new.bus.tap.now).log in
    let (lines, more, spent) = c.in-Ok.ensures.spends config.ways (no_lines config.sets)
    (subst IsCore (sym core_is) (IsCore-core_at_start image.entry config.base config.size image.heap
    c.requires.config.memory c.requires.image.entry_aligned))
    (subst (λ (n : ℕ). StandsAs n config.ways c.args.cache (over_image image (no_lines config.sets)))
    (ap (λ (config : Config). config.shape.lines) (sym c.requires.port))
    (subst (λ (cache : Contents). StandsAs config.shape.lines config.ways cache
    (over_image image (no_lines config.sets))) (sym c.requires.empty) stands))
    (start-spent keys levels config _ c.requires.new refl) in
    let none = none_answered (g.W.Watch.state c.args.bus.now.tap.now).log.events c.requires.unanswered in
    let all : answered_lines log.events ≡ lines = more ∙ ap (λ (l : List NotedLine). l ++ lines) none in
    report_spent config image c.args.files.input c.reported.result log levels c.in-Ok.course.instructions
    c.in-Ok.course.cycles c.in-Ok.course.ending
    (c.requires.serving.serves.rests.is_for.levels_are ∙ ap (λ (c : Config). c.shape.levels) c.requires.port)
    c.reported.ensures.instructions c.reported.ensures.cycles c.reported.ensures.ending
    (subst (λ (l : List NotedLine). EndsSpent config levels (length image.marked.items
    + fed_cost config.ways c.in-Ok.course.instructions (start_of config image c.args.files.input)
    (feed_at_start config.ways config.sets image.bytes.items image.marked.items l) + waits levels log)
    c.in-Ok.course.instructions c.in-Ok.course.cycles c.in-Ok.course.ending) (sym all)
    (subst (λ (m : Machine). EndsSpent config levels (length image.marked.items
    + fed_cost config.ways c.in-Ok.course.instructions m
    (feed_at_start config.ways config.sets image.bytes.items image.marked.items lines) + waits levels log)
    c.in-Ok.course.instructions c.in-Ok.course.cycles c.in-Ok.course.ending) machine_is
    (subst (λ (k : Config). EndsSpent k levels (length image.marked.items
    + fed_cost config.ways c.in-Ok.course.instructions (machine_of c.new-core.result c.args.files)
    (feed_at_start config.ways config.sets image.bytes.items image.marked.items lines) + waits levels log)
    c.in-Ok.course.instructions c.in-Ok.course.cycles c.in-Ok.course.ending) c.requires.port spent)))

pub returns-in-Ok-clause-home : goal.returns-in-Ok-clause-home
returns-in-Ok-clause-home g c lawful calls replays =
    let keys = keys_by g.M.UntrustedMemory.state g.W.Watch.state g.L.LeafFn.leaf_of g.L.LeafFn.levels c.args.oram in
    let config = c.args.config.now in
    let levels = g.L.LeafFn.levels c.args.oram.port.leaves in
    let over = oram_over g.M.UntrustedMemory.state g.W.Watch.state c.args.oram c.args.bus.now.memory.now
    c.args.bus.now.tap.now in
    let whole = play_with config c.args.image.now c.args.files.input in
    let core_is = c.new-core.ensures in
    let machine_is : machine_of c.new-core.result c.args.files ≡ start_of config c.args.image.now c.args.files.input =
    λ i. record { core = core_is i; files = c.requires.unread i } in
    let log = (g.W.Watch.state c.drive.new.bus.tap.now).log in
    let course = c.in-Ok.course in
    let report = c.reported.result in
    subst (λ (n : ℕ). EndsAtHome keys config whole n report.cycles report.ending log)
    (sym c.reported.ensures.instructions)
    (subst (λ (n : ℕ). EndsAtHome keys config whole course.instructions n report.ending log)
    (sym c.reported.ensures.cycles)
    (subst (λ (e : Ending). EndsAtHome keys config whole course.instructions course.cycles e log)
    (sym c.reported.ensures.ending)
    (c.in-Ok.ensures.home config whole lawful calls c.requires.config
    (subst IsCore (sym core_is) (IsCore-core_at_start c.args.image.now.entry config.base config.size
    c.args.image.now.heap c.requires.config.memory c.requires.image.entry_aligned)) refl
    (start_played keys config levels over c.args.image.now c.args.files.input
    (machine_of c.new-core.result c.args.files) c.args.cache c.requires.config c.requires.image
    (c.are_counted.ensures ∙ c.requires.image.bytes) c.requires.new c.requires.port calls machine_is
    c.requires.empty) replays (replays.start config _ c.requires.config c.requires.new))))
