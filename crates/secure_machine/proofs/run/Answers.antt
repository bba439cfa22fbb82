use Rattle.std.proofs.Common.{◌≡◌, ◌<◌, ◌+◌, ◌^◌, ◌∙◌, ℕ, List, [], refl, sym, ap, subst, inl, inr, arith, length}
use Rattle.std.proofs.Common.{IfOk, OnErr}
use Rattle.std.proofs.lemmas.Result.{IfOk-weaker}
use Rattle.std.proofs.Math.Pow.{pow_mono}
use Rattle.std.specs.List.{count_by}
use Rattle.asc_base.proofs.ShapeFacts.{shape_layered}
use Rattle.asc_outside.specs.Memory.{zero_buckets}
use Rattle.bus_schedule.specs.Scheduled.{log_code}
use Rattle.bus_schedule.specs.Shown.{indices_of}
use Rattle.bus_schedule.specs.Timetable.{public_of}
use Rattle.bus_watch.specs.Log.{LogLists, TapState}
use Rattle.epoch_learner.specs.Stands.{KeepsPace}
use Rattle.rate_enforcer.specs.Counts.{is_dummy, is_real, is_answered}
use Rattle.secure_machine.specs.Finish.{IsRightEnding}
use Rattle.oram_contents.specs.Entries.{Keys, AreKeys}
use Rattle.oram_contents.specs.Forgery.{Forgery}
use Rattle.oram_lines.proofs.HonestTriples.{unforged}
use Rattle.rv32_core.specs.FlatRun.{output_limit}
use Rattle.rv32_core.specs.Machine.{FilesState}
use Rattle.secure_machine.specs.Run.{Reported, Wanting, IsFlatReport, IsUnprepared, chip_keys, IsInBudget}
use Rattle.secure_machine.specs.Run.{DrawsLeaves}
use Rattle.secure_machine.specs.declared.report.Ending.TheVariants.{Device, Integrity}
use Rattle.secure_machine.specs.declared.report.Report.{Report}
use Rattle.secure_machine.proofs.Starts.{on_err_with, on_err_so, on_both, ok_both, start_pace, pace_bits, zero_tied}
use Rattle.secure_machine.proofs.Starts.{refused_rose, refused_tap, prepared_room, prepared_tells, all_asked, log_empty}
use Rattle.secure_machine.proofs.Starts.{prepared_may}
use Rattle.secure_machine.proofs.Starts.{chip_lawful, pace_budget, start_budget, start_ends, start_leaves}
use Rattle.secure_machine.proofs.Starts.{empty_code, start_once}
use Rattle.secure_machine.proofs.ReportLaws.{unprepared_flat}
use Rattle.secure_machine.specs.LastMove.{EndsWithMove}
use Rattle.secure_machine.proofs.LastMoves.{ends_with_move}
use Rattle.secure_machine.specs.Answered.{answered_lines}
use Rattle.secure_machine.specs.Fed.{IsFed}
use Rattle.secure_machine.proofs.FedReports.{unprepared_fed}
use Rattle.asc_base.specs.declared.settings.Config.{Config}
use Rattle.play_run.specs.Given.{CallsPlay}
use Rattle.rate_enforcer.specs.Served.{keys_of}
use Rattle.play_run.specs.Shows.{IsPlayed}
use Rattle.secure_machine.specs.Plays.{play_report, play_with}
use Rattle.secure_machine.proofs.PlayedLaws.{unprepared_played}
use Rattle.play_run.proofs.Calls.{calls-play}
use Rattle.log_replay.specs.Given.{CallsReplay}
use Rattle.log_replay.specs.Order.{LogOrder}
use Rattle.secure_machine.specs.Judged.{ShowsEnding, EndsReplayed, WantsReplayed}
use Rattle.secure_machine.specs.declared.report.Ending.{Ending}
use Rattle.secure_machine.proofs.Replaying.{start_order, start_done, start_right}
use Rattle.secure_machine.proofs.Full.{completes}
use Rattle.secure_machine.specs.Home.{EndsAtHome, EndsBehind}
use Rattle.secure_machine.proofs.run.Given as given
use Rattle.secure_machine.specs.Spent.{IsSpentOn}
use Rattle.secure_machine.proofs.SpentReports.{unprepared_spent}
use Rattle.secure_machine.proofs.run.Goals as goal

pub returns-in_err-files-clause-pace_err : goal.returns-in_err-files-clause-pace_err
returns-in_err-files-clause-pace_err g c =
    on_err_with c.from_residual.result (
      0,
      start_pace c.args.config.now (g.W.Watch.state c.args.bus.now.tap.now).log
          c.requires.config c.requires.no_events c.requires.no_moves,
    )

pub returns-in_err-files-clause-bits : goal.returns-in_err-files-clause-bits
returns-in_err-files-clause-bits g c =
    let log = (g.W.Watch.state c.args.bus.now.tap.now).log in
    pace_bits c.args.config.now 0 log c.requires.config
    (start_pace c.args.config.now log c.requires.config c.requires.no_events c.requires.no_moves)

pub returns-in_err-cache-clause-pace_err : goal.returns-in_err-cache-clause-pace_err
returns-in_err-cache-clause-pace_err g c =
    on_err_with c.from_residual-in_err-cache.result (
      0,
      start_pace c.args.config.now (g.W.Watch.state c.args.bus.now.tap.now).log
          c.requires.config c.requires.no_events c.requires.no_moves,
    )

pub returns-in_err-cache-clause-bits : goal.returns-in_err-cache-clause-bits
returns-in_err-cache-clause-bits g c =
    let log = (g.W.Watch.state c.args.bus.now.tap.now).log in
    pace_bits c.args.config.now 0 log c.requires.config
    (start_pace c.args.config.now log c.requires.config c.requires.no_events c.requires.no_moves)

pub returns-in_err-oram-clause-pace_err : goal.returns-in_err-oram-clause-pace_err
returns-in_err-oram-clause-pace_err g c =
    on_err_with c.from_residual-in_err-oram.result (
      0,
      start_pace c.args.config.now (g.W.Watch.state c.args.bus.now.tap.now).log
          c.requires.config c.requires.no_events c.requires.no_moves,
    )

pub returns-in_err-oram-clause-bits : goal.returns-in_err-oram-clause-bits
returns-in_err-oram-clause-bits g c =
    let log = (g.W.Watch.state c.args.bus.now.tap.now).log in
    pace_bits c.args.config.now 0 log c.requires.config
    (start_pace c.args.config.now log c.requires.config c.requires.no_events c.requires.no_moves)

pub prepare-requires-clause-some : goal.prepare-requires-clause-some
prepare-requires-clause-some g c =
    let shape = c.args.config.now.shape in
    omega (
      arith,
      (shape_layered shape c.requires.config.is_shape).buckets,
      pow_mono {i = 1} {j = shape.levels + 1} (omega arith),
    )

pub prepare-requires-clause-levels : goal.prepare-requires-clause-levels
prepare-requires-clause-levels g c =
    omega (arith, (shape_layered c.args.config.now.shape c.requires.config.is_shape).levels_to)

pub run_prepared-requires-clause-serving : goal.run_prepared-requires-clause-serving
run_prepared-requires-clause-serving g c =
    let p = c.in-Ok.ensures.prepared in
    let m = g.M.UntrustedMemory.state c.prepare.new.self.memory.now in
    let t = g.W.Watch.state c.prepare.new.self.tap.now in
    c.in_ok-oram.ensures.serving c.most_slots.result m t (ap (λ (x : LogLists). x.events) p.log ∙ c.requires.no_events)
    (ap (λ (x : LogLists). x.moves) p.log ∙ c.requires.no_moves) c.most_slots.ensures.enough
    (prepared_room c.args.config.now c.most_slots.result (g.M.UntrustedMemory.state c.args.bus.now.memory.now) m
    (g.W.Watch.state c.args.bus.now.tap.now) t c.requires.config c.most_slots.ensures.few c.requires.moved p)

pub run_prepared-requires-clause-counted : goal.run_prepared-requires-clause-counted
run_prepared-requires-clause-counted g c =
    c.in_ok-oram.ensures.counts (g.W.Watch.state c.prepare.new.self.tap.now).log
    (ap (λ (x : LogLists). x.events) c.in-Ok.ensures.prepared.log ∙ c.requires.no_events)

pub returns-in-Ok-clause-pace_err : goal.returns-in-Ok-clause-pace_err
returns-in-Ok-clause-pace_err g c =
    on_err_so _ _ c.run_prepared.result c.run_prepared.ensures.wanting (λ w. (w.end, w.pace))

pub run_prepared-requires-clause-unread : goal.run_prepared-requires-clause-unread
run_prepared-requires-clause-unread g c =
    let is = c.in_ok-files.ensures in
    is ∙ ap (λ (input : List ℕ). let f : FilesState = record {
      input = input;
      position = 0;
      output = [];
      limit = output_limit;
    } in f) (sym (ap (λ (f : FilesState). f.input) is))

pub run_prepared-requires-clause-new : goal.run_prepared-requires-clause-new
run_prepared-requires-clause-new g c =
    let p = c.in-Ok.ensures.prepared in
    let m = g.M.UntrustedMemory.state c.prepare.new.self.memory.now in
    let t = g.W.Watch.state c.prepare.new.self.tap.now in
    let events = ap (λ (x : LogLists). x.events) p.log ∙ c.requires.no_events in
    let moves = ap (λ (x : LogLists). x.moves) p.log ∙ c.requires.no_moves in
    let serving = c.in_ok-oram.ensures.serving c.most_slots.result m t events moves c.most_slots.ensures.enough
    (prepared_room c.args.config.now c.most_slots.result (g.M.UntrustedMemory.state c.args.bus.now.memory.now) m
    (g.W.Watch.state c.args.bus.now.tap.now) t c.requires.config c.most_slots.ensures.few c.requires.moved p) in
    c.in_ok-oram.ensures.new m t
    (log_empty t.log events moves (ap (λ (x : LogLists). x.altered) p.log ∙ c.requires.no_altered))
    p.by_answer.mirror serving.serves.rests

pub returns-in-Ok-clause-refines : goal.returns-in-Ok-clause-refines
returns-in-Ok-clause-refines g c =
    let config = c.args.config.now in
    let keys = chip_keys config c.args.codec c.args.tagger (g.L.LeafFn.leaf_of c.args.leaf) in
    let log = (g.W.Watch.state c.run_prepared.new.bus.tap.now).log in
    let lawful : AreKeys keys = chip_lawful g.L.LeafFn.leaf_of g.L.LeafFn.levels config c.args.codec c.args.tagger
    c.args.leaf c.requires.config c.requires.levels c.gives_leaves.ensures in
    let same = c.in_ok-oram.ensures.keys in
    let input : c.in_ok-files.files.input ≡ c.args.input.now = ap (λ (f : FilesState). f.input) c.in_ok-files.ensures in
    IfOk-weaker c.run_prepared.result _ _ (λ report known. elim known [
      | inl forged ↦ inl (subst (λ (z : Keys). Forgery z log) same forged)
      | inr flat ↦ inr (subst (λ (l : List ℕ). IsFlatReport config c.args.image.now l report) input flat)
    ]) (c.run_prepared.ensures.refines (subst AreKeys (sym same) lawful))

pub returns-in-Ok-clause-points : goal.returns-in-Ok-clause-points
returns-in-Ok-clause-points g c =
    let config = c.args.config.now in
    let keys = chip_keys config c.args.codec c.args.tagger (g.L.LeafFn.leaf_of c.args.leaf) in
    let log = (g.W.Watch.state c.run_prepared.new.bus.tap.now).log in
    let lawful : AreKeys keys = chip_lawful g.L.LeafFn.leaf_of g.L.LeafFn.levels config c.args.codec c.args.tagger
    c.args.leaf c.requires.config c.requires.levels c.gives_leaves.ensures in
    let same = c.in_ok-oram.ensures.keys in
    elim (c.run_prepared.ensures.points (subst AreKeys (sym same) lawful)) [
      | inl forged ↦ inl (subst (λ (z : Keys). Forgery z log) same forged)
      | inr once ↦ inr once
    ]

pub returns-in_err-files-clause-points : goal.returns-in_err-files-clause-points
returns-in_err-files-clause-points g c =
    inr (start_once (g.W.Watch.state c.args.bus.now.tap.now).log c.requires.no_events)

pub returns-in_err-cache-clause-points : goal.returns-in_err-cache-clause-points
returns-in_err-cache-clause-points g c =
    inr (start_once (g.W.Watch.state c.args.bus.now.tap.now).log c.requires.no_events)

pub returns-in_err-oram-clause-points : goal.returns-in_err-oram-clause-points
returns-in_err-oram-clause-points g c =
    inr (start_once (g.W.Watch.state c.args.bus.now.tap.now).log c.requires.no_events)

pub returns-in-Err-Device-clause-points : goal.returns-in-Err-Device-clause-points
returns-in-Err-Device-clause-points g c =
    inr (start_once (g.W.Watch.state c.prepare.new.self.tap.now).log
    (ap (λ (x : LogLists). x.events) c.in-Err-Device.ensures.prepared.log ∙ c.requires.no_events))

pub returns-in-Err-NoMemory-clause-points : goal.returns-in-Err-NoMemory-clause-points
returns-in-Err-NoMemory-clause-points g c =
    inr (start_once (g.W.Watch.state c.prepare.new.self.tap.now).log
    (ap (λ (x : LogLists). x.events) c.in-Err-NoMemory.ensures.prepared.log ∙ c.requires.no_events))

pub returns-in_err-files-clause-asked : goal.returns-in_err-files-clause-asked
returns-in_err-files-clause-asked g c =
    let none : length (g.W.Watch.state c.args.bus.now.tap.now).log.moves ≡ 0 = ap length c.requires.no_moves in
    omega (arith, none)

pub returns-in_err-cache-clause-asked : goal.returns-in_err-cache-clause-asked
returns-in_err-cache-clause-asked g c =
    let none : length (g.W.Watch.state c.args.bus.now.tap.now).log.moves ≡ 0 = ap length c.requires.no_moves in
    omega (arith, none)

pub returns-in_err-oram-clause-asked : goal.returns-in_err-oram-clause-asked
returns-in_err-oram-clause-asked g c =
    let none : length (g.W.Watch.state c.args.bus.now.tap.now).log.moves ≡ 0 = ap length c.requires.no_moves in
    omega (arith, none)

pub returns-in-Err-Device-clause-asked : goal.returns-in-Err-Device-clause-asked
returns-in-Err-Device-clause-asked g c =
    let none : length (g.W.Watch.state c.prepare.new.self.tap.now).log.moves ≡ 0 =
    ap (λ (l : LogLists). length l.moves) c.in-Err-Device.ensures.prepared.log ∙ ap length c.requires.no_moves in
    omega (arith, none, c.in-Err-Device.ensures.prepared.moved)

pub returns-in-Err-NoMemory-clause-asked : goal.returns-in-Err-NoMemory-clause-asked
returns-in-Err-NoMemory-clause-asked g c =
    let none : length (g.W.Watch.state c.prepare.new.self.tap.now).log.moves ≡ 0 =
    ap (λ (l : LogLists). length l.moves) c.in-Err-NoMemory.ensures.prepared.log ∙ ap length c.requires.no_moves in
    omega (arith, none, c.in-Err-NoMemory.ensures.prepared.moved)

pub returns-in-Ok-clause-asked : goal.returns-in-Ok-clause-asked
returns-in-Ok-clause-asked g c =
    let config = c.args.config.now in
    let m0 = g.M.UntrustedMemory.state c.args.bus.now.memory.now in
    let t0 = g.W.Watch.state c.args.bus.now.tap.now in
    let m = g.M.UntrustedMemory.state c.prepare.new.self.memory.now in
    let t = g.W.Watch.state c.prepare.new.self.tap.now in
    let m2 = g.M.UntrustedMemory.state c.run_prepared.new.bus.memory.now in
    let t2 = g.W.Watch.state c.run_prepared.new.bus.tap.now in
    let p = c.in-Ok.ensures.prepared in
    on_both (λ (report : Report). Reported config report m m2 t t2) (Wanting config m m2 t t2)
    (m2.moved ≡ m0.moved + length t2.log.moves) c.run_prepared.result c.run_prepared.ensures.reported
    c.run_prepared.ensures.wanting
    (λ report r. all_asked m0 m m2 t0 t t2 c.requires.no_moves p.moved p.log r.asked)
    (λ w. all_asked m0 m m2 t0 t t2 c.requires.no_moves p.moved p.log w.asked)

pub returns-in-Ok-clause-unaltered : goal.returns-in-Ok-clause-unaltered
returns-in-Ok-clause-unaltered g c some =
    let config = c.args.config.now in
    let m = g.M.UntrustedMemory.state c.prepare.new.self.memory.now in
    let t = g.W.Watch.state c.prepare.new.self.tap.now in
    let m2 = g.M.UntrustedMemory.state c.run_prepared.new.bus.memory.now in
    let t2 = g.W.Watch.state c.run_prepared.new.bus.tap.now in
    let tells = prepared_tells config.shape.buckets config.shape.levels c.most_slots.result
    (g.M.UntrustedMemory.state c.args.bus.now.memory.now) m (g.W.Watch.state c.args.bus.now.tap.now) t some
    c.in-Ok.ensures.prepared in
    let before : t.log.altered ≡ [] = ap (λ (x : LogLists). x.altered) c.in-Ok.ensures.prepared.log
    ∙ c.requires.no_altered in
    on_both (λ (report : Report). Reported config report m m2 t t2) (Wanting config m m2 t t2)
    (t2.log.altered ≡ []) c.run_prepared.result c.run_prepared.ensures.reported c.run_prepared.ensures.wanting
    (λ report r. r.unaltered tells ∙ before) (λ w. w.unaltered tells ∙ before)

pub returns-in-Ok-clause-told : goal.returns-in-Ok-clause-told
returns-in-Ok-clause-told g c =
    let shape = c.args.config.now.shape in
    let may = prepared_may shape.buckets shape.levels c.most_slots.result
    (g.M.UntrustedMemory.state c.args.bus.now.memory.now) (g.M.UntrustedMemory.state c.prepare.new.self.memory.now)
    (g.W.Watch.state c.args.bus.now.tap.now) (g.W.Watch.state c.prepare.new.self.tap.now) c.in-Ok.ensures.prepared in
    IfOk-weaker c.run_prepared.result _ _ (λ report r. inl (r.told may)) c.run_prepared.ensures.reported

pub returns-in-Err-Device-clause-told : goal.returns-in-Err-Device-clause-told
returns-in-Err-Device-clause-told g c =
    let old = g.W.Watch.state c.args.bus.now.tap.now in
    inr (subst (λ (t : TapState). IsUnprepared c.unprepared.result old t)
    (sym (refused_tap c.in-Err-Device.field-0 c.args.config.now.shape.buckets c.args.config.now.shape.levels
    c.most_slots.result (g.M.UntrustedMemory.state c.args.bus.now.memory.now)
    (g.M.UntrustedMemory.state c.prepare.new.self.memory.now) old (g.W.Watch.state c.prepare.new.self.tap.now)
    c.in-Err-Device.ensures.prepared)) (c.unprepared.ensures old))

pub returns-in-Ok-clause-count : goal.returns-in-Ok-clause-count
returns-in-Ok-clause-count g c =
    IfOk-weaker c.run_prepared.result _ _ (λ report r. r.prepared ∙ c.in-Ok.ensures.prepared.count)
    c.run_prepared.ensures.reported

pub returns-in-Ok-clause-count_err : goal.returns-in-Ok-clause-count_err
returns-in-Ok-clause-count_err g c =
    on_err_so _ _ c.run_prepared.result c.run_prepared.ensures.wanting
    (λ w. inr (w.prepared ∙ c.in-Ok.ensures.prepared.count))

pub returns-in-Ok-clause-flat_unaltered : goal.returns-in-Ok-clause-flat_unaltered
returns-in-Ok-clause-flat_unaltered g c none =
    let config = c.args.config.now in
    let keys = chip_keys config c.args.codec c.args.tagger (g.L.LeafFn.leaf_of c.args.leaf) in
    let log = (g.W.Watch.state c.run_prepared.new.bus.tap.now).log in
    IfOk-weaker c.run_prepared.result _ _ (λ report known. elim known [
      | inl forged ↦ absurd (unforged keys log forged none)
      | inr flat ↦ flat
    ]) (returns-in-Ok-clause-refines g c)

pub returns-in-Ok-clause-flat : goal.returns-in-Ok-clause-flat
returns-in-Ok-clause-flat g c some = returns-in-Ok-clause-flat_unaltered g c (returns-in-Ok-clause-unaltered g c some)

pub returns-in-Err-Device-clause-flat_unaltered : goal.returns-in-Err-Device-clause-flat_unaltered
returns-in-Err-Device-clause-flat_unaltered g c none =
    let tap = g.W.Watch.state c.args.bus.now.tap.now in
    unprepared_flat c.args.config.now c.args.image.now c.args.input.now c.unprepared.result tap tap
    (c.unprepared.ensures tap)

pub returns-in-Err-Device-clause-flat : goal.returns-in-Err-Device-clause-flat
returns-in-Err-Device-clause-flat g c some =
    let tap = g.W.Watch.state c.args.bus.now.tap.now in
    unprepared_flat c.args.config.now c.args.image.now c.args.input.now c.unprepared.result tap tap
    (c.unprepared.ensures tap)

pub returns-in-Err-Device-clause-unaltered : goal.returns-in-Err-Device-clause-unaltered
returns-in-Err-Device-clause-unaltered g c some =
    ap (λ (x : LogLists). x.altered) c.in-Err-Device.ensures.prepared.log ∙ c.requires.no_altered

pub returns-in-Err-NoMemory-clause-unaltered : goal.returns-in-Err-NoMemory-clause-unaltered
returns-in-Err-NoMemory-clause-unaltered g c some =
    ap (λ (x : LogLists). x.altered) c.in-Err-NoMemory.ensures.prepared.log ∙ c.requires.no_altered

pub returns-in-Err-Device-clause-refines : goal.returns-in-Err-Device-clause-refines
returns-in-Err-Device-clause-refines g c =
    let tap = g.W.Watch.state c.args.bus.now.tap.now in
    inr (unprepared_flat c.args.config.now c.args.image.now c.args.input.now c.unprepared.result tap tap
    (c.unprepared.ensures tap))

pub returns-in-Ok-clause-bits : goal.returns-in-Ok-clause-bits
returns-in-Ok-clause-bits g c =
    let config = c.args.config.now in
    let log = (g.W.Watch.state c.run_prepared.new.bus.tap.now).log in
    let m = g.M.UntrustedMemory.state c.prepare.new.self.memory.now in
    let t = g.W.Watch.state c.prepare.new.self.tap.now in
    let m2 = g.M.UntrustedMemory.state c.run_prepared.new.bus.memory.now in
    let t2 = g.W.Watch.state c.run_prepared.new.bus.tap.now in
    on_both (λ (report : Report). Reported config report m m2 t t2) (Wanting config m m2 t t2)
    (log_code (public_of config) log < 2 ^ config.leak) c.run_prepared.result c.run_prepared.ensures.reported
    c.run_prepared.ensures.wanting (λ report r. pace_bits config report.last log c.requires.config r.pace)
    (λ w. pace_bits config w.end log c.requires.config w.pace)

pub returns-in-Ok-clause-tied : goal.returns-in-Ok-clause-tied
returns-in-Ok-clause-tied g c =
    let shape = c.args.config.now.shape in
    let m = g.M.UntrustedMemory.state c.args.bus.now.memory.now in
    let m2 = g.M.UntrustedMemory.state c.prepare.new.self.memory.now in
    let t = g.W.Watch.state c.args.bus.now.tap.now in
    let t2 = g.W.Watch.state c.prepare.new.self.tap.now in
    IfOk-weaker _ _ _ (λ report r. inl (r.tied m (zero_buckets shape.buckets)
    (zero_tied shape.buckets shape.levels c.most_slots.result m m2 t t2 c.requires.no_moves c.requires.no_altered
    c.in-Ok.ensures.prepared))) c.run_prepared.ensures.reported

pub returns-in-Ok-clause-tied_err : goal.returns-in-Ok-clause-tied_err
returns-in-Ok-clause-tied_err g c =
    let shape = c.args.config.now.shape in
    let m = g.M.UntrustedMemory.state c.args.bus.now.memory.now in
    let m2 = g.M.UntrustedMemory.state c.prepare.new.self.memory.now in
    let t = g.W.Watch.state c.args.bus.now.tap.now in
    let t2 = g.W.Watch.state c.prepare.new.self.tap.now in
    on_err_so _ _ c.run_prepared.result c.run_prepared.ensures.wanting
    (λ w. inl (w.tied m (zero_buckets shape.buckets)
    (zero_tied shape.buckets shape.levels c.most_slots.result m m2 t t2 c.requires.no_moves c.requires.no_altered
    c.in-Ok.ensures.prepared)))

pub returns-in-Err-Device-clause-pace : goal.returns-in-Err-Device-clause-pace
returns-in-Err-Device-clause-pace g c =
    let config = c.args.config.now in
    let old = g.W.Watch.state c.args.bus.now.tap.now in
    let new = g.W.Watch.state c.prepare.new.self.tap.now in
    subst (λ (log : LogLists). KeepsPace config c.unprepared.result.last log) (sym c.in-Err-Device.ensures.prepared.log)
    (subst (λ n. KeepsPace config n old.log) (sym (c.unprepared.ensures old).last)
    (start_pace config old.log c.requires.config c.requires.no_events c.requires.no_moves))

pub returns-in-Err-Device-clause-bits : goal.returns-in-Err-Device-clause-bits
returns-in-Err-Device-clause-bits g c =
    let config = c.args.config.now in
    let old = (g.W.Watch.state c.args.bus.now.tap.now).log in
    subst (λ (log : LogLists). log_code (public_of config) log < 2 ^ config.leak)
    (sym c.in-Err-Device.ensures.prepared.log) (pace_bits config 0 old c.requires.config
    (start_pace config old c.requires.config c.requires.no_events c.requires.no_moves))

pub returns-in-Err-Device-clause-real : goal.returns-in-Err-Device-clause-real
returns-in-Err-Device-clause-real g c =
    (c.unprepared.ensures (g.W.Watch.state c.args.bus.now.tap.now)).real
    ∙ sym (ap (λ (log : LogLists). count_by is_real log.events) c.in-Err-Device.ensures.prepared.log
    ∙ ap (count_by is_real) c.requires.no_events)

pub returns-in-Err-Device-clause-dummies : goal.returns-in-Err-Device-clause-dummies
returns-in-Err-Device-clause-dummies g c =
    (c.unprepared.ensures (g.W.Watch.state c.args.bus.now.tap.now)).dummies
    ∙ sym (ap (λ (log : LogLists). count_by is_dummy log.events) c.in-Err-Device.ensures.prepared.log
    ∙ ap (count_by is_dummy) c.requires.no_events)

pub returns-in-Err-Device-clause-tied : goal.returns-in-Err-Device-clause-tied
returns-in-Err-Device-clause-tied g c =
    let old = g.W.Watch.state c.args.bus.now.tap.now in
    inr (subst (λ (t : TapState). IsUnprepared c.unprepared.result old t)
    (sym (refused_tap c.in-Err-Device.field-0 c.args.config.now.shape.buckets c.args.config.now.shape.levels
    c.most_slots.result (g.M.UntrustedMemory.state c.args.bus.now.memory.now)
    (g.M.UntrustedMemory.state c.prepare.new.self.memory.now) old (g.W.Watch.state c.prepare.new.self.tap.now)
    c.in-Err-Device.ensures.prepared)) (c.unprepared.ensures old))

pub returns-in-Ok-clause-time_up : goal.returns-in-Ok-clause-time_up
returns-in-Ok-clause-time_up g c =
    IfOk-weaker c.run_prepared.result _ _ (λ report r. r.time_up) c.run_prepared.ensures.reported

pub returns-in-Err-Device-clause-time_up : goal.returns-in-Err-Device-clause-time_up
returns-in-Err-Device-clause-time_up g c = λ at is.
    let bad = sym (c.unprepared.ensures (g.W.Watch.state c.args.bus.now.tap.now)).ending ∙ is in absurd cc

pub returns-in-Err-Device-clause-right : goal.returns-in-Err-Device-clause-right
returns-in-Err-Device-clause-right g c =
    let old = g.W.Watch.state c.args.bus.now.tap.now in
    subst (IsRightEnding c.args.config.now.budget c.args.config.now.time c.unprepared.result.instructions
    c.unprepared.result.cycles c.unprepared.result.last)
    (sym (c.unprepared.ensures old).ending) (omega (arith, (c.unprepared.ensures old).instructions))

pub returns-in-Err-NoMemory-clause-pace_err : goal.returns-in-Err-NoMemory-clause-pace_err
returns-in-Err-NoMemory-clause-pace_err g c =
    let config = c.args.config.now in
    let old = (g.W.Watch.state c.args.bus.now.tap.now).log in (
      0,
      subst (KeepsPace config 0) (sym c.in-Err-NoMemory.ensures.prepared.log)
          (start_pace config old c.requires.config c.requires.no_events c.requires.no_moves),
    )

pub returns-in-Err-NoMemory-clause-bits : goal.returns-in-Err-NoMemory-clause-bits
returns-in-Err-NoMemory-clause-bits g c =
    let config = c.args.config.now in
    let old = (g.W.Watch.state c.args.bus.now.tap.now).log in
    subst (λ (log : LogLists). log_code (public_of config) log < 2 ^ config.leak)
    (sym c.in-Err-NoMemory.ensures.prepared.log) (pace_bits config 0 old c.requires.config
    (start_pace config old c.requires.config c.requires.no_events c.requires.no_moves))

pub returns-in_err-files-clause-budget : goal.returns-in_err-files-clause-budget
returns-in_err-files-clause-budget g c =
    start_budget c.args.config.now (g.W.Watch.state c.args.bus.now.tap.now).log c.requires.config c.requires.no_events
    c.requires.no_moves

pub returns-in_err-files-clause-end_err : goal.returns-in_err-files-clause-end_err
returns-in_err-files-clause-end_err g c =
    on_err_with c.from_residual.result (start_ends c.args.config.now (g.W.Watch.state c.args.bus.now.tap.now).log
    c.requires.config c.requires.no_events c.requires.no_moves)

pub returns-in_err-cache-clause-budget : goal.returns-in_err-cache-clause-budget
returns-in_err-cache-clause-budget g c =
    start_budget c.args.config.now (g.W.Watch.state c.args.bus.now.tap.now).log c.requires.config c.requires.no_events
    c.requires.no_moves

pub returns-in_err-cache-clause-end_err : goal.returns-in_err-cache-clause-end_err
returns-in_err-cache-clause-end_err g c =
    on_err_with c.from_residual-in_err-cache.result (start_ends c.args.config.now
    (g.W.Watch.state c.args.bus.now.tap.now).log c.requires.config c.requires.no_events c.requires.no_moves)

pub returns-in_err-oram-clause-budget : goal.returns-in_err-oram-clause-budget
returns-in_err-oram-clause-budget g c =
    start_budget c.args.config.now (g.W.Watch.state c.args.bus.now.tap.now).log c.requires.config c.requires.no_events
    c.requires.no_moves

pub returns-in_err-oram-clause-end_err : goal.returns-in_err-oram-clause-end_err
returns-in_err-oram-clause-end_err g c =
    on_err_with c.from_residual-in_err-oram.result (start_ends c.args.config.now
    (g.W.Watch.state c.args.bus.now.tap.now).log c.requires.config c.requires.no_events c.requires.no_moves)

pub returns-in-Ok-clause-budget : goal.returns-in-Ok-clause-budget
returns-in-Ok-clause-budget g c =
    let config = c.args.config.now in
    let log = (g.W.Watch.state c.run_prepared.new.bus.tap.now).log in
    let m = g.M.UntrustedMemory.state c.prepare.new.self.memory.now in
    let t = g.W.Watch.state c.prepare.new.self.tap.now in
    let m2 = g.M.UntrustedMemory.state c.run_prepared.new.bus.memory.now in
    let t2 = g.W.Watch.state c.run_prepared.new.bus.tap.now in
    on_both (λ (report : Report). Reported config report m m2 t t2) (Wanting config m m2 t t2)
    (IsInBudget config log) c.run_prepared.result c.run_prepared.ensures.reported c.run_prepared.ensures.wanting
    (λ report r. pace_budget config report.last log c.requires.config r.pace)
    (λ w. pace_budget config w.end log c.requires.config w.pace)

pub returns-in-Ok-clause-end_err : goal.returns-in-Ok-clause-end_err
returns-in-Ok-clause-end_err g c =
    let log = (g.W.Watch.state c.run_prepared.new.bus.tap.now).log in
    on_err_so _ _ c.run_prepared.result c.run_prepared.ensures.wanting
    (λ w. ends_with_move c.args.config.now w.end log w.pace.scheduled)

pub returns-in-Err-Device-clause-budget : goal.returns-in-Err-Device-clause-budget
returns-in-Err-Device-clause-budget g c =
    let old = (g.W.Watch.state c.args.bus.now.tap.now).log in
    subst (IsInBudget c.args.config.now) (sym c.in-Err-Device.ensures.prepared.log)
    (start_budget c.args.config.now old c.requires.config c.requires.no_events c.requires.no_moves)

pub returns-in-Err-Device-clause-choices : goal.returns-in-Err-Device-clause-choices
returns-in-Err-Device-clause-choices g c =
    (c.unprepared.ensures (g.W.Watch.state c.args.bus.now.tap.now)).choices
    ∙ sym (ap (λ (log : LogLists). length (indices_of log.events)) c.in-Err-Device.ensures.prepared.log
    ∙ ap (λ events. length (indices_of events)) c.requires.no_events)

pub returns-in-Err-Device-clause-code : goal.returns-in-Err-Device-clause-code
returns-in-Err-Device-clause-code g c =
    let p = public_of c.args.config.now in
    (c.unprepared.ensures (g.W.Watch.state c.args.bus.now.tap.now)).code
    ∙ sym (ap (log_code p) c.in-Err-Device.ensures.prepared.log
    ∙ empty_code p (g.W.Watch.state c.args.bus.now.tap.now).log c.requires.no_events)

pub returns-in-Err-Device-clause-fetches : goal.returns-in-Err-Device-clause-fetches
returns-in-Err-Device-clause-fetches g c =
    (c.unprepared.ensures (g.W.Watch.state c.args.bus.now.tap.now)).fetches
    ∙ sym (ap (λ (log : LogLists). count_by is_answered log.events) c.in-Err-Device.ensures.prepared.log
    ∙ ap (count_by is_answered) c.requires.no_events)

pub returns-in-Err-NoMemory-clause-budget : goal.returns-in-Err-NoMemory-clause-budget
returns-in-Err-NoMemory-clause-budget g c =
    let old = (g.W.Watch.state c.args.bus.now.tap.now).log in
    subst (IsInBudget c.args.config.now) (sym c.in-Err-NoMemory.ensures.prepared.log)
    (start_budget c.args.config.now old c.requires.config c.requires.no_events c.requires.no_moves)

pub returns-in-Err-NoMemory-clause-end_err : goal.returns-in-Err-NoMemory-clause-end_err
returns-in-Err-NoMemory-clause-end_err g c =
    let old = (g.W.Watch.state c.args.bus.now.tap.now).log in
    subst (EndsWithMove c.args.config.now) (sym c.in-Err-NoMemory.ensures.prepared.log)
    (start_ends c.args.config.now old c.requires.config c.requires.no_events c.requires.no_moves)

pub returns-in-Ok-clause-honest : goal.returns-in-Ok-clause-honest
returns-in-Ok-clause-honest g c =
    c.run_prepared.ensures.honest (subst AreKeys (sym c.in_ok-oram.ensures.keys)
    (chip_lawful g.L.LeafFn.leaf_of g.L.LeafFn.levels c.args.config.now c.args.codec c.args.tagger c.args.leaf
    c.requires.config c.requires.levels c.gives_leaves.ensures))

pub returns-in-Err-Device-clause-honest : goal.returns-in-Err-Device-clause-honest
returns-in-Err-Device-clause-honest g c none evidence is =
    let tap = g.W.Watch.state c.args.bus.now.tap.now in
    let bad : Device ≡ Integrity evidence = sym (c.unprepared.ensures tap).ending ∙ is in cc

pub returns-in_err-files-clause-leaves : goal.returns-in_err-files-clause-leaves
returns-in_err-files-clause-leaves g c =
    start_leaves c.args.config.now (g.W.Watch.state c.args.bus.now.tap.now).log c.requires.no_events

pub returns-in_err-cache-clause-leaves : goal.returns-in_err-cache-clause-leaves
returns-in_err-cache-clause-leaves g c =
    start_leaves c.args.config.now (g.W.Watch.state c.args.bus.now.tap.now).log c.requires.no_events

pub returns-in_err-oram-clause-leaves : goal.returns-in_err-oram-clause-leaves
returns-in_err-oram-clause-leaves g c =
    start_leaves c.args.config.now (g.W.Watch.state c.args.bus.now.tap.now).log c.requires.no_events

pub returns-in-Err-Device-clause-leaves : goal.returns-in-Err-Device-clause-leaves
returns-in-Err-Device-clause-leaves g c =
    start_leaves c.args.config.now (g.W.Watch.state c.prepare.new.self.tap.now).log
    (ap (λ (x : LogLists). x.events) c.in-Err-Device.ensures.prepared.log ∙ c.requires.no_events)

pub returns-in-Err-NoMemory-clause-leaves : goal.returns-in-Err-NoMemory-clause-leaves
returns-in-Err-NoMemory-clause-leaves g c =
    start_leaves c.args.config.now (g.W.Watch.state c.prepare.new.self.tap.now).log
    (ap (λ (x : LogLists). x.events) c.in-Err-NoMemory.ensures.prepared.log ∙ c.requires.no_events)

pub returns-in-Err-Device-clause-last : goal.returns-in-Err-Device-clause-last
returns-in-Err-Device-clause-last g c =
    omega (arith, (c.unprepared.ensures (g.W.Watch.state c.args.bus.now.tap.now)).last)

pub returns-in-Ok-clause-last : goal.returns-in-Ok-clause-last
returns-in-Ok-clause-last g c =
    IfOk-weaker c.run_prepared.result _ _ (λ report r. r.in_time) c.run_prepared.ensures.reported

pub returns-in-Ok-clause-leaves : goal.returns-in-Ok-clause-leaves
returns-in-Ok-clause-leaves g c =
    let config = c.args.config.now in
    let log = (g.W.Watch.state c.run_prepared.new.bus.tap.now).log in
    let m = g.M.UntrustedMemory.state c.prepare.new.self.memory.now in
    let t = g.W.Watch.state c.prepare.new.self.tap.now in
    let m2 = g.M.UntrustedMemory.state c.run_prepared.new.bus.memory.now in
    let t2 = g.W.Watch.state c.run_prepared.new.bus.tap.now in
    on_both (λ (report : Report). Reported config report m m2 t t2) (Wanting config m m2 t t2)
    (DrawsLeaves config log) c.run_prepared.result c.run_prepared.ensures.reported c.run_prepared.ensures.wanting
    (λ report r. r.leaves) (λ w. w.leaves)

pub returns-in-Ok-clause-fed : goal.returns-in-Ok-clause-fed
returns-in-Ok-clause-fed g c =
    let lines = answered_lines (g.W.Watch.state c.run_prepared.new.bus.tap.now).log.events in
    let input : c.in_ok-files.files.input ≡ c.args.input.now = ap (λ (f : FilesState). f.input) c.in_ok-files.ensures in
    IfOk-weaker c.run_prepared.result _ _ (λ report fed. subst (λ (l : List ℕ).
    IsFed c.args.config.now c.args.image.now l report lines) input fed) c.run_prepared.ensures.fed

pub returns-in-Err-Device-clause-fed : goal.returns-in-Err-Device-clause-fed
returns-in-Err-Device-clause-fed g c =
    let tap = g.W.Watch.state c.args.bus.now.tap.now in
    let none : answered_lines (g.W.Watch.state c.prepare.new.self.tap.now).log.events ≡ [] =
    ap (λ (x : LogLists). answered_lines x.events) c.in-Err-Device.ensures.prepared.log
    ∙ ap answered_lines c.requires.no_events in
    subst (IsFed c.args.config.now c.args.image.now c.args.input.now c.unprepared.result) (sym none)
    (unprepared_fed c.args.config.now c.args.image.now c.args.input.now c.unprepared.result tap tap
    (c.unprepared.ensures tap))

pub returns-in-Ok-clause-plays : goal.returns-in-Ok-clause-plays
returns-in-Ok-clause-plays g c =
    let config = c.args.config.now in
    let keys = chip_keys config c.args.codec c.args.tagger (g.L.LeafFn.leaf_of c.args.leaf) in
    let log = (g.W.Watch.state c.run_prepared.new.bus.tap.now).log in
    let lawful : AreKeys keys = chip_lawful g.L.LeafFn.leaf_of g.L.LeafFn.levels config c.args.codec c.args.tagger
    c.args.leaf c.requires.config c.requires.levels c.gives_leaves.ensures in
    let calls = calls-play keys lawful config.shape.levels config c.requires.config in
    let same = c.in_ok-oram.ensures.keys in
    let input : c.in_ok-files.files.input ≡ c.args.input.now = ap (λ (f : FilesState). f.input) c.in_ok-files.ensures in
    let p = c.in-Ok.ensures.prepared in
    let m = g.M.UntrustedMemory.state c.prepare.new.self.memory.now in
    let t = g.W.Watch.state c.prepare.new.self.tap.now in
    let serving = c.in_ok-oram.ensures.serving c.most_slots.result m t
    (ap (λ (x : LogLists). x.events) p.log ∙ c.requires.no_events)
    (ap (λ (x : LogLists). x.moves) p.log ∙ c.requires.no_moves) c.most_slots.ensures.enough
    (prepared_room config c.most_slots.result (g.M.UntrustedMemory.state c.args.bus.now.memory.now) m
    (g.W.Watch.state c.args.bus.now.tap.now) t c.requires.config c.most_slots.ensures.few c.requires.moved p) in
    let levels = serving.serves.rests.is_for.levels_are
    ∙ ap (λ (c : Config). c.shape.levels) c.in_ok-oram.ensures.config in
    IfOk-weaker c.run_prepared.result _ _ (λ report known. elim known [
      | inl forged ↦ inl (subst (λ (z : Keys). Forgery z log) same forged)
      | inr played ↦ inr (subst (λ (l : List ℕ). IsPlayed config (play_with config c.args.image.now l)
          (play_report report) log) input played)
    ]) (c.run_prepared.ensures.plays (subst AreKeys (sym same) lawful)
    (subst (λ n. CallsPlay (keys_of c.in_ok-oram.oram.port.tree c.in_ok-oram.oram.tagger
    (g.L.LeafFn.leaf_of c.in_ok-oram.oram.port.leaves)) n config) (sym levels)
    (subst (λ (z : Keys). CallsPlay z config.shape.levels config) (sym same) calls)))

pub returns-in-Err-Device-clause-plays : goal.returns-in-Err-Device-clause-plays
returns-in-Err-Device-clause-plays g c =
    let tap = g.W.Watch.state c.args.bus.now.tap.now in
    inr (unprepared_played c.args.config.now
    (play_with c.args.config.now c.args.image.now c.args.input.now) c.unprepared.result tap tap
    (g.W.Watch.state c.prepare.new.self.tap.now).log (c.unprepared.ensures tap)
    (ap (λ (x : LogLists). x.events) c.in-Err-Device.ensures.prepared.log ∙ c.requires.no_events))

pub returns-in-Ok-clause-plays_unaltered : goal.returns-in-Ok-clause-plays_unaltered
returns-in-Ok-clause-plays_unaltered g c none =
    let config = c.args.config.now in
    let keys = chip_keys config c.args.codec c.args.tagger (g.L.LeafFn.leaf_of c.args.leaf) in
    let log = (g.W.Watch.state c.run_prepared.new.bus.tap.now).log in
    IfOk-weaker c.run_prepared.result _ _ (λ report known. elim known [
      | inl forged ↦ absurd (unforged keys log forged none)
      | inr played ↦ played
    ]) (returns-in-Ok-clause-plays g c)

pub returns-in-Ok-clause-plays_told : goal.returns-in-Ok-clause-plays_told
returns-in-Ok-clause-plays_told g c some =
    returns-in-Ok-clause-plays_unaltered g c (returns-in-Ok-clause-unaltered g c some)

pub returns-in-Err-Device-clause-plays_unaltered : goal.returns-in-Err-Device-clause-plays_unaltered
returns-in-Err-Device-clause-plays_unaltered g c none =
    let tap = g.W.Watch.state c.args.bus.now.tap.now in
    unprepared_played c.args.config.now
    (play_with c.args.config.now c.args.image.now c.args.input.now) c.unprepared.result tap tap
    (g.W.Watch.state c.prepare.new.self.tap.now).log (c.unprepared.ensures tap)
    (ap (λ (x : LogLists). x.events) c.in-Err-Device.ensures.prepared.log ∙ c.requires.no_events)

pub returns-in-Err-Device-clause-plays_told : goal.returns-in-Err-Device-clause-plays_told
returns-in-Err-Device-clause-plays_told g c some =
    let tap = g.W.Watch.state c.args.bus.now.tap.now in
    unprepared_played c.args.config.now
    (play_with c.args.config.now c.args.image.now c.args.input.now) c.unprepared.result tap tap
    (g.W.Watch.state c.prepare.new.self.tap.now).log (c.unprepared.ensures tap)
    (ap (λ (x : LogLists). x.events) c.in-Err-Device.ensures.prepared.log ∙ c.requires.no_events)

pub returns-in_err-files-clause-order : goal.returns-in_err-files-clause-order
returns-in_err-files-clause-order g c =
    start_order (chip_keys c.args.config.now c.args.codec c.args.tagger (g.L.LeafFn.leaf_of c.args.leaf))
    (g.W.Watch.state c.args.bus.now.tap.now).log c.requires.no_events c.requires.no_altered

pub returns-in_err-files-clause-done_err : goal.returns-in_err-files-clause-done_err
returns-in_err-files-clause-done_err g c =
    on_err_with c.from_residual.result (start_done
    (chip_keys c.args.config.now c.args.codec c.args.tagger (g.L.LeafFn.leaf_of c.args.leaf))
    (g.W.Watch.state c.args.bus.now.tap.now).log c.requires.no_events c.requires.no_altered)

pub returns-in_err-files-clause-verdict_err : goal.returns-in_err-files-clause-verdict_err
returns-in_err-files-clause-verdict_err g c =
    let config = c.args.config.now in
    on_err_with c.from_residual.result (inl (start_right
    (chip_keys config c.args.codec c.args.tagger (g.L.LeafFn.leaf_of c.args.leaf)) config.stash
    (g.W.Watch.state c.args.bus.now.tap.now).log c.requires.no_events))

pub returns-in_err-files-clause-contents_err : goal.returns-in_err-files-clause-contents_err
returns-in_err-files-clause-contents_err g c = on_err_with c.from_residual.result (inr refl)

pub returns-in_err-files-clause-origins_err : goal.returns-in_err-files-clause-origins_err
returns-in_err-files-clause-origins_err g c = on_err_with c.from_residual.result (inr refl)

pub returns-in_err-cache-clause-order : goal.returns-in_err-cache-clause-order
returns-in_err-cache-clause-order g c =
    start_order (chip_keys c.args.config.now c.args.codec c.args.tagger (g.L.LeafFn.leaf_of c.args.leaf))
    (g.W.Watch.state c.args.bus.now.tap.now).log c.requires.no_events c.requires.no_altered

pub returns-in_err-cache-clause-done_err : goal.returns-in_err-cache-clause-done_err
returns-in_err-cache-clause-done_err g c =
    on_err_with c.from_residual-in_err-cache.result (start_done
    (chip_keys c.args.config.now c.args.codec c.args.tagger (g.L.LeafFn.leaf_of c.args.leaf))
    (g.W.Watch.state c.args.bus.now.tap.now).log c.requires.no_events c.requires.no_altered)

pub returns-in_err-cache-clause-verdict_err : goal.returns-in_err-cache-clause-verdict_err
returns-in_err-cache-clause-verdict_err g c =
    let config = c.args.config.now in
    on_err_with c.from_residual-in_err-cache.result (inl (start_right
    (chip_keys config c.args.codec c.args.tagger (g.L.LeafFn.leaf_of c.args.leaf)) config.stash
    (g.W.Watch.state c.args.bus.now.tap.now).log c.requires.no_events))

pub returns-in_err-cache-clause-contents_err : goal.returns-in_err-cache-clause-contents_err
returns-in_err-cache-clause-contents_err g c = on_err_with c.from_residual-in_err-cache.result (inr refl)

pub returns-in_err-cache-clause-origins_err : goal.returns-in_err-cache-clause-origins_err
returns-in_err-cache-clause-origins_err g c = on_err_with c.from_residual-in_err-cache.result (inr refl)

pub returns-in_err-oram-clause-order : goal.returns-in_err-oram-clause-order
returns-in_err-oram-clause-order g c =
    start_order (chip_keys c.args.config.now c.args.codec c.args.tagger (g.L.LeafFn.leaf_of c.args.leaf))
    (g.W.Watch.state c.args.bus.now.tap.now).log c.requires.no_events c.requires.no_altered

pub returns-in_err-oram-clause-done_err : goal.returns-in_err-oram-clause-done_err
returns-in_err-oram-clause-done_err g c =
    on_err_with c.from_residual-in_err-oram.result (start_done
    (chip_keys c.args.config.now c.args.codec c.args.tagger (g.L.LeafFn.leaf_of c.args.leaf))
    (g.W.Watch.state c.args.bus.now.tap.now).log c.requires.no_events c.requires.no_altered)

pub returns-in_err-oram-clause-verdict_err : goal.returns-in_err-oram-clause-verdict_err
returns-in_err-oram-clause-verdict_err g c =
    let config = c.args.config.now in
    on_err_with c.from_residual-in_err-oram.result (inl (start_right
    (chip_keys config c.args.codec c.args.tagger (g.L.LeafFn.leaf_of c.args.leaf)) config.stash
    (g.W.Watch.state c.args.bus.now.tap.now).log c.requires.no_events))

pub returns-in_err-oram-clause-contents_err : goal.returns-in_err-oram-clause-contents_err
returns-in_err-oram-clause-contents_err g c = on_err_with c.from_residual-in_err-oram.result (inr refl)

pub returns-in_err-oram-clause-origins_err : goal.returns-in_err-oram-clause-origins_err
returns-in_err-oram-clause-origins_err g c = on_err_with c.from_residual-in_err-oram.result (inr refl)

pub returns-in-Err-Device-clause-order : goal.returns-in-Err-Device-clause-order
returns-in-Err-Device-clause-order g c =
    start_order (chip_keys c.args.config.now c.args.codec c.args.tagger (g.L.LeafFn.leaf_of c.args.leaf))
    (g.W.Watch.state c.prepare.new.self.tap.now).log
    (ap (λ (x : LogLists). x.events) c.in-Err-Device.ensures.prepared.log ∙ c.requires.no_events)
    (ap (λ (x : LogLists). x.altered) c.in-Err-Device.ensures.prepared.log ∙ c.requires.no_altered)

pub returns-in-Err-NoMemory-clause-order : goal.returns-in-Err-NoMemory-clause-order
returns-in-Err-NoMemory-clause-order g c =
    start_order (chip_keys c.args.config.now c.args.codec c.args.tagger (g.L.LeafFn.leaf_of c.args.leaf))
    (g.W.Watch.state c.prepare.new.self.tap.now).log
    (ap (λ (x : LogLists). x.events) c.in-Err-NoMemory.ensures.prepared.log ∙ c.requires.no_events)
    (ap (λ (x : LogLists). x.altered) c.in-Err-NoMemory.ensures.prepared.log ∙ c.requires.no_altered)

pub returns-in-Err-Device-clause-verdict : goal.returns-in-Err-Device-clause-verdict
returns-in-Err-Device-clause-verdict g c =
    let config = c.args.config.now in
    let keys = chip_keys config c.args.codec c.args.tagger (g.L.LeafFn.leaf_of c.args.leaf) in
    let log = (g.W.Watch.state c.prepare.new.self.tap.now).log in
    subst (λ (e : Ending). ShowsEnding keys config.stash e log)
    (sym (c.unprepared.ensures (g.W.Watch.state c.args.bus.now.tap.now)).ending)
    (inl (start_right keys config.stash log
    (ap (λ (x : LogLists). x.events) c.in-Err-Device.ensures.prepared.log ∙ c.requires.no_events)))

pub returns-in-Err-Device-clause-done : goal.returns-in-Err-Device-clause-done
returns-in-Err-Device-clause-done g c =
    let old = g.W.Watch.state c.args.bus.now.tap.now in
    inr (subst (λ (t : TapState). IsUnprepared c.unprepared.result old t)
    (sym (refused_tap c.in-Err-Device.field-0 c.args.config.now.shape.buckets c.args.config.now.shape.levels
    c.most_slots.result (g.M.UntrustedMemory.state c.args.bus.now.memory.now)
    (g.M.UntrustedMemory.state c.prepare.new.self.memory.now) old (g.W.Watch.state c.prepare.new.self.tap.now)
    c.in-Err-Device.ensures.prepared)) (c.unprepared.ensures old))

pub returns-in-Err-Device-clause-contents : goal.returns-in-Err-Device-clause-contents
returns-in-Err-Device-clause-contents g c =
    let old = g.W.Watch.state c.args.bus.now.tap.now in
    inr (subst (λ (t : TapState). IsUnprepared c.unprepared.result old t)
    (sym (refused_tap c.in-Err-Device.field-0 c.args.config.now.shape.buckets c.args.config.now.shape.levels
    c.most_slots.result (g.M.UntrustedMemory.state c.args.bus.now.memory.now)
    (g.M.UntrustedMemory.state c.prepare.new.self.memory.now) old (g.W.Watch.state c.prepare.new.self.tap.now)
    c.in-Err-Device.ensures.prepared)) (c.unprepared.ensures old))

pub returns-in-Err-Device-clause-origins : goal.returns-in-Err-Device-clause-origins
returns-in-Err-Device-clause-origins g c =
    let old = g.W.Watch.state c.args.bus.now.tap.now in
    inr (subst (λ (t : TapState). IsUnprepared c.unprepared.result old t)
    (sym (refused_tap c.in-Err-Device.field-0 c.args.config.now.shape.buckets c.args.config.now.shape.levels
    c.most_slots.result (g.M.UntrustedMemory.state c.args.bus.now.memory.now)
    (g.M.UntrustedMemory.state c.prepare.new.self.memory.now) old (g.W.Watch.state c.prepare.new.self.tap.now)
    c.in-Err-Device.ensures.prepared)) (c.unprepared.ensures old))

pub returns-in-Err-NoMemory-clause-done_err : goal.returns-in-Err-NoMemory-clause-done_err
returns-in-Err-NoMemory-clause-done_err g c =
    start_done (chip_keys c.args.config.now c.args.codec c.args.tagger (g.L.LeafFn.leaf_of c.args.leaf))
    (g.W.Watch.state c.prepare.new.self.tap.now).log
    (ap (λ (x : LogLists). x.events) c.in-Err-NoMemory.ensures.prepared.log ∙ c.requires.no_events)
    (ap (λ (x : LogLists). x.altered) c.in-Err-NoMemory.ensures.prepared.log ∙ c.requires.no_altered)

pub returns-in-Err-NoMemory-clause-verdict_err : goal.returns-in-Err-NoMemory-clause-verdict_err
returns-in-Err-NoMemory-clause-verdict_err g c =
    let config = c.args.config.now in
    inl (start_right (chip_keys config c.args.codec c.args.tagger (g.L.LeafFn.leaf_of c.args.leaf)) config.stash
    (g.W.Watch.state c.prepare.new.self.tap.now).log
    (ap (λ (x : LogLists). x.events) c.in-Err-NoMemory.ensures.prepared.log ∙ c.requires.no_events))

pub returns-in-Err-NoMemory-clause-contents_err : goal.returns-in-Err-NoMemory-clause-contents_err
returns-in-Err-NoMemory-clause-contents_err g c =
    inr (refused_tap c.in-Err-NoMemory.field-0 c.args.config.now.shape.buckets c.args.config.now.shape.levels
    c.most_slots.result (g.M.UntrustedMemory.state c.args.bus.now.memory.now)
    (g.M.UntrustedMemory.state c.prepare.new.self.memory.now) (g.W.Watch.state c.args.bus.now.tap.now)
    (g.W.Watch.state c.prepare.new.self.tap.now) c.in-Err-NoMemory.ensures.prepared)

pub returns-in-Err-NoMemory-clause-origins_err : goal.returns-in-Err-NoMemory-clause-origins_err
returns-in-Err-NoMemory-clause-origins_err g c =
    inr (refused_tap c.in-Err-NoMemory.field-0 c.args.config.now.shape.buckets c.args.config.now.shape.levels
    c.most_slots.result (g.M.UntrustedMemory.state c.args.bus.now.memory.now)
    (g.M.UntrustedMemory.state c.prepare.new.self.memory.now) (g.W.Watch.state c.args.bus.now.tap.now)
    (g.W.Watch.state c.prepare.new.self.tap.now) c.in-Err-NoMemory.ensures.prepared)

-- what a run over a prepared bus shows and says, as its report or its want of memory
replayed : (g : given.Over) (c : goal.After-run_prepared g) → IfOk c.run_prepared.result
    (λ (report : Report). EndsReplayed
    (chip_keys c.args.config.now c.args.codec c.args.tagger (g.L.LeafFn.leaf_of c.args.leaf))
    c.args.config.now.stash report.ending (g.W.Watch.state c.run_prepared.new.bus.tap.now))
    × OnErr c.run_prepared.result (WantsReplayed
    (chip_keys c.args.config.now c.args.codec c.args.tagger (g.L.LeafFn.leaf_of c.args.leaf))
    c.args.config.now.stash (g.W.Watch.state c.run_prepared.new.bus.tap.now))
replayed g c =
    let config = c.args.config.now in
    let oram = c.in_ok-oram.oram in
    let tap = g.W.Watch.state c.run_prepared.new.bus.tap.now in
    let levels = g.L.LeafFn.levels oram.port.leaves in
    let keys = keys_of oram.port.tree oram.tagger (g.L.LeafFn.leaf_of oram.port.leaves) in
    let lawful : AreKeys keys = subst AreKeys (sym c.in_ok-oram.ensures.keys) (chip_lawful g.L.LeafFn.leaf_of
    g.L.LeafFn.levels config c.args.codec c.args.tagger c.args.leaf c.requires.config c.requires.levels
    c.gives_leaves.ensures) in
    let laws = c.logs_say_all.ensures in
    let calls : CallsReplay keys levels = record {
      start = laws.start keys lawful levels;
      request = laws.request keys lawful levels;
      stop = laws.stop keys lawful levels;
      between = laws.between keys lawful levels;
    } in (
      IfOk-weaker c.run_prepared.result _ _ (λ report. subst (λ (z : Keys).
          EndsReplayed z config.stash report.ending tap) c.in_ok-oram.ensures.keys)
          (c.run_prepared.ensures.replays calls),
      on_err_so _ _ c.run_prepared.result (c.run_prepared.ensures.replays_err calls)
          (subst (λ (z : Keys). WantsReplayed z config.stash tap) c.in_ok-oram.ensures.keys),
    )

pub returns-in-Ok-clause-order : goal.returns-in-Ok-clause-order
returns-in-Ok-clause-order g c =
    let keys = chip_keys c.args.config.now c.args.codec c.args.tagger (g.L.LeafFn.leaf_of c.args.leaf) in
    let stash = c.args.config.now.stash in
    let tap = g.W.Watch.state c.run_prepared.new.bus.tap.now in
    on_both (λ (report : Report). EndsReplayed keys stash report.ending tap) (WantsReplayed keys stash tap)
    (LogOrder keys tap.log) c.run_prepared.result (replayed g c).0 (replayed g c).1 (λ report r. r.slots.order)
    (λ w. w.slots.order)

pub returns-in-Ok-clause-done : goal.returns-in-Ok-clause-done
returns-in-Ok-clause-done g c =
    IfOk-weaker c.run_prepared.result _ _ (λ report r. inl r.slots) (replayed g c).0

pub returns-in-Ok-clause-done_err : goal.returns-in-Ok-clause-done_err
returns-in-Ok-clause-done_err g c =
    on_err_so _ _ c.run_prepared.result (replayed g c).1 (λ w. w.slots)

pub returns-in-Ok-clause-verdict : goal.returns-in-Ok-clause-verdict
returns-in-Ok-clause-verdict g c =
    IfOk-weaker c.run_prepared.result _ _ (λ report r. r.shows) (replayed g c).0

pub returns-in-Ok-clause-verdict_err : goal.returns-in-Ok-clause-verdict_err
returns-in-Ok-clause-verdict_err g c =
    on_err_so _ _ c.run_prepared.result (replayed g c).1 (λ w. w.shows)

pub returns-in-Ok-clause-contents : goal.returns-in-Ok-clause-contents
returns-in-Ok-clause-contents g c =
    IfOk-weaker c.run_prepared.result _ _ (λ report r. inl r.mirror) (replayed g c).0

pub returns-in-Ok-clause-origins : goal.returns-in-Ok-clause-origins
returns-in-Ok-clause-origins g c =
    IfOk-weaker c.run_prepared.result _ _ (λ report r. inl r.origins) (replayed g c).0

pub returns-in-Ok-clause-contents_err : goal.returns-in-Ok-clause-contents_err
returns-in-Ok-clause-contents_err g c =
    on_err_so _ _ c.run_prepared.result (replayed g c).1 (λ w. inl w.mirror)

pub returns-in-Ok-clause-origins_err : goal.returns-in-Ok-clause-origins_err
returns-in-Ok-clause-origins_err g c =
    on_err_so _ _ c.run_prepared.result (replayed g c).1 (λ w. inl w.origins)

pub returns-in-Ok-clause-spent : goal.returns-in-Ok-clause-spent
returns-in-Ok-clause-spent g c =
    let log = (g.W.Watch.state c.run_prepared.new.bus.tap.now).log in
    let input : c.in_ok-files.files.input ≡ c.args.input.now = ap (λ (f : FilesState). f.input) c.in_ok-files.ensures in
    IfOk-weaker c.run_prepared.result _ _ (λ report spent. subst (λ (l : List ℕ).
    IsSpentOn c.args.config.now c.args.image.now l report log) input spent) c.run_prepared.ensures.spent

pub returns-in-Err-Device-clause-spent : goal.returns-in-Err-Device-clause-spent
returns-in-Err-Device-clause-spent g c =
    let tap = g.W.Watch.state c.args.bus.now.tap.now in
    unprepared_spent c.args.config.now c.args.image.now c.args.input.now c.unprepared.result tap tap
    (g.W.Watch.state c.prepare.new.self.tap.now).log (c.unprepared.ensures tap)

pub returns-in-Ok-clause-complete : goal.returns-in-Ok-clause-complete
returns-in-Ok-clause-complete g c some sound room =
    let config = c.args.config.now in
    let keys = chip_keys config c.args.codec c.args.tagger (g.L.LeafFn.leaf_of c.args.leaf) in
    let whole = play_with config c.args.image.now c.args.input.now in
    let log = (g.W.Watch.state c.run_prepared.new.bus.tap.now).log in
    let none = returns-in-Ok-clause-unaltered g c some in
    let before = (g.M.UntrustedMemory.state c.args.bus.now.memory.now).faults in
    let mid = (g.M.UntrustedMemory.state c.prepare.new.self.memory.now).faults in
    let now = (g.M.UntrustedMemory.state c.run_prepared.new.bus.memory.now).faults in
    IfOk-weaker c.run_prepared.result _ _ (λ report all. completes keys config whole report log refl all.0
    all.1.1.0.slots.order none all.1.1.0.shows all.1.1.1
    (λ failed. sound (omega (arith, c.in-Ok.ensures.prepared.later, all.1.0.cause failed))) room)
    (ok_both _ _ c.run_prepared.result (returns-in-Ok-clause-plays_unaltered g c none)
    (ok_both _ _ c.run_prepared.result c.run_prepared.ensures.reported
    (ok_both _ _ c.run_prepared.result (replayed g c).0 (returns-in-Ok-clause-honest g c none))))

pub returns-in-Err-Device-clause-complete : goal.returns-in-Err-Device-clause-complete
returns-in-Err-Device-clause-complete g c some sound room =
    absurd (sound (refused_rose c.in-Err-Device.field-0 c.args.config.now.shape.buckets c.args.config.now.shape.levels
    c.most_slots.result (g.M.UntrustedMemory.state c.args.bus.now.memory.now)
    (g.M.UntrustedMemory.state c.prepare.new.self.memory.now) (g.W.Watch.state c.args.bus.now.tap.now)
    (g.W.Watch.state c.prepare.new.self.tap.now) c.in-Err-Device.ensures.prepared c.in-Err-Device.field-0-is))

pub returns-in-Ok-clause-home : goal.returns-in-Ok-clause-home
returns-in-Ok-clause-home g c =
    let config = c.args.config.now in
    let oram = c.in_ok-oram.oram in
    let keys = chip_keys config c.args.codec c.args.tagger (g.L.LeafFn.leaf_of c.args.leaf) in
    let own = keys_of oram.port.tree oram.tagger (g.L.LeafFn.leaf_of oram.port.leaves) in
    let log = (g.W.Watch.state c.run_prepared.new.bus.tap.now).log in
    let lawful : AreKeys keys = chip_lawful g.L.LeafFn.leaf_of g.L.LeafFn.levels config c.args.codec c.args.tagger
    c.args.leaf c.requires.config c.requires.levels c.gives_leaves.ensures in
    let same = c.in_ok-oram.ensures.keys in
    let input : c.in_ok-files.files.input ≡ c.args.input.now = ap (λ (f : FilesState). f.input) c.in_ok-files.ensures in
    let p = c.in-Ok.ensures.prepared in
    let m = g.M.UntrustedMemory.state c.prepare.new.self.memory.now in
    let t = g.W.Watch.state c.prepare.new.self.tap.now in
    let serving = c.in_ok-oram.ensures.serving c.most_slots.result m t
    (ap (λ (x : LogLists). x.events) p.log ∙ c.requires.no_events)
    (ap (λ (x : LogLists). x.moves) p.log ∙ c.requires.no_moves) c.most_slots.ensures.enough
    (prepared_room config c.most_slots.result (g.M.UntrustedMemory.state c.args.bus.now.memory.now) m
    (g.W.Watch.state c.args.bus.now.tap.now) t c.requires.config c.most_slots.ensures.few c.requires.moved p) in
    let levels = serving.serves.rests.is_for.levels_are
    ∙ ap (λ (c : Config). c.shape.levels) c.in_ok-oram.ensures.config in
    let lawful_own : AreKeys own = subst AreKeys (sym same) lawful in
    let laws = c.logs_say_all.ensures in
    let replays : CallsReplay own (g.L.LeafFn.levels oram.port.leaves) = record {
      start = laws.start own lawful_own (g.L.LeafFn.levels oram.port.leaves);
      request = laws.request own lawful_own (g.L.LeafFn.levels oram.port.leaves);
      stop = laws.stop own lawful_own (g.L.LeafFn.levels oram.port.leaves);
      between = laws.between own lawful_own (g.L.LeafFn.levels oram.port.leaves);
    } in
    IfOk-weaker c.run_prepared.result _ _ (λ report known.
    subst (λ (l : List ℕ). EndsAtHome keys config (play_with config c.args.image.now l) report.instructions
    report.cycles report.ending log) input
    (subst (λ (z : Keys). EndsAtHome z config (play_with config c.args.image.now c.in_ok-files.files.input)
    report.instructions report.cycles report.ending log) same known))
    (c.run_prepared.ensures.home lawful_own
    (subst (λ n. CallsPlay own n config) (sym levels) (subst (λ (z : Keys). CallsPlay z config.shape.levels config)
    (sym same) (calls-play keys lawful config.shape.levels config c.requires.config))) replays)

pub returns-in-Err-Device-clause-home : goal.returns-in-Err-Device-clause-home
returns-in-Err-Device-clause-home g c behind none =
    let report = c.unprepared.result in
    absurd (subst (EndsBehind report.instructions report.cycles)
    (c.unprepared.ensures (g.W.Watch.state c.args.bus.now.tap.now)).ending behind)
