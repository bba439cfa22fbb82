-- The headline holds of a program that exits before its first slot, and of no report with another status.
use Rattle.std.proofs.Common.{◌≡◌, ◌⊎◌, inl, inr, ℕ, List, [], ◌∷◌, length, refl, sym, ◌∙◌, ap, subst}
use Rattle.std.proofs.Common.{arith}
use Rattle.asc_base.specs.declared.settings.Config.{Config}
use Rattle.bus_schedule.specs.Schedule.{moves_before_time, moves_of, schedule}
use Rattle.bus_schedule.specs.Scheduled.{log_code}
use Rattle.bus_schedule.specs.Shown.{starts_of, leaves_of, indices_of, code_of}
use Rattle.bus_schedule.specs.Timetable.{public_of, count_of, starts, starts_from, timetable}
use Rattle.bus_watch.specs.declared.log.Event.{Event}
use Rattle.bus_watch.specs.declared.log.Move.{Move}
use Rattle.oram_lines.proofs.HonestTriples.{unforged}
use Rattle.run_play.specs.Play.{Play, play_of}
use Rattle.run_play.specs.PlayEvents.{PlayReport, play_events, report_of, said_of_all}
use Rattle.run_play.specs.Programs.{exit_words, memory_with, play_at}
use Rattle.run_play.specs.Rows.{small}
use Rattle.rv32_core.specs.FlatRun.{machine_at_start, output_limit}
use Rattle.secure_machine.proofs.ExitPlay.{exit_events, exit_report}
use Rattle.secure_machine.proofs.FlatRows as flat
use Rattle.secure_machine.specs.Plays.{play_ending, play_report, play_with}
use Rattle.secure_machine.specs.Run.{IsFlatReport}
use Rattle.secure_machine.specs.declared.report.Ending.{Ending}
use Rattle.secure_machine.specs.declared.report.Ending.TheVariants.{Exit}
use Rattle.secure_machine.specs.declared.report.Report.{Report}
use Rattle.ascend_top.specs.EncryptedRun.{keys_from}
use Rattle.ascend_top.specs.Headline.{Headline, IsAlways, IsCutShort, IsFlatOrPrefix, IsForged, program_play}
use Rattle.ascend_top.proofs.HeadlineLaws.{prefixed}
use Rattle.ascend_top.specs.Instance.{IsExit, IsQuiet, IsShort, IsUnmoved}
use Rattle.ascend_top.specs.Lent.{Lent}
use Rattle.ascend_top.specs.declared.commands.flat.Program.{Program}

-- ---- the play
play_is : (program : Program) → IsExit program → program_play program ≡ play_at small 0 exit_words
play_is program h =
    let image = program.image in
    ap (λ (c : Config). play_with c image program.input.items) h.config
    ∙ ap (λ input. play_with small image input) h.input
    ∙ ap (λ bytes. play_of small bytes image.marked.items
    (machine_at_start image.entry 0 4096 image.heap [] output_limit)) h.image.bytes
    ∙ ap (λ marked. play_of small (memory_with 4096 0 exit_words) marked
    (machine_at_start image.entry 0 4096 image.heap [] output_limit)) h.image.marked
    ∙ ap (λ entry. play_of small (memory_with 4096 0 exit_words) (0 ∷ [])
    (machine_at_start entry 0 4096 image.heap [] output_limit)) h.image.entry
    ∙ ap (λ heap. play_of small (memory_with 4096 0 exit_words) (0 ∷ [])
    (machine_at_start 0 0 4096 heap [] output_limit)) h.image.heap

-- what is reported of it
abbrev reported : Ending → PlayReport
reported ending = record {
  ending = play_ending ending;
  instructions = 2;
  cycles = 12;
  last = 12;
  fetches = 0;
  real = 0;
  dummies = 0;
  choices = 0;
  code = 0;
}

report_says : (ending : Ending) (report : Report) → IsShort ending report → play_report report ≡ reported ending
report_says ending report h =
    let ends = h.said.ending_is in
    let finished = h.said.instructions_are in
    let cycles = h.cycles in
    let last = h.last in
    let fetches = h.fetches in
    let real = h.real in
    let dummies = h.dummies in
    let choices = h.choices in
    let code = h.code in
    cc

-- ---- the schedule
none_at : (code : ℕ) → timetable (public_of small) code 12 ≡ []
unfolding timetable starts starts_from
none_at code = refl

none_before : (code : ℕ) → timetable (public_of small) code 0 ≡ []
unfolding timetable starts starts_from
none_before code = refl

moves_none : (levels : ℕ) (starts : List ℕ) → moves_of levels starts [] ≡ []
unfolding moves_of
moves_none levels [] = refl
moves_none levels (start ∷ starts) = refl

schedule_none : (config : Config) (code end : ℕ) → schedule (public_of config) code [] end ≡ []
unfolding schedule
schedule_none config code end =
    ap (moves_before_time end)
    (moves_none config.shape.levels (timetable (public_of config) code end))

code_none : (config : Config) (events : List Event) → events ≡ []
    → code_of (count_of (public_of config)) (indices_of events) ≡ 0
unfolding code_of
code_none config events is = ap (λ l. code_of (count_of (public_of config)) (indices_of l)) is

always_at : (end : ℕ) → ((code : ℕ) → timetable (public_of small) code end ≡ []) → (lent : Lent) → IsUnmoved lent
    → IsAlways small lent end
always_at end none lent h =
    let p = public_of small in
    let log = lent.tap'.log in
    record {
      starts = ap starts_of h.quiet.events ∙ sym (none (log_code p log));
      leaves = ap (λ events. length (leaves_of events)) h.quiet.events ∙ sym (ap length (none (log_code p log)));
      moves = h.moves ∙ sym (schedule_none small (log_code p log) end)
          ∙ ap (λ events. schedule p (log_code p log) (leaves_of events) end) (sym h.quiet.events);
      code = omega (arith, code_none small log.events h.quiet.events);
      asked = omega (arith, h.asked, ap length h.moves);
    }

always_of : (program : Program) → program.config ≡ small → (end : ℕ)
    → ((code : ℕ) → timetable (public_of small) code end ≡ []) → (lent : Lent) → IsUnmoved lent
    → IsAlways program.config lent end
always_of program config end none lent h =
    subst (λ (c : Config). IsAlways c lent end) (sym config) (always_at end none lent h)

-- ---- the headline
flat_of : (program : Program) → IsExit program → (report : Report) → IsShort (Exit 0) report
    → IsFlatReport program.config program.image program.input.items report
flat_of program h report short =
    subst (λ input. IsFlatReport program.config program.image input report) (sym h.input)
    (subst (λ (c : Config). IsFlatReport c program.image [] report) (sym h.config)
    (flat.exit program.image report h.image short.said))

pub exits : (program : Program) → IsExit program → (key : List ℕ) (lent : Lent) → IsUnmoved lent → (report : Report)
    → IsShort (Exit 0) report → Headline program key lent report
exits program h key lent quiet report short = record {
  flat = inl (prefixed program report (flat_of program h report short));
  honest = λ told. prefixed program report (flat_of program h report short);
  play = inl (record {
    run = program_play program;
    is = inl (inl refl);
    events = ap said_of_all quiet.quiet.events
        ∙ sym (ap (λ (play : Play). play_events play.slots) (play_is program h) ∙ exit_events);
    report_is = report_says (Exit 0) report short ∙ sym exit_report
        ∙ ap (report_of (public_of small)) (sym (play_is program h))
        ∙ ap (λ (c : Config). report_of (public_of c) (program_play program)) (sym h.config);
  });
  always = subst (λ last. IsAlways program.config lent last) (sym short.last)
      (always_of program h.config 12 none_at lent quiet);
}

-- no other status
pub no_other : (program : Program) → IsExit program → (key : List ℕ) (lent : Lent) → IsQuiet lent → (report : Report)
    → IsShort (Exit 1) report → Headline program key lent report → ⊥
no_other program h key lent quiet report short line = by line.flat
  where
    by : IsFlatOrPrefix program report ⊎ IsForged program key lent.tap'.log → ⊥
    by (inl is) =
        flat.other_status program.image report h.image short.said
        (subst (λ (c : Config). IsFlatReport c program.image [] report) h.config
        (subst (λ input. IsFlatReport program.config program.image input report) h.input is.flat))
    by (inr forged) = unforged (keys_from program.config key) lent.tap'.log forged quiet.altered

pub cut : (program : Program) → program.config ≡ small → (lent : Lent) → IsUnmoved lent → IsCutShort program lent
cut program config lent h = record {
  end = 0;
  after = inl (h.moves, refl);
  always = always_of program config 0 none_before lent h;
}

-- no move without a slot
pub no_move : (config : Config) (lent : Lent) (end : ℕ) (move : Move) → IsQuiet lent
    → lent.tap'.log.moves ≡ move ∷ [] → IsAlways config lent end → ⊥
no_move config lent end move quiet moves always =
    let p = public_of config in
    let code = log_code p lent.tap'.log in
    let bad : move ∷ [] ≡ [] = sym moves ∙ always.moves
    ∙ ap (λ events. schedule p code (leaves_of events) end) quiet.events ∙ schedule_none config code end in
    cc
