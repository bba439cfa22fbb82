-- A play ends as the flat run does.
use Rattle.std.proofs.Common.{◌≡◌, ℕ, zero, suc, ◌+◌, Bool, true, false, List, Option, Some, None, refl, sym, ap, ◌∙◌}
use Rattle.std.proofs.Common.{subst, arith}
use Rattle.std.specs.Prelude.{nat_lt}
use Rattle.asc_base.specs.declared.settings.Config.{Config}
use Rattle.data_cache.specs.CacheLists.{Lines, Sets, no_lines}
use Rattle.request_plan.specs.Play.{bare}
use Rattle.rv32_core.specs.FlatMachine.{FlatStep}
use Rattle.rv32_core.specs.FlatRun as flat
use Rattle.rv32_core.specs.FlatRun.{FlatRun, run_from, flat_run}
use Rattle.rv32_core.specs.Machine.{Machine}
use Rattle.rv32_core.specs.declared.outcome.Ended.{Ended}
use Rattle.rv32_core.specs.declared.outcome.Ended.TheVariants.{No, Exit, Trap}
use Rattle.rv32_core.proofs.FlatRunLaws.{flat_run-zero, flat_run-suc}
use Rattle.run_play.specs.Slots.{Numbers}
use Rattle.run_play.specs.Requests.{Standing, standing_at_start, Taken, one_by_one, request_slots}
use Rattle.run_play.specs.Play.{PlayEnding, Exited, Trapped, Budget, TimeUp, StashFull, Integrity, Device, Play}
use Rattle.run_play.specs.Play.{instruction, finished, image_slots, image_sets, after_requests, begins, play_from}
use Rattle.run_play.specs.Play.{after_image, play_of}
use Rattle.run_play.specs.Flat.{EndsAs, IsFlat}
use Rattle.run_play.proofs.Finished.{done_in, requests-done, image-done}
use Rattle.run_play.proofs.Flat.{instruction-flat}

-- after so many instructions a play finishes so many more, and ends as the flat run does
pub record Flatly (machine : Machine) (memory : List ℕ) (budget before : ℕ) (rest : Play) : Type 0 where
  pub more : ℕ
  pub counted : rest.numbers.instructions ≡ before + more
  pub flat : IsFlat machine memory budget more rest.ending

no-more : (machine : Machine) (memory : List ℕ) → (flat_run 0 machine memory).instructions ≡ 0
no-more machine memory = ap (λ (r : FlatRun). r.instructions) (flat_run-zero machine memory)

not-yet : (machine : Machine) (memory : List ℕ) → (flat_run 0 machine memory).ending ≡ flat.Budget
not-yet machine memory = ap (λ (r : FlatRun). r.ending) (flat_run-zero machine memory)

none-more : (n : ℕ) → n ≡ n + 0
none-more n = omega arith

-- when time is up no more finish
up-flat : (machine : Machine) (memory : List ℕ) (budget at : ℕ) (now : Standing) (rest : Play)
    → rest.numbers ≡ now.numbers → rest.ending ≡ TimeUp at → Flatly machine memory budget (done_in now) rest
up-flat machine memory budget at now rest numbers ending = record {
  more = 0;
  counted = ap (λ (k : Numbers). k.instructions) numbers ∙ none-more (done_in now);
  flat = record {
    instructions = no-more machine memory;
    ending = subst (EndsAs machine memory budget 0) (sym ending) (not-yet machine memory);
  };
}

module _ (machine : Machine) (memory : List ℕ) (step : FlatStep) where
  -- the flat run from this step on
  abbrev Runs : Ended → Type 0
  Runs ended = (m : ℕ) → flat_run (suc m) machine memory ≡ run_from (flat_run m) step ended

  ends-more : Runs No → (budget m : ℕ) (how : PlayEnding) → EndsAs step.machine step.memory budget m how
      → EndsAs machine memory (suc budget) (suc m) how
  ends-more runs budget m (Exited status) h = ap (λ (r : FlatRun). r.ending) (runs m) ∙ h
  ends-more runs budget m (Trapped kind pc) h = (
    ap (λ (r : FlatRun). r.ending) (runs m) ∙ h.0,
    ap (λ n. (flat_run n machine memory).ending) (let e : suc m + 1 ≡ suc (m + 1) = omega arith in e)
        ∙ ap (λ (r : FlatRun). r.ending) (runs (m + 1)) ∙ h.1,
  )
  ends-more runs budget m Budget h = (ap suc h.0, ap (λ (r : FlatRun). r.ending) (runs m) ∙ h.1)
  ends-more runs budget m (TimeUp at) h = ap (λ (r : FlatRun). r.ending) (runs m) ∙ h
  ends-more runs budget m (StashFull held) h = absurd h
  ends-more runs budget m (Integrity evidence) h = absurd h
  ends-more runs budget m Device h = absurd h

  module _ (config : Config) where
    after-flat : (rest : Standing → Play) (budget : ℕ) (now : Standing) (cost : ℕ) (late : Option ℕ) (ended : Ended)
        → Runs ended
        → ((next : Standing) → Flatly step.machine step.memory budget (done_in next) (rest next))
        → Flatly machine memory (suc budget) (done_in now) (after_requests config rest now cost late ended)
    after-flat rest budget now cost (Some late) ended runs each =
        up-flat machine memory (suc budget) late now (after_requests config rest now cost (Some late) ended) refl refl
    after-flat rest budget now cost None No runs each =
        let f : Flatly step.machine step.memory budget (done_in now + 1) (rest (finished cost now)) =
        each (finished cost now) in
        record {
          more = suc f.more;
          counted = f.counted ∙ (let e : (done_in now + 1) + f.more ≡ done_in now + suc f.more = omega arith in e);
          flat = record {
            instructions = ap (λ (r : FlatRun). r.instructions) (runs f.more)
                ∙ (let e : 1 + (flat_run f.more step.machine step.memory).instructions ≡ suc f.more
                = omega (arith, f.flat.instructions) in e);
            ending = ends-more runs budget f.more (rest (finished cost now)).ending f.flat.ending;
          };
        }
    after-flat rest budget now cost None (Exit status) runs each = record {
      more = 1;
      counted = refl;
      flat = record {
        instructions = ap (λ (r : FlatRun). r.instructions) (runs 0);
        ending = ap (λ (r : FlatRun). r.ending) (runs 0);
      };
    }
    after-flat rest budget now cost None (Trap kind pc) runs each = record {
      more = 0;
      counted = none-more (done_in now);
      flat = record {
        instructions = no-more machine memory;
        ending = (not-yet machine memory, ap (λ (r : FlatRun). r.ending) (runs 0));
      };
    }

module _ (config : Config) where
  -- the flat run's first step is the instruction
  runs-on : (machine : Machine) (lines : Lines) → let step = instruction config.ways machine lines in
      let played : FlatStep =
      record { machine = (step.outcome).0; memory = step.held.memory; done = (step.outcome).1 } in
      (m : ℕ) → flat_run (suc m) machine lines.memory ≡ run_from (flat_run m) played played.done.ended
  runs-on machine lines m =
      flat_run-suc m machine lines.memory
      ∙ ap (λ (s : FlatStep). run_from (flat_run m) s s.done.ended) (instruction-flat config.ways machine lines)

  begins-flat : (rest : Machine → Lines → Standing → Play) (budget : ℕ) (machine : Machine) (lines : Lines)
      (now : Standing) (early : Bool)
      → ((m : Machine) (l : Lines) (next : Standing) → Flatly m l.memory budget (done_in next) (rest m l next))
      → Flatly machine lines.memory (suc budget) (done_in now) (begins config rest machine lines now early)
  begins-flat rest budget machine lines now false each =
      up-flat machine lines.memory (suc budget) now.clock now (begins config rest machine lines now false) refl refl
  begins-flat rest budget machine lines now true each =
      let step = instruction config.ways machine lines in
      let played : FlatStep =
      record { machine = (step.outcome).0; memory = step.held.memory; done = (step.outcome).1 } in
      let taken : Taken = one_by_one (request_slots config) (bare step.records) now in
      let next : Play = after_requests config (rest ((step.outcome).0) step.held) taken.standing played.done.cost
      taken.standing.late played.done.ended in
      let f : Flatly machine lines.memory (suc budget) (done_in taken.standing) next =
      after-flat machine lines.memory played config (rest ((step.outcome).0) step.held) budget taken.standing
      played.done.cost taken.standing.late played.done.ended (runs-on machine lines)
      (each ((step.outcome).0) step.held) in
      record {
        more = f.more;
        counted = f.counted ∙ ap (λ n. n + f.more) (requests-done config (bare step.records) now);
        flat = f.flat;
      }

  pub play-flat : (n : ℕ) (machine : Machine) (lines : Lines) (now : Standing)
      → Flatly machine lines.memory n (done_in now) (play_from config n machine lines now)
  unfolding play_from
  play-flat zero machine lines now = record {
    more = 0;
    counted = none-more (done_in now);
    flat = record {
      instructions = no-more machine lines.memory;
      ending = (refl, not-yet machine lines.memory);
    };
  }
  play-flat (suc n) machine lines now =
      begins-flat (play_from config n) n machine lines now (nat_lt now.clock config.time) (play-flat n)

  image-flat : (rest : Standing → Play) (machine : Machine) (memory : List ℕ) (budget : ℕ) (now : Standing)
      (late : Option ℕ) → ((next : Standing) → Flatly machine memory budget (done_in next) (rest next))
      → Flatly machine memory budget (done_in now) (after_image config rest now late)
  image-flat rest machine memory budget now (Some late) each =
      up-flat machine memory budget late now (after_image config rest now (Some late)) refl refl
  image-flat rest machine memory budget now None each = each now

  -- A play of a machine at its start.
  pub whole-flat : (memory marked : List ℕ) (machine : Machine)
      → let run : Play = play_of config memory marked machine in
      IsFlat machine memory config.budget run.numbers.instructions run.ending
  whole-flat memory marked machine =
      let sets : Sets = no_lines config.sets in
      let first : Standing = standing_at_start config in
      let loaded : Taken = image_slots config memory marked sets first in
      let lines : Lines = record { memory = memory; sets = image_sets config marked sets } in
      let next : Play = after_image config (play_from config config.budget machine lines) loaded.standing
      loaded.standing.late in
      let f : Flatly machine memory config.budget (done_in loaded.standing) next =
      image-flat (play_from config config.budget machine lines) machine memory config.budget loaded.standing
      loaded.standing.late (play-flat config.budget machine lines) in
      let none : done_in loaded.standing ≡ 0 = image-done config memory marked sets first in
      let all : next.numbers.instructions ≡ f.more = omega (arith, f.counted, none) in
      subst (λ n. IsFlat machine memory config.budget n next.ending) (sym all) f.flat
