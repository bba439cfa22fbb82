-- A program that jumps to itself until the time is up, in a line that is kept: many instructions by induction.
use Rattle.std.proofs.Common.{◌≡◌, ◌≤◌, ◌<◌, ℕ, suc, zero, ◌+◌, ◌*◌, true, [], ◌∷◌, None, ap, ◌∙◌, arith}
use Rattle.std.specs.Prelude.{replicate}
use Rattle.asc_base.specs.declared.settings.Config.{Config}
use Rattle.asc_base.specs.declared.settings.Rates.{Rates}
use Rattle.bus_schedule.specs.Timetable.{public_of}
use Rattle.data_cache.specs.CacheLists.{Lines}
use Rattle.posmap_lookaside.specs.Walk.{chip_at_start}
use Rattle.rv32_core.specs.FlatRun.{machine_at_start, output_limit}
use Rattle.rv32_core.specs.Machine.{Machine}
use Rattle.rv32_table.specs.Table.{decoded, table}
use Rattle.run_play.specs.Slots.{first_pace}
use Rattle.run_play.specs.Requests.{Standing, one_by_one}
use Rattle.run_play.specs.Play.{Play, play_from, image_slots, times_out}
use Rattle.run_play.specs.Rows.{small, short_time, one_choice}
use Rattle.run_play.specs.Programs.{jump_words, memory_with, play_at}
use Rattle.run_play.proofs.Steps.{play-next}

abbrev pub machine : Machine
machine = machine_at_start 0 0 4096 0 [] output_limit

-- the program's line was written whole
abbrev pub lines : Lines
lines = record { memory = memory_with 4096 0 jump_words; sets = (record { line = 0; dirty = true } ∷ []) ∷ [] }

module _ (leak epoch time : ℕ) (rates : Rates) where
  abbrev pub settings : Config
  settings = record small { leak = leak; epoch = epoch; time = time; rates = rates }

  -- so many instructions are finished, and no slot was needed
  abbrev pub jumped : ℕ → ℕ → Standing
  jumped clock instructions = record {
    pace = first_pace (public_of settings);
    chip = chip_at_start;
    data_lines = [];
    clock = clock;
    numbers = record { instructions = instructions; cycles = clock; fetches = 0 };
    late = None;
  }

  same-jumped : (a b c d : ℕ) → a ≡ b → c ≡ d → jumped a c ≡ jumped b d
  same-jumped a b c d e f = ap (λ n. jumped n c) e ∙ ap (λ n. jumped b n) f

  one : (n clock instructions : ℕ) → clock < time
      → play_from settings (suc n) machine lines (jumped clock instructions)
      ≡ play_from settings n machine lines (jumped (clock + 2) (instructions + 1))
  unfolding one_by_one decoded table
  one n clock instructions early = play-next settings n machine lines (jumped clock instructions) early

  none-more : (n : ℕ) → 0 + n ≡ n
  none-more n = omega arith

  one-more : (k n : ℕ) → suc k + n ≡ suc (k + n)
  one-more k n = omega arith

  pub many : (k n clock instructions : ℕ) → clock + 2 * k ≤ time + 1
      → play_from settings (k + n) machine lines (jumped clock instructions)
      ≡ play_from settings n machine lines (jumped (clock + 2 * k) (instructions + k))
  many zero n clock instructions fits =
      ap (λ m. play_from settings m machine lines (jumped clock instructions)) (none-more n)
      ∙ ap (λ (s : Standing). play_from settings n machine lines s)
      (same-jumped clock (clock + 2 * 0) instructions (instructions + 0) (omega arith) (omega arith))
  many (suc k) n clock instructions fits =
      ap (λ m. play_from settings m machine lines (jumped clock instructions)) (one-more k n)
      ∙ one (k + n) clock instructions (omega arith)
      ∙ many k n (clock + 2) (instructions + 1) (omega arith)
      ∙ ap (λ (s : Standing). play_from settings n machine lines s)
      (same-jumped (clock + 2 + 2 * k) (clock + 2 * suc k) (instructions + 1 + k) (instructions + suc k) (omega arith)
      (omega arith))

-- ---- the rows
-- up to 6,000 cycles at one rate, and up to 200,000 with a choice among four
abbrev pub short_end : Play
short_end =
    times_out short_time 6001 (jumped 0 65536 6000 (record { list = 256 ∷ replicate 15 0; count = 1 }) 6001 3000)

abbrev four : Rates
four = record { list = 256 ∷ 1024 ∷ 4096 ∷ 16384 ∷ replicate 12 0; count = 4 }

abbrev pub long_end : Play
long_end = times_out one_choice 200001 (jumped 2 32768 200000 four 200001 100000)

pub short-play : play_at short_time 0 jump_words ≡ short_end
unfolding image_slots one_by_one play_from
short-play =
    many 0 65536 6000 (record { list = 256 ∷ replicate 15 0; count = 1 }) 3000 9997000 1 0 (omega arith)

pub long-play : play_at one_choice 0 jump_words ≡ long_end
unfolding image_slots one_by_one play_from
long-play = many 2 32768 200000 four 100000 9900000 1 0 (omega arith)
