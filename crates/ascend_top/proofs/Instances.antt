-- The premises of completeness hold of words.
use Rattle.std.proofs.Common.{◌≡◌, ℕ, ◌+◌, ◌≤◌, List, [], ◌∷◌, length, None, lit≤, ap, sym, subst}
use Rattle.std.proofs.Common.{refl, arith, zero, suc}
use Rattle.std.specs.Prelude.{codes, take, true}
use Rattle.std.specs.List.Sorted.{IsStrictlyIncreasing}
use Rattle.std.proofs.lemmas.List.Elements.{All-from_recursion}
use Rattle.asc_base.specs.TreeShape.{olat_of}
use Rattle.std.specs.Result.{result_unwrap_or}
use Rattle.asc_base.specs.Settings.{AreAllowed, AreRates, InRange, IsFromTo, config_of, narrow_rates}
use Rattle.asc_base.specs.Shape.{shape_of}
use Rattle.asc_base.specs.declared.settings.Config.{Config}
use Rattle.asc_base.specs.declared.settings.Setting.{Setting}
use Rattle.asc_base.specs.declared.settings.Setting.TheVariants.{Size, Base, Sets, Ways, Plb, Roots, Ic}
use Rattle.asc_base.specs.declared.settings.Setting.TheVariants.{Stash, Budget, Time, Leak, Rates, First, Epoch}
use Rattle.asc_base.specs.declared.settings.Settings.{Settings}
use Rattle.asc_outside.specs.Host.{Files}
use Rattle.bus_schedule.specs.Timetable.{public_of}
use Rattle.elf_loader.specs.Faults.{IsFaultless}
use Rattle.run_play.specs.Slots.{first_pace}
use Rattle.run_play.proofs.Defaults.{default-is}
use Rattle.run_play.proofs.NoSlots.{no-slots}
use Rattle.rv32_asm.specs.File.{words}
use Rattle.rv32_asm.specs.Generator.{generated_file, generated_words, program, start}
use Rattle.rv32_asm.proofs.GeneratorLaws.{text_assembles}
use Rattle.secure_machine.specs.Run.{start_of}
use Rattle.secure_machine.proofs.Roomy.{without_slots}
use Rattle.ascend_words.specs.Grammar.{HasForm, IsWords, MayFollow, Pair, value_in}
use Rattle.ascend_words.specs.Numbers.{number_of}
use Rattle.ascend_words.specs.Settings.{default_settings, settings_of}
use Rattle.ascend_words.specs.Tables.{is_name_of, kind_of}
use Rattle.ascend_words.specs.declared.table.Command.{Command}
use Rattle.ascend_words.specs.declared.table.Command.TheVariants.{Gen}
use Rattle.ascend_words.specs.declared.table.Name.{Name}
use Rattle.ascend_words.specs.declared.table.Name.TheVariants.{Key, Output, Seed, Words, Time as TimeName}
use Rattle.ascend_top.specs.Assembled.{IsInside}
use Rattle.ascend_top.specs.Command.{AreRight}
use Rattle.ascend_top.specs.Complete.{HasRoom}
use Rattle.ascend_top.specs.EncryptedRun.{keys_from}
use Rattle.ascend_top.specs.Gen.{gen_file}
use Rattle.ascend_top.specs.Headline.{program_play}
use Rattle.ascend_top.specs.Instance.{HaveKey, short_read, short_words}
use Rattle.ascend_top.proofs.AssembledLaws.{no_fault}

-- A run whose first slot would start at or after the time of its settings has room.
pub late_room : (command : Command) (given : List Pair) (files : Files)
    → (let config = config_of (settings_of given) in config.time ≤ (first_pace (public_of config)).beat.next)
    → HasRoom command given files
late_room command given files late begin begins =
    let program = begin.program in
    without_slots (keys_from program.config begin.key) program.config.stash (program_play program)
    (no-slots program.config program.image.bytes.items program.image.marked.items
    (start_of program.config program.image program.input.items)
    (subst (λ (config : Config). config.time ≤ (first_pace (public_of config)).beat.next) (sym begins.config) late))

-- the settings of the words
abbrev short_settings : Settings
short_settings = record default_settings { time = 16384 }

settings_are : settings_of short_read.given ≡ short_settings
unfolding settings_of number_of default_settings
settings_are = refl

short_late : let config = config_of (settings_of short_read.given) in
    config.time ≤ (first_pace (public_of config)).beat.next
unfolding settings_of number_of default_settings config_of narrow_rates
short_late = lit≤ tt

pub short_room : (files : Files) → HasRoom short_read.command short_read.given files
short_room files = late_room short_read.command short_read.given files short_late

-- ---- the words' files
-- the settings are in their ranges
levels_are : (shape_of 16384 16).levels ≡ 13
unfolding config_of
levels_are = ap (λ (config : Config). config.shape.levels) default-is

abbrev four_rates : List ℕ
four_rates = 256 ∷ 1024 ∷ 4096 ∷ 16384 ∷ []

four_rise : IsStrictlyIncreasing four_rates
four_rise zero within = lit≤ tt
four_rise (suc zero) within = lit≤ tt
four_rise (suc (suc zero)) within = lit≤ tt
four_rise (suc (suc (suc k))) within = absurd (omega arith)

rates_are : AreRates short_settings.rates.list short_settings.rates.count
unfolding default_settings
rates_are = record {
  power = (2, lit≤ tt, refl);
  rise = four_rise;
  bounds = All-from_recursion (IsFromTo 64 1048576) four_rates
      ((lit≤ tt, lit≤ tt), ((lit≤ tt, lit≤ tt), ((lit≤ tt, lit≤ tt), ((lit≤ tt, lit≤ tt), tt))));
}

short_range : (setting : Setting) → InRange short_settings setting
unfolding default_settings
short_range Size = ((lit≤ tt, lit≤ tt), refl)
short_range Base = (refl, lit≤ tt)
short_range Sets = (6, lit≤ tt, refl)
short_range Ways = (lit≤ tt, lit≤ tt)
short_range Plb = (lit≤ tt, lit≤ tt)
short_range Roots = (lit≤ tt, lit≤ tt)
short_range Ic = (lit≤ tt, lit≤ tt)
short_range Stash = lit≤ tt
short_range Budget = lit≤ tt
short_range Time = (lit≤ tt, lit≤ tt)
short_range Leak = lit≤ tt
short_range Rates = rates_are
short_range First = lit≤ tt
short_range Epoch =
    subst (λ levels. IsFromTo (olat_of levels + 16384) 268435456 65536) (sym levels_are) (lit≤ tt, lit≤ tt)

short_allowed : AreAllowed (settings_of short_read.given)
short_allowed = subst AreAllowed (sym settings_are) short_range

-- the program that they make is inside the memory
abbrev short_program : List ℕ
short_program = words (generated_words 0 1)

short_length : length short_program ≡ 124
unfolding program
short_length = refl

short_inside : IsInside 0 1048576 start short_program
short_inside = record {
  memory = record {
    size_from = lit≤ tt;
    size_to = lit≤ tt;
    size_pages = refl;
    base_pages = refl;
    below_top = lit≤ tt;
  };
  aligned = refl;
  from = lit≤ tt;
  entry = lit≤ tt;
  to = omega (arith, short_length);
}

short_file : gen_file short_read.given ≡ generated_file 0 1
unfolding gen_file number_of
short_file = ap (λ answer. result_unwrap_or answer []) (text_assembles 0 1 (lit≤ tt))

short_faultless : IsFaultless 0 1048576 (gen_file short_read.given)
short_faultless =
    subst (IsFaultless 0 1048576) (sym short_file) (no_fault 0 1048576 start short_program short_inside)

-- The words are right over files that have their key.
pub short_right : (files : Files) → HaveKey files → AreRight short_read files
unfolding settings_of number_of default_settings
short_right files (bytes, is, long) = (
  short_allowed,
  (
    lit≤ tt,
    (
      (lit≤ tt, lit≤ tt),
      (record { bytes = bytes; is = is; within = omega (arith, long); keeps = long }, (short_faultless, tt)),
    ),
  ),
)

-- a name of `gen` that is given its first value
first_value : (earlier : List Pair) (name : Name) (value : List ℕ) → is_name_of Gen name ≡ true
    → value_in earlier name ≡ None → HasForm (kind_of name) value
    → MayFollow Gen earlier (record { name = name; value = value })
first_value earlier name value of_command first form =
    record { of_command = of_command; first = first; form = form }

-- The words are right, and read so.
pub short_is_read : IsWords short_words short_read
unfolding number_of
short_is_read = record {
  keeps = (
    refl,
    record {
      written = refl;
      follow = (
        first_value [] Seed (codes "0") refl refl refl,
        (
          first_value (take 1 short_read.given) Words (codes "1") refl refl refl,
          (
            first_value (take 2 short_read.given) Key (codes "k") refl refl (λ e. cc),
            (
              first_value (take 3 short_read.given) Output (codes "o") refl refl (λ e. cc),
              (first_value (take 4 short_read.given) TimeName (codes "16384") refl refl refl, tt),
            ),
          ),
        ),
      );
    },
  );
  complete = refl;
}
