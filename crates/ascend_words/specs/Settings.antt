-- What is read from the words: the texts of files, the numbers, and the settings.
use Rattle.std.specs.Prelude.{ℕ, List, ◌∷◌, Option, None, unwrap_or, option_map, option_and_then, replicate}
use Rattle.asc_base.specs.declared.settings.Settings.{Settings}
use Rattle.asc_base.specs.declared.settings.WideRates.{WideRates}
use Rattle.ascend_words.specs.Grammar.{Pair, value_in}
use Rattle.ascend_words.specs.Numbers.{number_of, rates_of, wide_rates}
use Rattle.ascend_words.specs.Tables.{kind_of}
use Rattle.ascend_words.specs.declared.table.Kind.{Kind}
use Rattle.ascend_words.specs.declared.table.Kind.TheVariants.{File, Number, Rates as Numbers}
use Rattle.ascend_words.specs.declared.table.Name.{Name}
use Rattle.ascend_words.specs.declared.table.Name.TheVariants.{Size, Base, Sets, Ways, Plb, Roots, Ic, Stash, Budget}
use Rattle.ascend_words.specs.declared.table.Name.TheVariants.{Time, Leak, Rates, First, Epoch}

-- what a name of a file is given
abbrev pub text_as : Kind → Option (List ℕ) → Option (List ℕ)
text_as File value = value
text_as Number value = None
text_as Numbers value = None

abbrev pub text_in : List Pair → Name → Option (List ℕ)
text_in given name = text_as (kind_of name) (value_in given name)

-- what a name of a number is given
abbrev pub number_as : Kind → Option (List ℕ) → Option ℕ
number_as File value = None
number_as Number value = option_and_then number_of value
number_as Numbers value = None

abbrev pub number_in : List Pair → Name → Option ℕ
number_in given name = number_as (kind_of name) (value_in given name)

-- the settings of words that give none
unfoldable pub default_settings : Settings
default_settings = record {
  size = 1048576;
  base = 0;
  sets = 64;
  ways = 8;
  plb = 32;
  roots = 16;
  ic = 14;
  stash = 200;
  budget = 10000000;
  time = 268435456;
  leak = 16;
  rates = record { list = 256 ∷ 1024 ∷ 4096 ∷ 16384 ∷ replicate 12 0; count = 4 };
  first = 3;
  epoch = 65536;
}

-- the rates that are given
abbrev pub rates_in : List Pair → Option WideRates
rates_in given = option_map wide_rates (option_and_then rates_of (value_in given Rates))

-- the settings that are given, and else the defaults
unfoldable pub settings_of : List Pair → Settings
settings_of given = record {
  size = unwrap_or (number_in given Size) default_settings.size;
  base = unwrap_or (number_in given Base) default_settings.base;
  sets = unwrap_or (number_in given Sets) default_settings.sets;
  ways = unwrap_or (number_in given Ways) default_settings.ways;
  plb = unwrap_or (number_in given Plb) default_settings.plb;
  roots = unwrap_or (number_in given Roots) default_settings.roots;
  ic = unwrap_or (number_in given Ic) default_settings.ic;
  stash = unwrap_or (number_in given Stash) default_settings.stash;
  budget = unwrap_or (number_in given Budget) default_settings.budget;
  time = unwrap_or (number_in given Time) default_settings.time;
  leak = unwrap_or (number_in given Leak) default_settings.leak;
  rates = unwrap_or (rates_in given) default_settings.rates;
  first = unwrap_or (number_in given First) default_settings.first;
  epoch = unwrap_or (number_in given Epoch) default_settings.epoch;
}
