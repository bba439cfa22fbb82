-- Settings with which plays are computed.
use Rattle.std.specs.Prelude.{[], ◌∷◌, replicate}
use Rattle.asc_base.specs.declared.settings.Config.{Config}
use Rattle.asc_base.specs.declared.settings.Settings.{Settings}

-- the default settings
abbrev pub default_settings : Settings
default_settings = record {
  size = 1048576;
  base = 0;
  sets = 64;
  ways = 8;
  plb = 32;
  roots = 16;
  ic = 14;
  stash = 200;
  budget = 10000000;
  time = 268435456;
  leak = 16;
  rates = record { list = 256 ∷ 1024 ∷ 4096 ∷ 16384 ∷ []; count = 4 };
  first = 3;
  epoch = 65536;
}

-- a memory of 64 lines, a cache of one line, and the first rate
abbrev pub small_settings : Settings
small_settings = record default_settings { size = 4096; sets = 1; ways = 1; first = 0 }

-- the configurations of both
abbrev pub default_config : Config
default_config = record {
  size = 1048576;
  base = 0;
  sets = 64;
  ways = 8;
  plb = 32;
  roots = 16;
  ic = 14;
  stash = 200;
  budget = 10000000;
  time = 268435456;
  leak = 16;
  rates = record { list = 256 ∷ 1024 ∷ 4096 ∷ 16384 ∷ replicate 12 0; count = 4 };
  first = 3;
  epoch = 65536;
  shape = record {
    lines = 16384;
    layers = 3;
    firsts = 0 ∷ 16384 ∷ 16896 ∷ 0 ∷ 0 ∷ [];
    counts = 16384 ∷ 512 ∷ 16 ∷ 0 ∷ 0 ∷ [];
    levels = 13;
    total = 16912;
    buckets = 16383;
  };
}

abbrev pub small : Config
small = record default_config {
  size = 4096;
  sets = 1;
  ways = 1;
  first = 0;
  shape = record {
    lines = 64;
    layers = 2;
    firsts = 0 ∷ 64 ∷ 0 ∷ 0 ∷ 0 ∷ [];
    counts = 64 ∷ 2 ∷ 0 ∷ 0 ∷ 0 ∷ [];
    levels = 5;
    total = 66;
    buckets = 63;
  };
}

-- the same with no budget, with less time than the first slot's start, and with one rate alone
abbrev pub no_budget : Config
no_budget = record default_config { budget = 0 }

abbrev pub no_time : Config
no_time = record small { time = 200 }

abbrev pub one_rate : Config
one_rate = record small { leak = 0; rates = record { list = 256 ∷ replicate 15 0; count = 1 } }

-- one rate and an end at 6,000; and an end at 200,000 with one choice, at the first end from 32,768 on
abbrev pub short_time : Config
short_time = record one_rate { time = 6000 }

abbrev pub one_choice : Config
one_choice = record small { leak = 2; epoch = 32768; time = 200000 }

-- one root over two map blocks over the 64 lines, and room for one held block
abbrev pub one_held : Config
one_held = record small {
  plb = 1;
  roots = 1;
  shape = record {
    lines = 64;
    layers = 3;
    firsts = 0 ∷ 64 ∷ 66 ∷ 0 ∷ 0 ∷ [];
    counts = 64 ∷ 2 ∷ 1 ∷ 0 ∷ 0 ∷ [];
    levels = 5;
    total = 67;
    buckets = 63;
  };
}

-- own counts of two bits, the second rate, and one choice
abbrev pub few_counts : Config
few_counts = record small { ic = 2; leak = 2; first = 1; epoch = 32768; time = 50000 }

-- four rates, of which the greatest is the first, and two choices, at the first ends from 4,096 and from 12,288 on
abbrev pub two_choices : Config
two_choices = record small {
  leak = 4;
  rates = record { list = 64 ∷ 128 ∷ 256 ∷ 1024 ∷ replicate 12 0; count = 4 };
  first = 3;
  epoch = 4096;
  time = 14000;
}

-- one root over two map blocks over the 64 lines, own counts of two bits, and room for two held blocks
abbrev pub two_held : Config
two_held = record one_held { plb = 2; ic = 2 }
