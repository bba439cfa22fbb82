-- What a value of Words is seen as.
use Rattle.std.specs.Prelude.{◌≡◌}
use Rattle.ascend_words.specs.Grammar.{Read}
use Rattle.ascend_words.specs.Reading.{pairs}
use Rattle.ascend_words.specs.Settings.{settings_of}
use Rattle.ascend_words.specs.declared.words.Words.TheInside.{Inside}

abbrev pub words_view : Inside → Read
words_view words = record { command = words.command; given = pairs words.given.items }

-- the settings that are kept are those of the words
abbrev pub KeepsSettings : Inside → Type 0
KeepsSettings words = words.settings ≡ settings_of (pairs words.given.items)
