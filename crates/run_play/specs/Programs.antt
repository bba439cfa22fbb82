-- Programs on which plays are computed, and what their rows are written with.
use Rattle.std.specs.Prelude.{ℕ, ◌+◌, ◌-◌, ◌*◌, ◌/◌, List, [], ◌∷◌, ◌++◌, length, map, replicate, Option}
use Rattle.std.specs.Int.{to_le_bytes, w32}
use Rattle.std.specs.List.{flat_map}
use Rattle.std.specs.Option.{option_map}
use Rattle.asc_base.specs.declared.block.Point.{Point}
use Rattle.asc_base.specs.declared.settings.Config.{Config}
use Rattle.data_cache.specs.Lines.{Fetch}
use Rattle.posmap_counters.specs.Counters.{point_of}
use Rattle.rv32_core.specs.FlatRun.{machine_at_start, output_limit}
use Rattle.run_play.specs.Play.{Play, play_of}
use Rattle.run_play.specs.PlayEvents.{PlayEvent, Tags}
use Rattle.run_play.specs.Requests.{Taken, standing_at_start, one_by_one, request_slots}
use Rattle.run_play.specs.Slots.{Slot}

-- `addi x17, x0, 93; ecall`
abbrev pub exit_words : List ℕ
exit_words = 0x05d00893 ∷ 0x00000073 ∷ []

-- a write of six bytes behind the program, `hello` and a line feed, and then an exit
abbrev pub hello_words : List ℕ
hello_words = 0x00100513 ∷ 0x000105b7 ∷ 0x02458593 ∷ 0x00600613 ∷ 0x04000893 ∷ 0x00000073 ∷ 0x00000513 ∷ exit_words
    ++ 0x6c6c6568 ∷ 0x00000a6f ∷ []

-- `lw x5, 64(x0)`, and then an exit
abbrev pub load_words : List ℕ
load_words = 0x04002283 ∷ exit_words

-- `jal x0, 0`
abbrev pub jump_words : List ℕ
jump_words = 0x0000006f ∷ []

-- `lw x5, 64(x0); jal x0, -4`
abbrev pub swing_words : List ℕ
swing_words = 0x04002283 ∷ 0xffdff06f ∷ []

-- `lw x5, 64(x0)`, thirteen times `div x6, x5, x5`, and `jal x0, -56`
abbrev pub divide_words : List ℕ
divide_words = 0x04002283 ∷ replicate 13 0x0252c333 ++ 0xfc9ff06f ∷ []

-- `addi x5, x0, 2; jalr x0, 0(x5)`
abbrev pub misaligned_words : List ℕ
misaligned_words = 0x00200293 ∷ 0x00028067 ∷ []

-- a memory of so many bytes that are zeros but for these words, before which so many bytes lie
abbrev pub memory_with : ℕ → ℕ → List ℕ → List ℕ
memory_with size before words =
    replicate before 0 ++ flat_map (to_le_bytes w32) words ++ replicate (size - before - 4 * length words) 0

-- the play of a program in one line, which begins after so many bytes
abbrev pub play_at : Config → ℕ → List ℕ → Play
play_at config before words =
    let entry = config.base + before in
    play_of config (memory_with config.size before words) (before / 64 ∷ [])
    (machine_at_start entry config.base config.size entry [] output_limit)

-- the real point of a block, and a message, by their numbers
abbrev pub real : ℕ → ℕ → ℕ → Point
real address group own = point_of address (record { group = group; own = own })

abbrev pub tags : ℕ → ℕ → ℕ → List ℕ → PlayEvent
tags address group own line = Tags (record {
  address = record { 0 = address };
  counter = record { group = group; own = own };
  line = record { 0 = line };
})

-- what fetches take, one after another from the start on
abbrev pub fetches_at : Config → List ℕ → Taken
fetches_at config lines = one_by_one (request_slots config) (map Fetch lines) (standing_at_start config)

-- the address and the counter of the message that is appended behind a slot, if one is
abbrev pub appended_of : Slot → Option (ℕ × (ℕ × ℕ))
appended_of slot = option_map (λ m. (m.address.0, (m.counter.group, m.counter.own))) slot.appended
