-- An image that the loader makes of a generated program.
use Rattle.std.specs.Prelude.{◌≡◌, ◌≤◌, ℕ, List, Ok}
use Rattle.asc_base.specs.Memory.{IsMemory}
use Rattle.asc_base.specs.declared.settings.Config.{Config}
use Rattle.elf_loader.specs.Elf.{entry_of}
use Rattle.elf_loader.specs.Faults.{IsFaultless}
use Rattle.elf_loader.specs.Layout.{first_break, image_bytes}
use Rattle.elf_loader.specs.declared.image.Image.{Image}
use Rattle.rv32_asm.specs.File.{assembled}
use Rattle.rv32_asm.specs.Generator.{start, generated_text}

-- The image is that of the program of a seed with so many words of data, in the memory of a configuration: the loader
-- accepts its file, and lays it out so.
pub record IsGenerated (config : Config) (image : Image) (seed words : ℕ) : Type 0 where
  pub some : 1 ≤ words
  pub most : words ≤ 65_536
  pub file : List ℕ
  pub is : assembled start (generated_text seed words) ≡ Ok file
  pub memory : IsMemory config.base config.size
  pub accepted : IsFaultless config.base config.size file
  pub bytes : image.bytes.items ≡ image_bytes config.base config.size file
  pub entry : image.entry ≡ entry_of file
  pub heap : image.heap ≡ first_break config.base config.size file
