-- What a command comes to where all its steps are done.
use Rattle.std.specs.Prelude.{ℕ, List}
use Rattle.ascend_top.specs.FlatRun.{Report}
use Rattle.ascend_top.specs.declared.commands.run.Encrypted.{Encrypted as EncryptedRun}

-- what a run over encrypted memory came to, the report of a flat run, the file of an assembled text, the printed lines
-- of a program's statements, or the code and the bits of a trace that holds
pub data Made : Type 0 where
  Encrypted : EncryptedRun → Made
  Ran : Report → Made
  Assembled : (file : List ℕ) → Made
  Listed : (text : List ℕ) → Made
  Held : (code bits : ℕ) → Made
