use Rattle.oram_contents.proofs.Cuts.{cut_contents, read_contents, whole_contents}
use Rattle.oram_contents.proofs.laws.ends_show_contents.Goals as goal

pub returns-clause-write : goal.returns-clause-write
returns-clause-write c = cut_contents

pub returns-clause-read : goal.returns-clause-read
returns-clause-read c = read_contents

pub returns-clause-finished : goal.returns-clause-finished
returns-clause-finished c = whole_contents
