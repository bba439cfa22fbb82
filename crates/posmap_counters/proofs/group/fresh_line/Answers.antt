use Rattle.std.proofs.Common.{◌∙◌}
use Rattle.std.proofs.lemmas.List.{take_at}
use Rattle.posmap_counters.proofs.PieceLaws.{be_bytes-digits}
use Rattle.posmap_counters.proofs.group.fresh_line.Goals as goal

pub returns-clause-front : goal.returns-clause-front
returns-clause-front c =
    take_at c.copy_from_slice.new.self _ 8 c.copy_from_slice.ensures.len
    ∙ c.copy_from_slice.ensures.after ∙ c.to_be_bytes.ensures ∙ be_bytes-digits c.args.group
