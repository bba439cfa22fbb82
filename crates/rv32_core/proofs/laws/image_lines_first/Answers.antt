use Rattle.std.proofs.Common.{refl}
use Rattle.rv32_core.proofs.ItemLaws.{image_items-uses, image_items-next}
use Rattle.rv32_core.proofs.laws.image_lines_first.Goals as goal

pub returns-clause-list : goal.returns-clause-list
returns-clause-list c = λ marked n machine memory. refl

pub returns-clause-uses : goal.returns-clause-uses
returns-clause-uses c = image_items-uses

pub returns-clause-next : goal.returns-clause-next
returns-clause-next c = image_items-next
