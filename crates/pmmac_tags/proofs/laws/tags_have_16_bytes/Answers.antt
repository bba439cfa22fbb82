use Rattle.pmmac_tags.proofs.Tags.{length-tag, bytes-tag}
use Rattle.pmmac_tags.proofs.laws.tags_have_16_bytes.Goals as goal

pub returns-clause-number : goal.returns-clause-number
returns-clause-number c = length-tag

pub returns-clause-bytes : goal.returns-clause-bytes
returns-clause-bytes c = bytes-tag
