use Rattle.pmmac_tags.proofs.Texts.{message_of_text}
use Rattle.pmmac_tags.proofs.laws.texts_tell_messages.Goals as goal

pub returns : goal.returns
returns c = message_of_text
