use Rattle.std.proofs.Common.{◌∙◌, ap, sym, Some}
use Rattle.c_stores.proofs.TextLemmas.{is_text, no_text}
use Rattle.c_stores.proofs.texts.text_of.Goals as goal

pub returns-in-Text : goal.returns-in-Text
returns-in-Text c = ap Some c.as_slice.ensures ∙ sym (is_text _ _ _ c.in-Text.is)

pub returns-in-Name : goal.returns-in-Name
returns-in-Name c = no_text _ c.in-Name.is
