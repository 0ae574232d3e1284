use Rattle.field_words.proofs.Newton.{turn_is}
use Rattle.field_words.proofs.word_inverse.Goals as goal

pub returns : goal.returns
returns c = turn_is _ _ _ _ _ _ c.requires c.closer-x.ensures c.closer-x2.ensures c.closer-x3.ensures c.closer-x4.ensures c.closer.ensures
