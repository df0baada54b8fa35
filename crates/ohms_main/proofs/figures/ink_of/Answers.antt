-- Three figures, each by its eight bytes.
use Rattle.ohms_main.proofs.Reading.{ink-is}
use Rattle.ohms_main.proofs.figures.ink_of.Goals as goal

pub returns : goal.returns
returns c = ink-is _ _ _ _ _ _ _ c.word.ensures c.figure.ensures c.word-2.ensures
    c.figure-2.ensures c.word-3.ensures c.figure-3.ensures
