use native.Mathlib.Omega.{arith}
use Rattle.tile_words.proofs.InPlace.{word_some, word_none}
use Rattle.tile_words.proofs.fields.read_word.Goals as goal

pub returns-then-word-lt-LINE_WORDS : goal.returns-then-word-lt-LINE_WORDS
returns-then-word-lt-LINE_WORDS c = word_some _ c.args.tile.now 0 (omega arith) c.args.word c.if-word-lt-LINE_WORDS.true

pub returns-else-word-lt-LINE_WORDS : goal.returns-else-word-lt-LINE_WORDS
returns-else-word-lt-LINE_WORDS c = word_none _ c.args.tile.now 0 (omega arith) c.args.word c.if-word-lt-LINE_WORDS.false
