use mathlib.Core.Path.{refl}
use native.Mathlib.Omega.{arith}
use Rattle.tile_words.proofs.InPlace.{put_read, put_word, word_beyond}
use Rattle.tile_words.proofs.fields.write_word.Goals as goal

pub returns-then-word-lt-LINE_WORDS : goal.returns-then-word-lt-LINE_WORDS
returns-then-word-lt-LINE_WORDS c = put_read _ _ 0 _ (omega arith) (put_word _ _ 0 (omega arith) c.args.word c.args.value c.if-word-lt-LINE_WORDS.true refl)

pub returns-else-word-lt-LINE_WORDS : goal.returns-else-word-lt-LINE_WORDS
returns-else-word-lt-LINE_WORDS c = word_beyond _ c.args.tile.now 0 (omega arith) _ _ c.if-word-lt-LINE_WORDS.false
