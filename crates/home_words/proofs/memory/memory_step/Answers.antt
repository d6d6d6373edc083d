use mathlib.Core.Path.{refl}
use native.Mathlib.Omega.{arith}
use Rattle.home_words.proofs.Committed.{memory_empty, memory_reads, memory_stores}
use Rattle.home_words.proofs.memory.memory_step.Goals as goal

pub returns-in-0 : goal.returns-in-0
returns-in-0 c = memory_empty c.args.words.now c.args.words.now c.args.count _ c.in-0.is refl

pub returns-in-19 : goal.returns-in-19
returns-in-19 c = memory_reads c.args.words.now _ c.args.count _ _ _ c.in-19.is c.read_eight-memory.ensures c.row_of-acked.ensures c.commit_memory.ensures

pub returns-in_default : goal.returns-in_default
returns-in_default c = memory_stores c.args.words.now _ c.args.count _ _ _ (λ e. omega arith) (λ e. omega arith) c.read_eight-stored.ensures c.bare_row-acked.ensures c.commit_memory-in_default.ensures
