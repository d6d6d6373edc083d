use Rattle.flit_rules.specs.Reading.{data_of}
use Rattle.flit_reader.proofs.data_part.data_words.Goals as goal

pub returns-in-Ok : goal.returns-in-Ok
unfolding data_of
returns-in-Ok c = rw (← c.in-Ok.ensures)

pub returns-in-Err : goal.returns-in-Err
unfolding data_of
returns-in-Err c = rw (← c.in-Err.ensures)
