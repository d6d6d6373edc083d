use Rattle.tile_words.proofs.InPlace.{state_in}
use Rattle.tile_words.proofs.changes.make_request.Goals as goal

pub returns : goal.returns
returns c = rw (c.send_request.ensures, c.write_numbers.ensures, state_in c.args.tile.now)
