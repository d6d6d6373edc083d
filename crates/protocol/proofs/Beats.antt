-- 01's beats P1 to P9 hold of the rules: the run is computed.
use mathlib.Core.Path.{refl}
use Rattle.masks.specs.Mask.{has, add, del}
use Rattle.protocol.specs.Tile.{load_at, store_at, evict_at, fill, receive, received, deliver_to}
use Rattle.protocol.specs.Home.{range, among, members, grant_shared, grant_message, granted_line, grant, asked_for, ask_owner, invalidate_to, invalidate, leave, serve, write_back, ack_words, ack_dirty, load_ack_s, load_ack_i, store_ack, cleared, inv_ack, acknowledged, evict_line}
use Rattle.protocol.specs.Bench.{fresh, push, front, rest, on_tile1, on_tile2, on_tile3, send_one, send_to, send, outcome, posted, kind_of, settle, at_tile, at_word, circle, first_of, eligible, arbitrate, noc1, pop_noc1, served, take_front, take_chosen, taking_on, noc3, pop_noc3, written_back, fitted, accept_reply, from_tile_on, memory_serves, memory_step_on, accept_ack, memory_ack_on, home_eviction_on, step}
use Rattle.protocol.specs.Parts.{state_number, cache_state}
use Rattle.protocol.specs.Answers.{answer_of}
use Rattle.protocol.specs.Runs.{kept, after}
use Rattle.protocol.specs.Demand3.{tiles_of}
use Rattle.protocol.specs.Beats.{BeatsStatement, state_of, line_words, home_words, home_of, memory_of, messages_of, Hold, word0, beats}

pub beats_hold : BeatsStatement
unfolding has add del load_at store_at evict_at fill receive received deliver_to range among members grant_shared grant_message granted_line grant asked_for ask_owner invalidate_to invalidate leave serve write_back ack_words ack_dirty load_ack_s load_ack_i store_ack cleared inv_ack acknowledged evict_line fresh push front rest on_tile1 on_tile2 on_tile3 send_one send_to send outcome posted kind_of settle at_tile at_word circle first_of eligible arbitrate noc1 pop_noc1 served take_front take_chosen taking_on noc3 pop_noc3 written_back fitted accept_reply from_tile_on memory_serves memory_step_on accept_ack memory_ack_on home_eviction_on step kept after answer_of tiles_of state_of state_number cache_state line_words home_words home_of memory_of messages_of Hold word0 beats
beats_hold = (refl, (refl, (refl, (refl, (refl, (refl, (refl, refl, (refl, (refl, (refl, refl, (refl, refl, (refl, (refl, (refl, (refl, (refl, (refl, refl, (refl, (refl, (refl, (refl, (refl, (refl, (refl, (refl, (refl, (refl, (refl, (refl, (refl, (refl, (refl, refl, (refl, (refl, (refl, refl, (refl, refl, (refl, (refl, (refl, (refl, (refl, (refl, (refl, (refl, (refl, (refl, (refl, (refl, (refl, tt)))))))))))))))))))))))))))))))))))))))))))))))))
