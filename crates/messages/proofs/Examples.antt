-- Queues and numbers of messages, computed. Assumes nothing.
use mathlib.Core.Path.{◌≡◌, refl}
use mathlib.Core.List.{[], ◌∷◌}
use Rattle.masks.specs.Mask.{has}
use Rattle.protocol.specs.Parts.{on_noc3, inv_fwd_ack}
use Rattle.protocol.specs.Home.{range, among, members}
use Rattle.layout.specs.Encode.{row, zeros, enc_reply}
use Rattle.messages.specs.Queues.{bench_queue, queue_of_each, sent_queues}
use Rattle.messages.specs.Rows.{numbers_of_message}

-- invalidations of tiles 0 and 5
invalidations : sent_queues 2 33 ≡ bench_queue 2 0 ∷ bench_queue 2 5 ∷ []
unfolding sent_queues queue_of_each members among range has
invalidations = refl

-- the ack of tile 5
acknowledgement : numbers_of_message (on_noc3 5 inv_fwd_ack) ≡ record { queue = 3; tile = 5; row = row 23 0 0 0 zeros }
unfolding numbers_of_message enc_reply
acknowledgement = refl
