use Rattle.lists.proofs.OverLaws.{without_room}
use Rattle.listing.proofs.LineLaws.{message_length, too_many}
use Rattle.listing.proofs.PutLaws.{line_fits}
use Rattle.listing.proofs.lines.message_line.Goals as goal
use Rattle.listing.proofs.lines.message_line.Goals.{then-flits-buffer-via-then-flits-buffer, then-flits-buffer-via-else-flits-buffer+then-not-room}

pub returns-then-flits-buffer : goal.returns-then-flits-buffer
returns-then-flits-buffer c =
    elim c.then-flits-buffer.branch [
      | then-flits-buffer-via-then-flits-buffer w ↦ too_many _ _ _ w.if-flits-buffer.true
      | then-flits-buffer-via-else-flits-buffer+then-not-room w ↦ without_room _ _ _ _ (message_length c.args.flits.now) w.room.ensures w.if-not-room.true
    ]

pub returns : goal.returns
returns c = line_fits _ _ _ _ _ _ (message_length c.args.flits.now) c.room.ensures c.if-not-room.false (λ h. c.put_message.ensures)
