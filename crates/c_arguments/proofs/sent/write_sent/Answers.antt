use Rattle.c_arguments.proofs.sent.write_sent.Goals as goal

pub returns : goal.returns
returns c =
    simp (← c.message-message.ensures) (record { written = c.write_message.ensures.0; after = c.write_message.ensures.1 })
