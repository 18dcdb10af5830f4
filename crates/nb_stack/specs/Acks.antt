-- RFC 894: the frame in which a message leaves, where the hardware address of its next hop is known
use Rattle.std.specs.Prelude.{◌≡◌, ℕ, List}
use Rattle.nb_terms.specs.declared.acts.SendTo.{SendTo}
use Rattle.nb_stack.specs.declared.put.Endpoints.{Endpoints}
use Rattle.nb_stack.specs.declared.taken.Fate.TheVariants.{Sent}
use Rattle.nb_stack.specs.Client.{Client}
use Rattle.nb_stack.specs.Sends.{fate_of, put_on, way_of, message_frame}

-- a message leaves in this frame
pub record LeavesIn (client : Client) (message : SendTo) (frame : List ℕ) : Type 0 where
  pub fate : fate_of client (way_of client message) ≡ Sent
  pub put : frame ≡ put_on client message (way_of client message)

-- a message leaves in a frame between these endpoints
pub record GoesBetween (client : Client) (message : SendTo) (ends : Endpoints) : Type 0 where
  pub to : ends.to ≡ message.to
  pub leaves : LeavesIn client message (message_frame ends.dst ends.src ends.from message)
