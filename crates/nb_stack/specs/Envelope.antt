-- own: a message is an envelope and a body, which may come in two parts
use Rattle.std.specs.Prelude.{List, ℕ, ◌++◌}
use Rattle.nb_terms.specs.declared.acts.SendTo.{SendTo}
use Rattle.nb_stack.specs.declared.envelope.Envelope.{Envelope}

abbrev pub envelope_of : SendTo → Envelope
envelope_of m = record { proto = m.proto; to = m.to; to_port = m.to_port; own_port = m.own_port }

-- the message of this envelope whose body is the first part and then the second
abbrev pub message_of : Envelope → List ℕ → List ℕ → SendTo
message_of e first second =
    record { proto = e.proto; to = e.to; to_port = e.to_port; own_port = e.own_port; body = record { items = first ++ second } }
