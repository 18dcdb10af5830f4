-- the ports that are bound
use Rattle.std.specs.Prelude.{ℕ, ◌==◌, ◌&&◌, Bool, not, Option, List, [], ◌∷◌, ◌++◌, find, filter, option_map}
use Rattle.nb_stack.specs.declared.ports.Port.{Port}

-- it is this port
abbrev pub is_port : ℕ → ℕ → Port → Bool
is_port proto number port = (port.proto == proto) && (port.number == number)

-- who gets what comes to a port
abbrev pub owner_of : ℕ → ℕ → List Port → Option ℕ
owner_of proto number ports = option_map (λ port. port.to) (find (is_port proto number) ports)

-- the ports and one more, whose messages go to `to`
abbrev pub with_port : ℕ → ℕ → ℕ → List Port → List Port
with_port proto number to ports = ports ++ record { proto = proto; number = number; to = to } ∷ []

-- the ports but for this one
abbrev pub without : ℕ → ℕ → List Port → List Port
without proto number ports = filter (λ port. not (is_port proto number port)) ports
