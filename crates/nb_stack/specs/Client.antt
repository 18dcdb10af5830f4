-- what a Stack is to its users: the client's addresses, its neighbours and its ports
use Rattle.std.specs.Prelude.{Bool, List, Option}
use Rattle.nb_wire.specs.declared.address.Mac.{Mac}
use Rattle.nb_stack.specs.declared.address.Addr.{Addr}
use Rattle.nb_stack.specs.declared.neighbours.Neighbour.{Neighbour}
use Rattle.nb_stack.specs.declared.ports.Port.{Port}

pub record Client : Type 0 where
  pub mac : Mac
  pub address : Option Addr
  pub up : Bool
  pub near : List Neighbour
  pub ports : List Port
