-- The kinds of objects and what their messages carry: our own.
use Rattle.std.specs.Prelude.{ℕ, Bool, true, false, List, [], ◌∷◌, if◌then◌else◌}
use Rattle.nb_terms.specs.declared.acts.SendTo.{SendTo}
use Rattle.nb_conns.specs.ConnLoads.{first_of_conn, second_of_conn}
use Rattle.nb_graph.specs.Trace.{Nature, nature}
use Rattle.nb_nodes.specs.declared.fetch.Fetch.{Fetch}
use Rattle.nb_nodes.specs.declared.fetch.Fetch.TheVariants.{Gathering, Whole, HandedOut, Moved, Failed}
use Rattle.nb_nodes.specs.declared.load.Load.{Load}
use Rattle.nb_nodes.specs.declared.load.Load.TheVariants as load
use Rattle.nb_nodes.specs.declared.obj.Obj.{Obj}
use Rattle.nb_nodes.specs.declared.obj.Obj.TheVariants as obj

-- the body of the first message
abbrev pub first_body : List SendTo → List ℕ
first_body [] = []
first_body (send ∷ sends) = send.body.items

-- the bytes of a load, in two parts
abbrev pub first_part : Load → List ℕ
first_part (load.Body body) = []
first_part (load.Datagram acts) = first_body acts.value.sends.items
first_part (load.Conn c) = first_of_conn c
first_part (load.Text text) = text

abbrev pub second_part : Load → List ℕ
second_part (load.Body body) = []
second_part (load.Datagram acts) = []
second_part (load.Conn c) = second_of_conn c
second_part (load.Text text) = []

-- the numbers of the kinds, and their ranks
abbrev pub kind_of_obj : Obj → ℕ
kind_of_obj (obj.Fetch f) = 1
kind_of_obj (obj.Tftp p) = 4
kind_of_obj (obj.Resolver r) = 5
kind_of_obj (obj.Dhcp d) = 6
kind_of_obj (obj.Ping p) = 7
kind_of_obj (obj.Http p) = 2
kind_of_obj (obj.Tcp p) = 3
kind_of_obj (obj.Iscsi p) = 8
kind_of_obj (obj.Disk p) = 9

abbrev pub rank_of_obj : Obj → ℕ
rank_of_obj (obj.Fetch f) = 5
rank_of_obj (obj.Tftp p) = 2
rank_of_obj (obj.Resolver r) = 2
rank_of_obj (obj.Dhcp d) = 2
rank_of_obj (obj.Ping p) = 5
rank_of_obj (obj.Http p) = 3
rank_of_obj (obj.Tcp p) = 2
rank_of_obj (obj.Iscsi p) = 3
rank_of_obj (obj.Disk p) = 5

-- its body was whole, and is handed out
abbrev pub is_handed : Fetch → Bool
is_handed (Gathering body alloc) = false
is_handed (Whole body) = false
is_handed HandedOut = true
is_handed (Moved text) = false
is_handed Failed = false

-- their marks: of a Fetch 1 where its body is handed out, which only a harvest does; the others but a Tftp
-- have their numbers, so that a rank and the mark 0 tell a Fetch and a Tftp from all others
abbrev pub mark_of_obj : Obj → ℕ
mark_of_obj (obj.Fetch f) = if is_handed f then 1 else 0
mark_of_obj (obj.Tftp p) = 0
mark_of_obj (obj.Resolver r) = 5
mark_of_obj (obj.Dhcp d) = 6
mark_of_obj (obj.Ping p) = 7
mark_of_obj (obj.Http p) = 2
mark_of_obj (obj.Tcp p) = 3
mark_of_obj (obj.Iscsi p) = 8
mark_of_obj (obj.Disk p) = 9

-- what nb_graph knows of them
abbrev pub obj_nature : Nature Obj Load
obj_nature = nature kind_of_obj mark_of_obj first_part second_part
