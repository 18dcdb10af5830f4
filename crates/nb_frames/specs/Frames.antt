-- What a call on some objects leaves of all others, and these objects as a graph of their own: our own.
use Rattle.std.specs.Prelude.{◌≡◌, ℕ, ◌+◌, ◌≤◌, ◌==◌, ◌||◌, Bool, true, true, false, List, [], ◌∷◌, ◌++◌, length, Some, if◌then◌else◌}
use Rattle.nb_ledger.specs.declared.object.Object.{Object}
use Rattle.nb_ledger.specs.Ledger.{Ledger, object_lives, holds, port, rank}
use Rattle.nb_graph.specs.Trace.{Nature, NodeEntry, in_list}
use Rattle.nb_graph.specs.Deeds.{Deed, Stage, events_of}
use Rattle.nb_graph.specs.Went.{WentOne, all_of}
use Rattle.nb_graph.specs.Whole.{Objects, node_at}
use Rattle.nb_frames.specs.Within.{AreLinkedWithin, AreStagesWithin, ArePlain, MakesNone, FreesNone}
use Rattle.nb_ledger.specs.Flat.{Heard}

-- Of the object y all is as it was: whether it lives, its holds, its ports, its rank, and its node, so that it stands for
-- the same traces.
pub record KeepsObject {N : Type 0} (g h : Objects N) (y : ℕ) : Type 0 where
  pub live : object_lives h.book y ≡ object_lives g.book y
  pub held : holds h.book y ≡ holds g.book y
  pub ports : (k : ℕ) → port h.book y k ≡ port g.book y k
  pub ranked : rank h.book y ≡ rank g.book y
  pub node : (n : N) → node_at h y ≡ Some n → node_at g y ≡ Some n

-- so it is of each that was made so far and isn't one of these, and none is made
pub record KeepsOthers {N : Type 0} (own : ℕ → Bool) (g h : Objects N) : Type 0 where
  pub same_made : h.book.made ≡ g.book.made
  pub others : (y : ℕ) → y ≤ g.book.made → own y ≡ false → KeepsObject g h y

-- x is one of these
abbrev pub is_one_of : List ℕ → ℕ → Bool
is_one_of [] x = false
is_one_of (y ∷ ys) x = (x == y) || is_one_of ys x

-- the last of these
abbrev pub last_among : List ℕ → ℕ
last_among [] = 0
last_among (x ∷ []) = x
last_among (x ∷ (y ∷ ys)) = last_among (y ∷ ys)

-- the object x by what is seen of it, between calls
abbrev pub object_of : Ledger → ℕ → Object
object_of l x = record { id = record { 0 = x }; rank = rank l x; busy = false; holds = holds l x; ports = port l x 0 ∷ port l x 1 ∷ port l x 2 ∷ port l x 3 ∷ [] }

-- those of these that live
abbrev pub objects_of : List ℕ → Ledger → List Object
objects_of [] l = []
objects_of (x ∷ xs) l = (if object_lives l x then object_of l x ∷ [] else []) ++ objects_of xs l

-- and their nodes
abbrev pub nodes_of : {N : Type 0} → List ℕ → Objects N → List N
nodes_of [] g = []
nodes_of (x ∷ xs) g = in_list (node_at g x) ++ nodes_of xs g

-- These objects as a graph of their own, in which nothing else lives: its last serial is the last of them, and there is
-- room for one more.
abbrev pub graph_of : {N : Type 0} → List ℕ → Objects N → Objects N
graph_of ids g = record { book = record { made = last_among ids; room = length ids + 1; objects = objects_of ids g.book }; nodes = nodes_of ids g }

-- A call on these objects: no link leaves them, nothing is asked for but of them, they live before it and after it, and
-- none of them asks for a make or is freed.
pub record IsOwnCall {N L : Type 0} (ids : List ℕ) (asks : List (Stage N L)) (g h : Objects N) (ds : List (Deed N L)) : Type 0 where
  pub links : AreLinkedWithin (is_one_of ids) (port g.book)
  pub within : AreStagesWithin (is_one_of ids) asks
  pub plain : ArePlain asks
  pub given : (x : ℕ) → is_one_of ids x ≡ true → x ≤ g.book.made
  pub lives : (x : ℕ) → is_one_of ids x ≡ true → object_lives g.book x ≡ true
  pub stays : (x : ℕ) → is_one_of ids x ≡ true → object_lives h.book x ≡ true
  pub makes : (x : ℕ) → is_one_of ids x ≡ true → MakesNone x ds
  pub frees : (x : ℕ) → is_one_of ids x ≡ true → FreesNone x (events_of ds)

-- The same happens on the graph of these objects alone. No link leaves them then, and as many objects live as before.
pub record GoesAlone {N L : Type 0} (stands : N → List (NodeEntry N L) → Type 0) (known : Nature N L) (ids : List ℕ) (now : ℕ) (asks : List (Stage N L)) (g h : Objects N) (before after : Heard) (ds : List (Deed N L)) : Type 0 where
  pub went : WentOne stands known now asks (graph_of ids g) (graph_of ids h) before after
  pub same : all_of went.deeds ≡ ds
  pub links : AreLinkedWithin (is_one_of ids) (port h.book)
  pub same_number : length h.book.objects ≡ length g.book.objects
  pub same_room : h.book.room ≡ g.book.room
