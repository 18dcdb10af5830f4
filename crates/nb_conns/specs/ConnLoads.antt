-- What a connection's messages carry, within what the messages of a graph's objects do: our own.
use Rattle.std.specs.Prelude.{◌≡◌, ◌-◌, ℕ, List, [], ◌∷◌, ◌++◌, length, take, Option, Some, None}
use Rattle.std.specs.List.{flat_map}
use Rattle.nb_terms.specs.declared.acts.SendTo.{SendTo}
use Rattle.nb_reasm.specs.declared.held.Held.{Held}
use Rattle.nb_reasm.specs.HeldWindows.{front_first, front_second}
use Rattle.nb_conns.specs.declared.conn_load.ConnLoad.{ConnLoad}
use Rattle.nb_conns.specs.declared.conn_load.ConnLoad.TheVariants.{Segments, Window}
use Rattle.nb_conns.specs.declared.conn_load.Lent.{Lent}

-- the bodies of at most two messages
abbrev pub first_sent : List SendTo → List ℕ
first_sent [] = []
first_sent (send ∷ sends) = send.body.items

abbrev pub second_sent : List SendTo → List ℕ
second_sent [] = []
second_sent (send ∷ sends) = first_sent sends

-- the first bytes of a front, in its two parts
abbrev pub first_of_front : Option Held → ℕ → List ℕ
first_of_front None count = []
first_of_front (Some held) count = take count (front_first held)

abbrev pub second_of_front : Option Held → ℕ → List ℕ
second_of_front None count = []
second_of_front (Some held) count = take (count - length (front_first held)) (front_second held)

abbrev pub lent_first : Lent → List ℕ
lent_first l = first_of_front l.held l.count

abbrev pub lent_second : Lent → List ℕ
lent_second l = second_of_front l.held l.count

-- the bytes that go up of what is lent
abbrev pub lent_bytes : Lent → List ℕ
lent_bytes l = lent_first l ++ lent_second l

abbrev pub first_of_conn : ConnLoad → List ℕ
first_of_conn (Segments acts) = first_sent acts.value.sends.items
first_of_conn (Window lent) = lent_first lent.value

abbrev pub second_of_conn : ConnLoad → List ℕ
second_of_conn (Segments acts) = second_sent acts.value.sends.items
second_of_conn (Window lent) = lent_second lent.value

-- How a connection's load is one of a graph's: it is read again, and has the same bytes.
pub record Carrier (L : Type 0) : Type 0 where
  pub as_load : ConnLoad → L
  pub as_conn : L → Option ConnLoad
  pub load_bytes : L → List ℕ
  pub read_again : (c : ConnLoad) → as_conn (as_load c) ≡ Some c
  pub same_bytes : (c : ConnLoad) → load_bytes (as_load c) ≡ first_of_conn c ++ second_of_conn c

-- the window that a load lends, if it does
abbrev pub window_of_conn : Option ConnLoad → List Lent
window_of_conn None = []
window_of_conn (Some (Segments acts)) = []
window_of_conn (Some (Window lent)) = lent.value ∷ []

-- the windows that loads lend
abbrev pub windows_in : {L : Type 0} → Carrier L → List L → List Lent
windows_in k loads = flat_map (λ load. window_of_conn (k.as_conn load)) loads
