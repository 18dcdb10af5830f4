-- What is sound stays so where one more open begins.
use Rattle.std.proofs.Common.{◌≡◌, ℕ, true, false, ◌+◌, ◌<◌, ◌≤◌, List, [], ◌∷◌, ◌++◌, map, Option, Some, None, refl, sym, ◌∙◌, ap, subst, arith}
use Rattle.std.specs.List.{AllByRecursion, sum_by}
use Rattle.std.proofs.lemmas.Bool.{false≢true}
use Rattle.std.proofs.lemmas.List.{map-append}
use Rattle.std.proofs.lemmas.List.Sums.{sum_by-cons}
use Rattle.nb_terms.specs.declared.cause.Cause.{Cause}
use Rattle.nb_defs.specs.Records.{Out}
use Rattle.nb_graph.specs.Whole.{Objects}
use Rattle.nb_ledger.specs.GraphRun.{GraphState}
use Rattle.nb_nodes.specs.declared.obj.Obj.{Obj}
use Rattle.nb_stack.specs.Client.{Client}
use Rattle.nb_machine.specs.Kinds.{is_connection}
use Rattle.nb_machine.specs.Lives.{OpenKind, tftp, http, iscsi, dns, dhcp, ping, Live}
use Rattle.nb_machine.specs.Starting.{own_port}
use Rattle.nb_chains.specs.declared.kind.ChainKind.{ChainKind}
use Rattle.nb_chains.specs.declared.kind.ChainKind.TheVariants as chain
use Rattle.nb_teller.specs.Speakers.{carrier_number}
use Rattle.nb_network.specs.declared.living.Living.{Living}
use Rattle.nb_open.specs.declared.opening.Opening.{Opening}
use Rattle.nb_open.specs.declared.opening.Opening.TheVariants.{File, Web, Drive, Name, Lease, Echo}
use Rattle.nb_open.specs.declared.objects.OpenObjects.{OpenObjects}
use Rattle.nb_open.specs.declared.objects.OpenObjects.TheVariants as objects
use Rattle.nb_open.specs.Objects.{objects_ids}
use Rattle.nb_open.specs.Begins.{SetsOutOr}
use Rattle.nb_open.specs.Open.{AreOfKind, IsSpeakerOf, carrier_for, kind_for}
use Rattle.nb_open.specs.Opening.{chain_kind, kind_by, live_by, own_by, speaker_for}
use Rattle.nb_network.specs.Many.{AreApart, AreRising, AreSound, AreUntied, HasNoneTied, HasOwnPort, HasTiedOnlyOf, IsApartFrom, IsLivingOf, IsUntied, IsUntiedBut, IsLivingOfSome, bound_port, lease_count, lease_count_of, leases_in, own_port_for, own_protocol_for, port_for, protocol_for, bare_open}
use Rattle.nb_network.specs.Openings.{EntersBy, number_by}
use Rattle.nb_network.proofs.Matching.{tcp_of}
use Rattle.nb_network.proofs.Lists.{all_append, all_map, apart_more, count_more, rising_more}
use Rattle.nb_network.proofs.Begun.{number_is}
use Rattle.nb_network.specs.Drives.{drive_by}
use Rattle.nb_network.proofs.DriveBegins.{begins_as}

-- its port and its protocol, by its objects
kind_is : (a : Opening) → chain_kind a ≡ kind_for (kind_by a)
kind_is (File x) = refl
kind_is (Web x) = refl
kind_is (Drive x) = refl
kind_is (Name x) = refl
kind_is (Lease x) = refl
kind_is (Echo x) = refl

port_of_connection : (k : OpenKind) (w number : ℕ) → is_connection k ≡ true → port_for (kind_for k) w number ≡ own_port w number
port_of_connection tftp w number c = absurd (false≢true c)
port_of_connection (http isn) w number c = refl
port_of_connection (iscsi isn i) w number c = refl
port_of_connection (dns id) w number c = absurd (false≢true c)
port_of_connection (dhcp x) w number c = absurd (false≢true c)
port_of_connection ping w number c = absurd (false≢true c)

port_by_objects : (os : OpenObjects) (l : Live) (w number : ℕ) → AreOfKind os l → port_for (kind_for l.kind) w number ≡ own_port_for os w number
port_by_objects (objects.Chain kind chain) l w number i = ap (λ k. port_for k w number) (sym i.1)
port_by_objects (objects.Web port own chain) l w number i = port_of_connection l.kind w number i.0
port_by_objects (objects.Drive port own chain) l w number i = port_of_connection l.kind w number i.0

protocol_of_kind : (k : OpenKind) → is_connection k ≡ false → carrier_number (carrier_for k) ≡ protocol_for (kind_for k)
protocol_of_kind tftp c = refl
protocol_of_kind (http isn) c = absurd (false≢true (sym c))
protocol_of_kind (iscsi isn i) c = absurd (false≢true (sym c))
protocol_of_kind (dns id) c = refl
protocol_of_kind (dhcp x) c = refl
protocol_of_kind ping c = refl

protocol_by_objects : (os : OpenObjects) (l : Live) → AreOfKind os l → carrier_number (carrier_for l.kind) ≡ own_protocol_for os
protocol_by_objects (objects.Chain kind chain) l i = protocol_of_kind l.kind i.0 ∙ ap protocol_for (sym i.1)
protocol_by_objects (objects.Web port own chain) l i = tcp_of l.kind i.0
protocol_by_objects (objects.Drive port own chain) l i = tcp_of l.kind i.0

pub rising_on : (least most : ℕ) (os : List Living) → AreRising least most os → AreRising least (most + 1) os
rising_on least most [] h = tt
rising_on least most (o ∷ os) h = (h.0, let i = h.1 in omega (arith, i), rising_on (o.speaker.number + 1) most os h.2)

leases_one : (k : ChainKind) (sum : ℕ) → sum ≤ 1 → (k ≡ chain.Lease → sum ≡ 0) → sum + lease_count k ≤ 1
leases_one chain.File sum i f = omega (arith, i)
leases_one chain.Name sum i f = omega (arith, i)
leases_one chain.Lease sum i f = let e = f refl in omega (arith, e)
leases_one chain.Echo sum i f = omega (arith, i)
leases_one chain.Drive sum i f = omega (arith, i)

leases_by_objects : (os : OpenObjects) (l : Live) (sum : ℕ) → AreOfKind os l → sum ≤ 1 → (kind_for l.kind ≡ chain.Lease → sum ≡ 0) → sum + leases_in os ≤ 1
leases_by_objects (objects.Chain kind chain) l sum i few f = leases_one kind sum few (λ k. f (sym i.1 ∙ k))
leases_by_objects (objects.Web port own chain) l sum i few f = omega (arith, few)
leases_by_objects (objects.Drive port own chain) l sum i few f = omega (arith, few)

no_lease_in : (os : OpenObjects) → AreUntied os → leases_in os ≡ 0
no_lease_in (objects.Chain kind chain) u = u
no_lease_in (objects.Web port own chain) u = refl
no_lease_in (objects.Drive port own chain) u = refl

no_leases : (os : List Living) → AllByRecursion IsUntied os → sum_by lease_count_of os ≡ 0
no_leases [] u = refl
no_leases (p ∷ os) u = let s = sum_by-cons lease_count_of p os in let i = no_lease_in p.objects u.0 in let j = no_leases os u.1 in omega (arith, s, i, j)

all_live : (g h : Objects Obj) (P : Living → Type 0) → ((p : Living) (l : Live) → P p → IsLivingOf g p l → IsLivingOf h p l) → (os : List Living) → AllByRecursion P os → AllByRecursion (IsLivingOfSome g) os → AllByRecursion (IsLivingOfSome h) os
all_live g h P f [] far i = tt
all_live g h P f (p ∷ os) far i = ((i.0.0, f p i.0.0 far.0 i.0.1), all_live g h P f os far.1 i.1)

module _ (a : Opening) (w number now : ℕ) (link : Client) (o : Living) (is : o.speaker ≡ speaker_for a number) (mid : GraphState) (g h : Objects Obj) (list list' : List Living) (net' : Client) (told : List Out) (kept : o.drive ≡ drive_by a)
    (far : AllByRecursion (IsApartFrom (objects_ids o.objects)) list) (stay : (p : Living) (l : Live) → IsApartFrom (objects_ids o.objects) p → IsLivingOf g p l → IsLivingOf h p l) (same_room : h.book.room ≡ g.book.room) where
  own_port_so : IsSpeakerOf (bare_open o) (live_by a number now) → own_by a ≡ port_for (chain_kind a) w number → HasOwnPort w o
  own_port_so called own = record {
    port = sym called.own ∙ own ∙ ap (λ k. port_for k w number) (kind_is a) ∙ port_by_objects o.objects (live_by a number now) w number called.kind ∙ ap (own_port_for o.objects w) (sym (number_is a number o is));
    protocol = ap carrier_number called.carrier ∙ protocol_by_objects o.objects (live_by a number now) called.kind;
  }

  pub begun_sound : (end : Option Cause) → SetsOutOr end a number now link (bare_open o) mid h told → EntersBy end o list link list' net' → AreSound w number link (record { graph = g; list = list }) → number < 16384 → own_by a ≡ port_for (chain_kind a) w number →
      (chain_kind a ≡ chain.Lease → HasNoneTied (record { graph = g; list = list })) → AreSound w (number + 1) net' (record { graph = h; list = list' })
  begun_sound None sets enters sound few own lease =
      let l = live_by a number now in
      let called = sets.lives.called in
      record {
        w_fits = sound.w_fits;
        opens_fit = omega (arith, few);
        ports = ap (λ (c : Client). c.ports) enters.1 ∙ ap (λ z. z ++ bound_port o ∷ []) sound.ports ∙ sym (map-append bound_port list (o ∷ [])) ∙ ap (map bound_port) (sym enters.0);
        rising = subst (AreRising 0 (number + 1)) (sym enters.0) (rising_more 0 number list o (omega arith) (number_is a number o is) sound.rising);
        own = subst (AllByRecursion (HasOwnPort w)) (sym enters.0) (all_append (HasOwnPort w) list (o ∷ []) sound.own (own_port_so called own, tt));
        one_lease = subst (λ os. sum_by lease_count_of os ≤ 1) (sym enters.0)
            (let e = count_more lease_count_of list o in let i = leases_by_objects o.objects l (sum_by lease_count_of list) called.kind sound.one_lease (λ k. no_leases list (lease (kind_is a ∙ k))) in omega (arith, e, i));
        lives = subst (AllByRecursion (IsLivingOfSome h)) (sym enters.0) (all_append (IsLivingOfSome h) list (o ∷ []) (all_live g h (IsApartFrom (objects_ids o.objects)) stay list far sound.lives) ((l, begins_as a number now h o kept sets.lives), tt));
        apart = subst AreApart (sym enters.0) (apart_more list o sound.apart far);
        room = same_room ∙ sound.room;
      }
  begun_sound (Some cause) sets enters sound few own lease = record {
    w_fits = sound.w_fits;
    opens_fit = omega (arith, few);
    ports = ap (λ (c : Client). c.ports) enters.1 ∙ sound.ports ∙ ap (map bound_port) (sym enters.0);
    rising = subst (AreRising 0 (number + 1)) (sym enters.0) (rising_on 0 number list sound.rising);
    own = subst (AllByRecursion (HasOwnPort w)) (sym enters.0) sound.own;
    one_lease = subst (λ os. sum_by lease_count_of os ≤ 1) (sym enters.0) sound.one_lease;
    lives = subst (AllByRecursion (IsLivingOfSome h)) (sym enters.0) (all_live g h (IsApartFrom (objects_ids o.objects)) stay list far sound.lives);
    apart = subst AreApart (sym enters.0) sound.apart;
    room = same_room ∙ sound.room;
  }

-- none is tied but it
pub begun_tied : (end : Option Cause) (o : Living) (number : ℕ) (g h : Objects Obj) (list list' : List Living) (net net' : Client) → o.speaker.number ≡ number → EntersBy end o list net list' net' → HasNoneTied (record { graph = g; list = list }) → HasTiedOnlyOf (number_by end number) (record { graph = h; list = list' })
begun_tied None o number g h list list' net net' is enters none =
    subst (AllByRecursion (IsUntiedBut number)) (sym enters.0) (all_append (IsUntiedBut number) list (o ∷ []) (all_map IsUntied (IsUntiedBut number) list (λ p u d. u) none) ((λ d. absurd (d is)), tt))
begun_tied (Some cause) o number g h list list' net net' is enters none = subst (AllByRecursion IsUntied) (sym enters.0) none
