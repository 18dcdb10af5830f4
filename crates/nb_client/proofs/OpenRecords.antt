-- The records of an open that begins, and the client without its ports.
use Rattle.std.proofs.Common.{◌≡◌, ℕ, ◌<◌, ◌≤◌, ◌&&◌, length, nat_lt, nat_le, arith, true, cond, List, [], ◌∷◌, ◌++◌, Option, Some, None, refl, ◌∙◌, ap}
use Rattle.std.proofs.lemmas.Bool.Decides.{nat_tests}
use Rattle.std.specs.List.{list_all}
use Rattle.nb_defs.specs.Records.{Out, sent}
use Rattle.nb_dns.specs.WrittenNames.{is_lookup_name}
use Rattle.nb_dns.proofs.WrittenLemmas.{name_tested}
use Rattle.nb_dhcp.specs.Acting.{to_servers}
use Rattle.nb_dhcp.specs.Messages.{message_text}
use Rattle.nb_dns.specs.Lookups.{query_to}
use Rattle.nb_ping.specs.Pings.{echo_request}
use Rattle.nb_machine.specs.Cores.{look_up_of, ping_of}
use Rattle.nb_machine.specs.Transfers.{transfer_of}
use Rattle.nb_ledger.specs.declared.event.GraphEvent.{GraphEvent}
use Rattle.nb_machine.specs.Kinds.{first_records}
use Rattle.nb_machine.specs.Connections.{connection_of, syn_message}
use Rattle.nb_machine.specs.Lives.{OpenKind, tftp, http, iscsi, dns, dhcp, ping, Live, open_record}
use Rattle.nb_machine.specs.Sendings.{has_route, is_on_its_way, request_of, send_records, try_records}
use Rattle.nb_machine.specs.States.{bare}
use Rattle.nb_network.specs.Openings.{begun_records, end_of_begun}
use Rattle.nb_nodes.specs.Asking.{is_nonzero, is_path}
use Rattle.nb_nodes.specs.LookupExchanges.{can_look_up}
use Rattle.nb_nodes.proofs.LookupExchangeLemmas.{good_name}
use Rattle.nb_traced.specs.Plain.{without_graph}
use Rattle.nb_traced.proofs.Plain.{plain_append, plain_behind}
use Rattle.nb_stack.specs.Client.{Client}
use Rattle.nb_stack.specs.Sends.{put_on, way_of}
use Rattle.nb_stack.proofs.WayLaws.{same_put, same_way}
use Rattle.nb_terms.specs.declared.acts.SendTo.{SendTo}
use Rattle.nb_terms.specs.declared.cause.Cause.{Cause}
use Rattle.nb_tftpmsg.specs.Texts.{HasNoZero}

-- WHAT MAY BE ASKED FOR

path_is_clean : (path : List ℕ) → HasNoZero path → list_all is_nonzero path ≡ true
path_is_clean [] clean = refl
path_is_clean (b ∷ path) clean = ap (λ x. x && list_all is_nonzero path) (above b clean.0) ∙ path_is_clean path clean.1
  where
    above : (n : ℕ) → 0 < n → nat_lt 0 n ≡ true
    above n h = grind (arith, nat_tests)

pub path_opens : (path : List ℕ) → HasNoZero path → length path ≤ 1024 → is_path path ≡ true
path_opens path clean short = ap (λ x. x && list_all is_nonzero path) within ∙ path_is_clean path clean
  where
    within : nat_le (length path) 1024 ≡ true
    within = grind (arith, nat_tests)

pub name_opens : (name : List ℕ) → is_lookup_name name ≡ true → can_look_up name ≡ true
name_opens name is = good_name name (name_tested name is)

-- PORTS MAKE NO WAY AND NO FRAME

route_of_bare : (c : Client) (m : SendTo) → has_route (bare c) m ≡ has_route c m
route_of_bare c m = same_way is_on_its_way refl (bare c) c (way_of c m)

sent_of_bare : (c : Client) (k : ℕ) (try : Option ℕ) (m : SendTo) → send_records (bare c) k try m ≡ send_records c k try m
sent_of_bare c k try m =
    ap (λ b. cond b (try_records k try ++ (sent (put_on (bare c) m (way_of (bare c) m)) ∷ [])) []) (route_of_bare c m)
    ∙ ap (λ bytes. cond (has_route c m) (try_records k try ++ (sent bytes ∷ [])) []) (same_put c [] m (way_of c m))

first_of_bare : (c : Client) (k : ℕ) (m : SendTo) →
    cond (has_route (bare c) m) (Some (send_records (bare c) k (Some 1) m)) None ≡ cond (has_route c m) (Some (send_records c k (Some 1) m)) None
first_of_bare c k m =
    ap (λ b. cond b (Some (send_records (bare c) k (Some 1) m)) None) (route_of_bare c m)
    ∙ ap (λ (x : List Out). cond (has_route c m) (Some x) None) (sent_of_bare c k (Some 1) m)

pub first_bare : (kind : OpenKind) (l : Live) (c : Client) → first_records kind l (bare c) ≡ first_records kind l c
first_bare tftp l c = first_of_bare c l.number (request_of (transfer_of l))
first_bare (http isn) l c = first_of_bare c l.number (syn_message (connection_of isn l))
first_bare (iscsi isn i) l c = first_of_bare c l.number (syn_message (connection_of isn l))
first_bare (dns id) l c = first_of_bare c l.number (query_to (look_up_of id l))
first_bare (dhcp a) l c = first_of_bare c l.number (to_servers (message_text a None))
first_bare ping l c = first_of_bare c l.number (echo_request (ping_of l))

-- THE RECORDS WITHOUT THE GRAPH'S

pub plain_begun : (made : List GraphEvent) (l : Live) (told : List Out) (ended : Option Cause) →
    without_graph (begun_records made l told ended) ≡ open_record l ∷ (without_graph told ++ without_graph (end_of_begun ended l))
plain_begun made l told ended =
    plain_behind made (open_record l ∷ (told ++ end_of_begun ended l)) ∙ ap (λ t. open_record l ∷ t) (plain_append told (end_of_begun ended l))
