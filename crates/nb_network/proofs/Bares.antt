-- An open says of a client what it would say of one without ports: ports make no way and no frame.
use Rattle.std.proofs.Common.{◌≡◌, ℕ, cond, not, ◌||◌, List, [], ◌∷◌, ◌++◌, Option, Some, None, refl, ◌∙◌, ap}
use Rattle.std.specs.List.{list_any}
use Rattle.nb_terms.specs.declared.acts.Acts.{Acts}
use Rattle.nb_terms.specs.declared.acts.SendTo.{SendTo}
use Rattle.nb_defs.specs.Records.{sent}
use Rattle.nb_stack.specs.Client.{Client}
use Rattle.nb_stack.specs.Brings.{Brought, arp_message}
use Rattle.nb_stack.specs.Takes.{client_after}
use Rattle.nb_stack.specs.Sends.{way_of, put_on}
use Rattle.nb_stack.proofs.WayLaws.{same_way, same_put}
use Rattle.nb_machine.specs.Sendings.{is_on_its_way, has_route, try_records, send_records, sends_records, advance_records, acts_records, end_with_body}
use Rattle.nb_machine.specs.States.{bare}
use Rattle.nb_machine.specs.Transfers.{transfer_records, transfer_end, end_records, earlier_end}
use Rattle.nb_machine.specs.Cores.{core_records, core_end}
use Rattle.nb_machine.specs.CommandRecords.{no_route}
use Rattle.nb_machine.specs.Connections.{Connection, segment_records, loses_way, talk_end, put_records}
use Rattle.nb_talks.specs.TalkPromises.{Sends, Put}
use Rattle.nb_tcp.specs.Messages.{outgoing_message}

pub bare_route : (c : Client) (m : SendTo) → has_route (bare c) m ≡ has_route c m
bare_route c m = same_way is_on_its_way refl (bare c) c (way_of c m)

pub bare_after : (c : Client) (m : Brought) → client_after (bare c) m ≡ bare (client_after c m)
bare_after c (arp_message from arp) = refl
bare_after c m = refl

pub bare_send : (c : Client) (k : ℕ) (try : Option ℕ) (m : SendTo) → send_records (bare c) k try m ≡ send_records c k try m
bare_send c k try m =
    ap (λ b. cond b (try_records k try ++ (sent (put_on (bare c) m (way_of (bare c) m)) ∷ [])) []) (bare_route c m)
    ∙ ap (λ bytes. cond (has_route c m) (try_records k try ++ (sent bytes ∷ [])) []) (same_put c [] m (way_of c m))

bare_sends : (c : Client) (k : ℕ) (try : Option ℕ) (ms : List SendTo) → sends_records (bare c) k try ms ≡ sends_records c k try ms
unfolding sends_records
bare_sends c k try [] = refl
bare_sends c k try (m ∷ []) = bare_send c k try m
bare_sends c k try (m ∷ n ∷ ms) =
    ap (λ z. z ++ sends_records (bare c) k try (n ∷ ms)) (bare_send c k None m)
    ∙ ap (λ z. send_records c k None m ++ z) (bare_sends c k try (n ∷ ms))

bare_acts : (c : Client) (k : ℕ) (acts : Acts) → acts_records (bare c) k acts ≡ acts_records c k acts
unfolding acts_records
bare_acts c k acts = ap (λ z. advance_records k acts.advance ++ z) (bare_sends c k acts.tried acts.sends.items)

bare_any : (c : Client) (ms : List SendTo) → list_any (λ m. not (has_route (bare c) m)) ms ≡ list_any (λ m. not (has_route c m)) ms
bare_any c [] = refl
bare_any c (m ∷ ms) = ap (λ b. not b || list_any (λ m. not (has_route (bare c) m)) ms) (bare_route c m) ∙ ap (λ b. not (has_route c m) || b) (bare_any c ms)

pub bare_transfer : (k server : ℕ) (c : Client) (body : List ℕ) (acts : Acts) → transfer_records k server (bare c) body acts ≡ transfer_records k server c body acts
bare_transfer k server c body acts =
    ap (λ z. z ++ end_records k (transfer_end server (bare c) body acts)) (bare_acts c k acts)
    ∙ ap (λ b. acts_records c k acts ++ end_records k (earlier_end (end_with_body body acts) (cond b (Some (no_route server)) None))) (bare_any c acts.sends.items)

pub bare_core : (k server : ℕ) (c : Client) (acts : Acts) → core_records k server (bare c) acts ≡ core_records k server c acts
bare_core k server c acts =
    ap (λ z. z ++ end_records k (core_end server (bare c) acts)) (bare_acts c k acts)
    ∙ ap (λ b. acts_records c k acts ++ end_records k (earlier_end acts.over (cond b (Some (no_route server)) None))) (bare_any c acts.sends.items)

-- what a connection puts
segments_bare : (c : Connection) (link : Client) (sends : Sends) → segment_records c (bare link) sends ≡ segment_records c link sends
segments_bare c link [] = refl
segments_bare c link (s ∷ sends) =
    ap (λ z. z ++ segment_records c (bare link) sends) (bare_send link c.number s.1 (outgoing_message c.link s.0))
    ∙ ap (λ z. send_records link c.number s.1 (outgoing_message c.link s.0) ++ z) (segments_bare c link sends)

loses_bare : (c : Connection) (link : Client) (sends : Sends) → loses_way c (bare link) sends ≡ loses_way c link sends
loses_bare c link [] = refl
loses_bare c link (s ∷ sends) =
    ap (λ b. not b || loses_way c (bare link) sends) (bare_route link (outgoing_message c.link s.0)) ∙ ap (λ b. not (has_route link (outgoing_message c.link s.0)) || b) (loses_bare c link sends)

pub put_bare : (c : Connection) (link : Client) (p : Put) → put_records c (bare link) p ≡ put_records c link p
put_bare c link p =
    ap (λ z. (advance_records c.number p.advance ++ z) ++ end_records c.number (talk_end c (bare link) p)) (segments_bare c link p.sends)
    ∙ ap (λ b. (advance_records c.number p.advance ++ segment_records c link p.sends) ++ end_records c.number (earlier_end p.over (cond b (Some (no_route c.server)) None))) (loses_bare c link p.sends)
