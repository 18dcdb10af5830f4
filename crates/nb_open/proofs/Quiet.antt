-- Notices by which nothing goes to the network: they have no records but the graph's, and lack no route.
use Rattle.std.proofs.Common.{◌≡◌, inl, inr, ℕ, ◌||◌, false, List, [], ◌∷◌, ◌++◌, map, None, refl, sym, ◌∙◌, ap, subst, append-nil}
use Rattle.std.proofs.Math.Bool.{or-false}
use Rattle.std.specs.List.{AllByRecursion}
use Rattle.std.proofs.lemmas.List.Folds.{list_any-append}
use Rattle.nb_ledger.specs.declared.event.GraphEvent.{GraphEvent}
use Rattle.nb_ledger.specs.declared.port.Port.{Port}
use Rattle.nb_ledger.specs.Flat.{Notice, event, message}
use Rattle.nb_graph.specs.Trace.{Said}
use Rattle.nb_traced.specs.Plain.{without_graph}
use Rattle.nb_opens.specs.Notices.{sent_from, tells}
use Rattle.nb_stack.specs.Client.{Client}
use Rattle.nb_chains.specs.Shapes.{IsTagUp, SendsNone}
use Rattle.nb_teller.specs.declared.speaker.Speaker.{Speaker}
use Rattle.nb_teller.specs.Tellings.{any_lacks_route, lacks_route, message_records, message_lacks_route, told_records}
use Rattle.nb_traced.proofs.Plain.{plain_append}
use Rattle.nb_teller.proofs.TellingLemmas.{told-append}
use Rattle.nb_teller.specs.Deliveries.{delivered_address, delivered_answer, delivered_blocks, delivered_bytes}
use Rattle.nb_open.proofs.Delivering.{AreEvents, address_then, answer_then, blocks_then, bytes_then, no_address, no_answer, no_blocks, no_bytes}

-- an event, or a message to the user
abbrev pub IsQuiet : Notice → Type 0
IsQuiet (event e) = Unit {0}
IsQuiet (message from tag rec a b bytes) = IsTagUp tag

abbrev pub AreQuiet : List Notice → Type 0
AreQuiet ns = AllByRecursion IsQuiet ns

pub quiet_append : (xs ys : List Notice) → AreQuiet xs → AreQuiet ys → AreQuiet (xs ++ ys)
quiet_append [] ys p q = q
quiet_append (x ∷ xs) ys p q = (p.0, quiet_append xs ys p.1 q)

pub quiet_events : (es : List GraphEvent) → AreQuiet (map tells es)
quiet_events [] = tt
quiet_events (e ∷ es) = (tt, quiet_events es)

pub quiet_ups : (p : Port) (ms : List Said) → AllByRecursion (λ (m : Said). IsTagUp m.tag) ms → AreQuiet (map (sent_from p) ms)
quiet_ups p [] h = tt
quiet_ups p (m ∷ ms) h = (h.0, quiet_ups p ms h.1)

pub quiet_above : (x : ℕ) (ns : List Notice) → SendsNone x ns → AreQuiet ns
quiet_above x [] h = tt
quiet_above x (event e ∷ ns) h = (tt, quiet_above x ns h.1)
quiet_above x (message from tag rec a b bytes ∷ ns) h = (h.0, quiet_above x ns h.1)

up_records : (net : Client) (who : Speaker) (tag a b : ℕ) (bytes : List ℕ) → IsTagUp tag → message_records net who tag a b bytes ≡ []
up_records net who tag a b bytes (inl e) = subst (λ t. message_records net who t a b bytes ≡ []) (sym e) refl
up_records net who tag a b bytes (inr e) = subst (λ t. message_records net who t a b bytes ≡ []) (sym e) refl

up_lacks : (net : Client) (who : Speaker) (tag b : ℕ) (bytes : List ℕ) → IsTagUp tag → message_lacks_route net who tag b bytes ≡ false
up_lacks net who tag b bytes (inl e) = subst (λ t. message_lacks_route net who t b bytes ≡ false) (sym e) refl
up_lacks net who tag b bytes (inr e) = subst (λ t. message_lacks_route net who t b bytes ≡ false) (sym e) refl

module _ (net : Client) (who : Speaker) where
  pub quiet_others : (ns : List Notice) → AreQuiet ns → without_graph (told_records net who ns) ≡ []
  quiet_others [] h = refl
  quiet_others (event e ∷ ns) h = quiet_others ns h.1
  quiet_others (message from tag rec a b bytes ∷ ns) h = ap (λ z. without_graph (z ++ told_records net who ns)) (up_records net who tag a b bytes h.0) ∙ quiet_others ns h.1

  pub quiet_lacks : (ns : List Notice) → AreQuiet ns → any_lacks_route net who ns ≡ false
  quiet_lacks [] h = refl
  quiet_lacks (event e ∷ ns) h = quiet_lacks ns h.1
  quiet_lacks (message from tag rec a b bytes ∷ ns) h = ap (λ z. z || any_lacks_route net who ns) (up_lacks net who tag b bytes h.0) ∙ quiet_lacks ns h.1

  -- what stands after notices by which something goes down, or before them, and on both sides
  pub others_then : (xs ys : List Notice) → AreQuiet ys → without_graph (told_records net who (xs ++ ys)) ≡ without_graph (told_records net who xs)
  others_then xs ys h =
      ap without_graph (told-append net who xs ys) ∙ (plain_append (told_records net who xs) (told_records net who ys)
      ∙ (ap (λ z. without_graph (told_records net who xs) ++ z) (quiet_others ys h) ∙ append-nil (without_graph (told_records net who xs))))

  pub lacks_then : (xs ys : List Notice) → AreQuiet ys → any_lacks_route net who (xs ++ ys) ≡ any_lacks_route net who xs
  lacks_then xs ys h =
      list_any-append (lacks_route net who) xs ys ∙ (ap (λ z. any_lacks_route net who xs || z) (quiet_lacks ys h) ∙ or-false (any_lacks_route net who xs))

  pub others_within : (xs downs ys : List Notice) → AreQuiet xs → AreQuiet ys → without_graph (told_records net who (xs ++ (downs ++ ys))) ≡ without_graph (told_records net who downs)
  others_within xs downs ys p q =
      ap without_graph (told-append net who xs (downs ++ ys)) ∙ (plain_append (told_records net who xs) (told_records net who (downs ++ ys))
      ∙ (ap (λ z. z ++ without_graph (told_records net who (downs ++ ys))) (quiet_others xs p) ∙ others_then downs ys q))

  pub lacks_within : (xs downs ys : List Notice) → AreQuiet xs → AreQuiet ys → any_lacks_route net who (xs ++ (downs ++ ys)) ≡ any_lacks_route net who downs
  lacks_within xs downs ys p q =
      list_any-append (lacks_route net who) xs (downs ++ ys) ∙ (ap (λ z. z || any_lacks_route net who (downs ++ ys)) (quiet_lacks xs p) ∙ lacks_then downs ys q)

  -- what puts nothing on both sides
  pub both_silent : (xs ys : List Notice) → without_graph (told_records net who xs) ≡ [] → without_graph (told_records net who ys) ≡ [] → without_graph (told_records net who (xs ++ ys)) ≡ []
  both_silent xs ys p q =
      ap without_graph (told-append net who xs ys) ∙ (plain_append (told_records net who xs) (told_records net who ys) ∙ (ap (λ z. z ++ without_graph (told_records net who ys)) p ∙ q))

-- What is told more puts nothing but records of the graph, and delivers nothing.
pub record AddsNothing (net : Client) (who : Speaker) (more : List Notice) : Type 0 where
  pub others : without_graph (told_records net who more) ≡ []
  pub bytes : delivered_bytes more ≡ None
  pub address : delivered_address more ≡ None
  pub blocks : delivered_blocks more ≡ []
  pub answer : delivered_answer more ≡ None

events_quiet : (ns : List Notice) → AreEvents ns → AreQuiet ns
events_quiet [] h = tt
events_quiet (event e ∷ ns) h = (tt, events_quiet ns h.1)
events_quiet (message from tag rec a b bytes ∷ ns) h = absurd h.0

module _ (net : Client) (who : Speaker) where
  pub events_add : (more : List Notice) → AreEvents more → AddsNothing net who more
  events_add more h = record { others = quiet_others net who more (events_quiet more h); bytes = no_bytes more h; address = no_address more h; blocks = no_blocks more h; answer = no_answer more h }

  -- before more, and both
  pub others_more : (ns more : List Notice) → AddsNothing net who more → without_graph (told_records net who (ns ++ more)) ≡ without_graph (told_records net who ns)
  others_more ns more h =
      ap without_graph (told-append net who ns more) ∙ (plain_append (told_records net who ns) (told_records net who more)
      ∙ (ap (λ z. without_graph (told_records net who ns) ++ z) h.others ∙ append-nil (without_graph (told_records net who ns))))

  pub adds_both : (xs ys : List Notice) → AddsNothing net who xs → AddsNothing net who ys → AddsNothing net who (xs ++ ys)
  adds_both xs ys p q = record {
    others = others_more xs ys q ∙ p.others;
    bytes = bytes_then xs ys q.bytes ∙ p.bytes;
    address = address_then xs ys q.address ∙ p.address;
    blocks = blocks_then xs ys q.blocks ∙ p.blocks;
    answer = answer_then xs ys q.answer ∙ p.answer;
  }
